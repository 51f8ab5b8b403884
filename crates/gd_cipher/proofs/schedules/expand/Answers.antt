use Rattle.std.proofs.Common.{◌≡◌, ℕ, ◌*◌, ◌-◌, ◌/◌, ◌%◌, ◌<◌, map, get_or, bit_xor, sym, ap, ◌∙◌, ◌^◌, arith}
use Rattle.std.specs.Int.{w32, to_be_bytes}
use Rattle.std.proofs.Math.Nat.{div-eq_of_lt}
use Rattle.gd_cipher.specs.Blocks.{xor_all}
use Rattle.gd_cipher.specs.Fields.{substitute}
use Rattle.gd_cipher.specs.Schedules.{power_of_x, changed_word}
use Rattle.gd_cipher.proofs.ExpandLemmas.{schedule_of_words, expanded_more, passed_at, passed_between, power_more, changed_first, changed_middle, changed_short, changed_other}
use Rattle.gd_cipher.proofs.WordLemmas.{xor_bytes}
use Rattle.gd_cipher.proofs.schedules.expand.Goals as goal
use Rattle.gd_cipher.proofs.schedules.expand.Goals.{then-i-key_words-eq0, else-i-key_words-eq0+then-key_words-gt6+then-i-key_words-eq4, else-i-key_words-eq0+else-key_words-gt6, else-key_words-gt6-via-then-key_words-gt6+else-i-key_words-eq4, else-key_words-gt6-via-else-key_words-gt6}

pub loop-i-init : goal.loop-i-init
loop-i-init c = record {
  small = omega arith;
  power = ap power_of_x (sym (div-eq_of_lt {n = c.args.key_words - 1} {m = c.args.key_words} (omega arith)));
  rest = schedule_of_words c.args.key_words c.args.words.now c.requires.len;
}

pub loop-i-preserved : goal.loop-i-preserved
loop-i-preserved c =
    let last = get_or c.loop-i.words (c.loop-i.i - 1) 0 in
    let some : 0 < c.args.key_words = omega arith in
    let before = λ (first : c.loop-i.i % c.args.key_words ≡ 0). c.loop-i.invariant.power ∙ ap power_of_x (passed_at c.args.key_words c.loop-i.i some (omega arith) first) in
    let word : to_be_bytes w32 c.if-i-key_words-eq0.word ≡ changed_word c.args.key_words c.loop-i.i (to_be_bytes w32 last) = elim c.if-i-key_words-eq0.branch [
      | then-i-key_words-eq0 w ↦
          changed_first c.args.key_words c.loop-i.i last w.substituted_word.result c.loop-i.power c.if-i-key_words-eq0.word w.if-i-key_words-eq0.true (omega arith) c.loop-i.invariant.small (before w.if-i-key_words-eq0.true)
          (w.substituted_word.ensures ∙ ap (λ (n : ℕ). map substitute (to_be_bytes w32 n)) w.rotate_left.ensures)
          (w.word-is ∙ ap (λ (n : ℕ). bit_xor w.substituted_word.result (n * 2 ^ 24 % 2 ^ 32)) w.from.ensures)
      | else-i-key_words-eq0+then-key_words-gt6+then-i-key_words-eq4 w ↦
          ap (to_be_bytes w32) w.word-is ∙ w.substituted_word-word.ensures
          ∙ changed_middle c.args.key_words c.loop-i.i (to_be_bytes w32 last) w.if-i-key_words-eq0.false w.if-key_words-gt6.true w.if-i-key_words-eq4.true
      | else-i-key_words-eq0+else-key_words-gt6 w ↦
          ap (to_be_bytes w32) w.word-is ∙ elim w.else-key_words-gt6.branch [
            | else-key_words-gt6-via-then-key_words-gt6+else-i-key_words-eq4 v ↦ changed_other c.args.key_words c.loop-i.i (to_be_bytes w32 last) w.if-i-key_words-eq0.false v.if-i-key_words-eq4.false
            | else-key_words-gt6-via-else-key_words-gt6 v ↦ changed_short c.args.key_words c.loop-i.i (to_be_bytes w32 last) w.if-i-key_words-eq0.false v.if-key_words-gt6.false
          ]
    ] in
    let power : c.if-i-key_words-eq0.power ≡ power_of_x (c.loop-i.i / c.args.key_words) = elim c.if-i-key_words-eq0.branch [
      | then-i-key_words-eq0 w ↦
          w.power-is ∙ w.times_x-power.ensures
          ∙ power_more c.args.key_words c.loop-i.i c.loop-i.power some (omega arith) w.if-i-key_words-eq0.true (before w.if-i-key_words-eq0.true)
      | else-i-key_words-eq0+then-key_words-gt6+then-i-key_words-eq4 w ↦ w.power-is ∙ c.loop-i.invariant.power ∙ ap power_of_x (passed_between c.args.key_words c.loop-i.i some w.if-i-key_words-eq0.false)
      | else-i-key_words-eq0+else-key_words-gt6 w ↦ w.power-is ∙ c.loop-i.invariant.power ∙ ap power_of_x (passed_between c.args.key_words c.loop-i.i some w.if-i-key_words-eq0.false)
    ] in
    let small : c.if-i-key_words-eq0.power < 256 = elim c.if-i-key_words-eq0.branch [
      | then-i-key_words-eq0 w ↦ rw w.power-is w.times_x-power.type_inv
      | else-i-key_words-eq0+then-key_words-gt6+then-i-key_words-eq4 w ↦ rw w.power-is c.loop-i.invariant.small
      | else-i-key_words-eq0+else-key_words-gt6 w ↦ rw w.power-is c.loop-i.invariant.small
    ] in
    let made = get_or c.loop-i.words (c.loop-i.i - c.args.key_words) 0 in
    let sum = xor_bytes made c.if-i-key_words-eq0.word ∙ ap (xor_all (to_be_bytes w32 made)) word in
    record {
      small = small;
      power = power ∙ ap (λ (n : ℕ). power_of_x (n / c.args.key_words)) (omega arith);
      rest =
          expanded_more c.args.key_words c.loop-i.words c.loop-i.i (bit_xor made c.if-i-key_words-eq0.word) some (omega arith) (omega arith) sum
          ∙ c.loop-i.invariant.rest;
    }
