use Rattle.std.proofs.Common.{◌≡◌, ◌-◌, ◌∙◌, List, ℕ, ap, refl, arith}
use Rattle.gd_cipher.specs.Fields.{undo_substitute}
use Rattle.gd_cipher.specs.Blocks.{undo_sub_bytes, undo_shift_rows}
use Rattle.gd_cipher.specs.Ciphers.{add_round_key}
use Rattle.gd_cipher.specs.Words.{bytes_of}
use Rattle.gd_cipher.specs.Private.Equivalents.{equivalently_undone}
use Rattle.gd_cipher.proofs.EquivalentLemmas.{mix_by_one, opened_by}
use Rattle.gd_cipher.proofs.RunLemmas.{one_round_undone}
use Rattle.gd_cipher.proofs.StateLemmas.{AreBytes-state}
use Rattle.gd_cipher.proofs.blocks.decrypt.Goals as goal

pub loop-round-init : goal.loop-round-init
loop-round-init c =
    let keys : List ℕ = bytes_of c.args.words.now in
    record {
      down = omega arith;
      left =
          one_round_undone keys (c.args.rounds - 1) (bytes_of c.with_key-first.result) (bytes_of c.backward-state.result) (omega arith)
          (c.backward-state.ensures undo_substitute 14 11 13 9 c.unmixed.ensures)
          ∙ ap (equivalently_undone keys (c.args.rounds - 1)) c.with_key-first.ensures;
    }

pub loop-round-preserved : goal.loop-round-preserved
loop-round-preserved c = record {
  down = omega arith;
  left =
      one_round_undone (bytes_of c.args.words.now) (c.loop-round.round - 1) (bytes_of c.loop-round.state) (bytes_of c.backward-next.result) (omega arith)
      (c.backward-next.ensures undo_substitute 14 11 13 9 c.unmixed-in-loop-round.ensures)
      ∙ c.loop-round.invariant.left;
}

pub returns : goal.returns
returns c key are =
    let keys : List ℕ = bytes_of c.args.words.now in
    let last : 0 ≡ c.loop-round.round - 1 = omega arith in
    c.backward.ensures undo_substitute 1 0 0 0 c.unsubstituted.ensures
    ∙ ap (add_round_key keys 0) (mix_by_one (undo_shift_rows (undo_sub_bytes (bytes_of c.loop-round.state))) refl
    ∙ ap (λ (bytes : List ℕ). undo_shift_rows (undo_sub_bytes bytes)) (ap (λ (n : ℕ). equivalently_undone keys n (bytes_of c.loop-round.state)) last ∙ c.loop-round.invariant.left))
    ∙ opened_by key c.args.rounds c.args.words.now (bytes_of c.args.state) are (AreBytes-state c.args.state (omega arith))
