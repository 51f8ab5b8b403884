use Rattle.std.proofs.Common.{◌∷◌, [], ◌++◌, length, Some, refl, ap, sym, ◌∙◌, arith}
use Rattle.std.proofs.lemmas.List.{append_assoc, length-append}
use Rattle.script_text.specs.Words.{words_of}
use Rattle.script_text.specs.Lines.{names_of}
use Rattle.script_text.proofs.LineLemmas.{names_of-more, names_of-none, members_of-none}
use Rattle.script_text.proofs.members.read_members.Goals as goal

pub loop-word-init : goal.loop-word-init
loop-word-init c =
    let none = ap length c.new-members.ensures in
    record { few = omega (arith, none); words = ([], refl, sym none, ap Some (sym c.new-members.ensures)) }

pub loop-word-preserved : goal.loop-word-preserved
loop-word-preserved c =
    let before = c.loop-word.invariant.words in
    let word = c.in-Some.word.now in
    let name = c.in_ok-read.field-0 in
    let grown = ap length c.push.ensures in
    record {
      few = omega (arith, grown, length-append c.loop-word.members (name ∷ []), c.loop-word.invariant.few, c.if-names-eq-MOST_MEMBERS.false, ap length c.names.ensures.names);
      words = (
        before.0 ++ word ∷ [],
        before.1 ∙ ap (λ rest. before.0 ++ rest) c.in-Some.ensures ∙ sym (append_assoc before.0 (word ∷ []) (words_of c.in-Some.behind.now)),
        omega (arith, grown, length-append c.loop-word.members (name ∷ []), length-append before.0 (word ∷ []), before.2),
        names_of-more before.0 c.loop-word.members word name before.3 (sym c.in_ok-read.ensures) ∙ ap Some (sym c.push.ensures),
      );
    }

pub returns-in_err-read : goal.returns-in_err-read
returns-in_err-read c =
    let before = c.loop-word.invariant.words in
    let word = c.in-Some.word.now in
    let words = before.1 ∙ ap (λ rest. before.0 ++ rest) c.in-Some.ensures in
    c.from_residual.ensures ∙ sym (members_of-none (words_of c.args.text.now) (ap names_of words ∙ names_of-none before.0 word (words_of c.in-Some.behind.now) (sym c.in_err-read.ensures)))
