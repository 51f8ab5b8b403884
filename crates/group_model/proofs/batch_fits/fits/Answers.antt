-- The tests one after the other.
use Rattle.std.proofs.Common.{ℕ, ◌+◌, ◌≤◌, length, sym, subst, ◌∙◌}
use Rattle.std.specs.Bool.{Decides}
use Rattle.std.proofs.lemmas.Bool.{false≢true}
use Rattle.group_terms.specs.Changes.{leavers, joiners}
use Rattle.group_model.proofs.FitLemmas.{Fits-suits, Fits-last_test, Fits-failed_test}
use Rattle.group_model.proofs.batch_fits.fits.Goals as goal
use Rattle.group_model.proofs.batch_fits.fits.Goals.{then-all_suit, else-all_suit}

pub returns-then-are_named_once : goal.returns-then-are_named_once
returns-then-are_named_once c = elim c.if-all_suit.branch [
  | then-all_suit w ↦
      Fits-last_test c.args.holders.now c.changes-changes.result.now c.args.batch.now c.all_suit.result w.are_named_once.result c.have_room.result
      c.changes-changes.ensures.changes c.all_suit.ensures w.if-all_suit.true w.are_named_once.ensures (sym w.value-is ∙ c.if-are_named_once.true)
      (subst (λ (n : ℕ). Decides c.have_room.result (n + length (joiners c.args.batch.now) ≤ length c.args.holders.now + length (leavers c.args.batch.now))) c.requires.members c.have_room.ensures)
  | else-all_suit w ↦ absurd (false≢true (sym (w.value-is ∙ w.if-all_suit.false) ∙ c.if-are_named_once.true))
]

pub returns-else-are_named_once : goal.returns-else-are_named_once
returns-else-are_named_once c =
    let refused = Fits-failed_test c.args.holders.now c.changes-changes.result.now c.args.batch.now c.if-all_suit.value c.changes-changes.ensures.changes c.if-are_named_once.false in
    elim c.if-all_suit.branch [
      | then-all_suit w ↦ refused (λ fits. w.value-is ∙ w.are_named_once.ensures ∙ fits.once)
      | else-all_suit w ↦ refused (λ fits. w.value-is ∙ c.all_suit.ensures ∙ Fits-suits c.args.holders.now c.changes-changes.result.now fits)
    ]
