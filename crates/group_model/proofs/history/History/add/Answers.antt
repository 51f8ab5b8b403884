use Rattle.std.proofs.Common.{◌≡◌, ◌≤◌, ◌^◌, length, ap, sym, subst, ◌∙◌, arith}
use Rattle.std.specs.List.{zip}
use Rattle.std.proofs.lemmas.List.{length-map}
use Rattle.std.proofs.Math.Pow.{pow_mono, pow_pos}
use Rattle.group_model.specs.declared.history.Row.{Row}
use Rattle.group_model.specs.Histories.{Batches}
use Rattle.group_model.specs.Places.{Fits, holders_of, holders_after, member_count}
use Rattle.group_model.specs.Private.Handovers.{all_handed_over}
use Rattle.group_model.specs.Private.Rows.{batches_of}
use Rattle.group_model.proofs.EpochLemmas.{length-holders_of}
use Rattle.group_model.proofs.RowLemmas.{AreRows-push}
use Rattle.group_model.proofs.history.History.add.Goals as goal

pub new-requires-clause-some : goal.new-requires-clause-some
new-requires-clause-some c =
    let history = c.args.self.now in
    omega (arith, c.in_ok-after.ensures.len, ap length c.as_slice-3.ensures, ap length (c.as_slice.ensures ∙ c.in_ok-before.ensures), length-holders_of history.depth history.batches, pow_pos history.depth)

pub new-requires-clause-few : goal.new-requires-clause-few
new-requires-clause-few c =
    let history = c.args.self.now in
    let shallow : history.depth ≤ 9 = subst (λ (history : Batches). history.depth ≤ 9) c.self.view_is c.self.invariant.not_deep in
    omega (arith, c.in_ok-after.ensures.len, ap length c.as_slice-3.ensures, ap length (c.as_slice.ensures ∙ c.in_ok-before.ensures), length-holders_of history.depth history.batches, pow_mono shallow)

pub invariant_of-self-2 : goal.invariant_of-self-2
invariant_of-self-2 c =
    let rows = c.self.inside.rows in
    let depth = c.self.inside.depth in
    let batches = batches_of rows in
    let before = c.in_ok-before.before in
    let after = c.in_ok-after.after in
    let was : before ≡ holders_of depth batches = c.in_ok-before.ensures ∙ ap (λ (history : Batches). holders_of history.depth history.batches) (sym c.self.view_is) in
    let leaves : length after ≡ 2 ^ depth = c.in_ok-after.ensures.len ∙ ap length (c.as_slice.ensures ∙ was) ∙ length-holders_of depth batches in
    let changes : c.in_ok-row.row.changes ≡ c.args.batch = c.in_ok-row.ensures.changes ∙ c.changes-2.ensures.changes in
    let fits : Fits (holders_of depth batches) c.args.batch = subst (λ (history : Batches). Fits (holders_of history.depth history.batches) c.args.batch) (sym c.self.view_is) c.requires.fits in
    rw c.in_ok-push.ensures.ok (AreRows-push depth rows c.self.inside.holders c.in_ok-row.row after c.self.invariant
    (omega (arith, c.requires.room, ap (λ (history : Batches). length history.batches) c.self.view_is, length-map rows (λ (row : Row). row.changes)))
    (subst (Fits (holders_of depth batches)) (sym changes) fits)
    (c.in_ok-after.ensures.holders ∙ (λ j. holders_after ((c.as_slice.ensures ∙ was) j) ((c.changes.ensures.changes ∙ sym changes) j)))
    (c.in_ok-row.ensures.handovers ∙ (λ j. all_handed_over ((ap length c.as_slice-3.ensures ∙ leaves) j) (zip ((c.as_slice-2.ensures ∙ was) j) (c.as_slice-3.ensures j))))
    (c.in_ok-row.ensures.members ∙ ap member_count c.as_slice-3.ensures))
