use Rattle.std.proofs.Common.{List, length, ap, ◌∙◌}
use Rattle.std.proofs.lemmas.List.FromFn.{length-map-range_with_len}
use Rattle.desk.specs.Views.{Holder}
use Rattle.desk.proofs.makes.made_at.Goals as goal

pub returns-clause-many : goal.returns-clause-many
returns-clause-many g c =
    let laid = c.in_ok-table.ensures.ok in
    ap (λ (l : List (Holder g.row.K-Entry.Denot g.row.K-Tag.Denot)). length l) c.hand_over-held.ensures.passes ∙ (length-map-range_with_len _ 1 _ ∙ ap (λ t. t.passes) laid.told)
