use Rattle.std.proofs.Common.{◌∙◌, sym, ap, subst}
use Rattle.std.specs.List.{slice_get}
use Rattle.key_tree.specs.Private.Lowest.{IsLowestFrom}
use Rattle.key_tree.specs.Private.Seats.{is_vacant}
use Rattle.key_tree.proofs.VacantLemmas.{lowest_vacant}
use Rattle.key_tree.proofs.vacant.Vacant.lowest.Goals as goal

pub returns : goal.returns
returns c =
    let vacant = c.args.self.now in
    let free = c.args.free.now.leaves in
    subst (IsLowestFrom (is_vacant free vacant.left) vacant.from) (sym c.lower.ensures)
    (lowest_vacant vacant c.requires.vacant free c.lowest_from-was_free.result c.copied-was_left.result c.lowest_from-was_free.ensures
    (c.copied-was_left.ensures ∙ c.first.ensures.value ∙ ap (λ l. slice_get l 0) c.rest.ensures))
