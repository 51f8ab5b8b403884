use Rattle.std.proofs.Common.{◌<◌, ◌≤◌, length, subst}
use Rattle.std.specs.Prelude.{All}
use Rattle.sym_closure.specs.Private.Marks.{Marked}
use Rattle.sym_closure.proofs.MarkLemmas.{marked_below, marked_few}
use Rattle.sym_closure.proofs.reached.Reached.at.Goals as goal

pub returns-clause-below : goal.returns-clause-below
returns-clause-below c =
    let P : Marked → Type 0 = λ value. All (λ number. number < value.bound) value.order in
    subst P c.self.view_is (marked_below c.self.inside.order c.self.inside.marks.items c.self.invariant)

pub returns-clause-few : goal.returns-clause-few
returns-clause-few c =
    let P : Marked → Type 0 = λ value. length value.order ≤ value.bound in
    subst P c.self.view_is (marked_few c.self.inside.order c.self.inside.marks.items c.self.invariant)
