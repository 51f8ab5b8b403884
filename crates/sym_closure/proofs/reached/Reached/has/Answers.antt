use Rattle.std.proofs.Common.{◌<◌, sym, subst}
use Rattle.std.specs.Prelude.{Contains, Decides}
use Rattle.sym_closure.specs.Private.Marks.{Marked}
use Rattle.sym_closure.proofs.MarkLemmas.{mark_read}
use Rattle.sym_closure.proofs.reached.Reached.has.Goals as goal

pub returns : goal.returns
returns c =
    let number = c.args.number in
    let order = c.self.inside.order in
    let marks = c.self.inside.marks.items in
    let Low : Marked → Type 0 = λ value. number < value.bound in
    let P : Marked → Type 0 = λ value. Decides c.index.result.now (Contains value.order number) in
    subst P c.self.view_is (mark_read order marks c.self.invariant number c.index.result.now (subst Low (sym c.self.view_is) c.requires)
    c.index.ensures)
