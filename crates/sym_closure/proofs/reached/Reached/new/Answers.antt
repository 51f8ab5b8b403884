use Rattle.std.proofs.Common.{[], sym, subst}
use Rattle.sym_closure.specs.Private.Marks.{AreMarked}
use Rattle.sym_closure.proofs.MarkLemmas.{AreMarked-none}
use Rattle.sym_closure.proofs.reached.Reached.new.Goals as goal

pub invariant_of-result : goal.invariant_of-result
invariant_of-result c =
    let marks = c.in_ok-vec.field-0.items in
    subst (λ order. AreMarked order marks) (sym c.new.ensures)
    (subst (AreMarked []) (sym (c.in_ok-vec.ensures.items_if_clones_equal (λ y same. same))) (AreMarked-none c.args.bound))
