use Rattle.std.proofs.Common.{◌∷◌, [], ◌<◌, true, set, sym, ◌∙◌, subst}
use Rattle.std.specs.Prelude.{Contains}
use Rattle.std.proofs.lemmas.Bool.{false≢true}
use Rattle.sym_closure.specs.Private.Gains.{Gains}
use Rattle.sym_closure.specs.Private.Marks.{Marked, AreMarked}
use Rattle.sym_closure.proofs.FirstLemmas.{Gains-new, Gains-old}
use Rattle.sym_closure.proofs.MarkLemmas.{mark_read, AreMarked-more}
use Rattle.sym_closure.proofs.reached.Reached.add.Goals as goal

pub invariant_of-self-then-not-index : goal.invariant_of-self-then-not-index
invariant_of-self-then-not-index c =
    let number = c.args.number in
    let order = c.self.inside.order in
    let marks = c.self.inside.marks.items in
    let Low : Marked → Type 0 = λ value. number < value.bound in
    let more = AreMarked-more order marks c.self.invariant number c.index.result.now (subst Low (sym c.self.view_is) c.requires)
    c.index.ensures c.if-not-index.true in
    subst (λ all. AreMarked all (set marks number true)) (sym c.in_ok-push.ensures.ok) more

pub returns-in_ok-push-clause-gains : goal.returns-in_ok-push-clause-gains
returns-in_ok-push-clause-gains c =
    let number = c.args.number in
    let order = c.self.inside.order in
    let marks = c.self.inside.marks.items in
    let Low : Marked → Type 0 = λ value. number < value.bound in
    let decides = mark_read order marks c.self.invariant number c.index.result.now (subst Low (sym c.self.view_is) c.requires)
    c.index.ensures in
    let new : Contains order number → ⊥ = λ there. false≢true (sym c.if-not-index.true ∙ decides.1 there) in
    let P : Marked → Type 0 = λ value. Gains value.order (number ∷ []) c.push.new.self in
    subst P c.self.view_is (subst (Gains order (number ∷ [])) (sym c.in_ok-push.ensures.ok) (Gains-new order number new))

pub returns-else-not-index-clause-gains : goal.returns-else-not-index-clause-gains
returns-else-not-index-clause-gains c =
    let number = c.args.number in
    let order = c.self.inside.order in
    let marks = c.self.inside.marks.items in
    let Low : Marked → Type 0 = λ value. number < value.bound in
    let decides = mark_read order marks c.self.invariant number c.index.result.now (subst Low (sym c.self.view_is) c.requires)
    c.index.ensures in
    let P : Marked → Type 0 = λ value. Gains value.order (number ∷ []) value.order in
    subst P c.self.view_is (Gains-old order number (decides.0 c.if-not-index.false))
