use Rattle.std.proofs.Common.{◌≡◌, ◌+◌, ◌∷◌, [], ◌++◌, take, ap, sym, ◌∙◌, subst}
use Rattle.std.proofs.lemmas.List.{take_more}
use Rattle.sym_closure.specs.Private.Gains.{Gains}
use Rattle.sym_closure.proofs.FirstLemmas.{Gains-none, Gains-then}
use Rattle.sym_closure.proofs.once.Once.add_all.Goals as goal

pub loop-item-init : goal.loop-item-init
loop-item-init g c = Gains-none c.args.self.now

pub loop-item-preserved : goal.loop-item-preserved
loop-item-preserved g c =
    let was = c.args.self.now in
    let items = c.args.items.now in
    let place = c.loop-item.item-index in
    let item = c.item-item.result in
    let more : take place items ++ item ∷ [] ≡ take (place + 1) items = ap (λ one. take place items ++ one ∷ []) c.item-item.is ∙ sym (take_more items place item c.loop-item-test.true) in
    subst (λ front. Gains was front c.add.new.self) more
    (Gains-then was c.loop-item.self c.add.new.self (take place items) (item ∷ []) c.loop-item.invariant c.in_ok-add.ensures.gains)
