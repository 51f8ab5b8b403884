use Rattle.std.proofs.Common.{◌∷◌, [], take, get_or, refl, sym, ◌∙◌, subst}
use Rattle.std.proofs.lemmas.List.{take_more}
use Rattle.sym_closure.specs.Private.Gains.{Gains}
use Rattle.sym_closure.proofs.FirstLemmas.{Gains-none, Gains-then}
use Rattle.sym_closure.proofs.reached.Reached.add_all.Goals as goal

pub loop-number-init : goal.loop-number-init
loop-number-init c = record { gains = Gains-none c.args.self.now.order; bound = refl }

pub loop-number-preserved : goal.loop-number-preserved
loop-number-preserved c =
    let was = c.args.self.now.order in
    let numbers = c.args.numbers.now in
    let place = c.loop-number.number-index in
    record {
      gains = subst (λ front. Gains was front c.add.new.self.order) (sym (take_more numbers place 0 c.loop-number-test.true))
          (Gains-then was c.loop-number.self.order c.add.new.self.order (take place numbers) (get_or numbers place 0 ∷ [])
          c.loop-number.invariant.gains c.in_ok-add.ensures.gains);
      bound = c.in_ok-add.ensures.bound ∙ c.loop-number.invariant.bound;
    }
