use Rattle.std.proofs.Common.{◌≡◌, ◌≤◌, length, get_or, sym, ◌∙◌, subst, inl, inr, arith}
use Rattle.std.specs.Prelude.{Contains}
use Rattle.std.proofs.lemmas.Bool.{cases_lt}
use Rattle.std.proofs.lemmas.List.{take_all}
use Rattle.std.proofs.lemmas.Option.{none-some, same_Some, slice_get-get_or, slice_get_within}
use Rattle.sym_closure.specs.Private.Gains.{Gains}
use Rattle.sym_closure.proofs.ClosureLemmas.{Closes-more}
use Rattle.sym_closure.proofs.closures.close.Goals as goal

pub overflow_add-place : goal.overflow_add-place
overflow_add-place c =
    let low = slice_get_within c.loop-number.reached.order c.loop-number.place c.in-Some.number (sym c.in-Some.ensures.number) in
    omega (arith, low, c.in-Some.ensures.few, c.in-Some.ensures.fits)

pub loop-number-smaller : goal.loop-number-smaller
loop-number-smaller c =
    let low = slice_get_within c.loop-number.reached.order c.loop-number.place c.in-Some.number (sym c.in-Some.ensures.number) in
    omega (arith, low, c.in-Some.ensures.few, c.in_ok-add_all.ensures.bound)

pub loop-number-preserved : goal.loop-number-preserved
loop-number-preserved c =
    let graph = c.args.graph.now in
    let order = c.loop-number.reached.order in
    let new = c.add_all.new.self.order in
    let place = c.loop-number.place in
    let number = c.in-Some.number in
    let low = slice_get_within order place number (sym c.in-Some.ensures.number) in
    let at : number ≡ get_or order place number =
    same_Some number (get_or order place number) (c.in-Some.ensures.number ∙ slice_get-get_or order place number low) in
    let gains = subst (λ given. Gains order given new) c.given.ensures.numbers c.in_ok-add_all.ensures.gains in
    record {
      bound = c.in_ok-add_all.ensures.bound ∙ c.loop-number.invariant.bound;
      closes = Closes-more graph c.args.reached.now.order order new place number c.loop-number.invariant.closes low at gains;
    }

pub returns-clause-complete : goal.returns-clause-complete
returns-clause-complete c = λ by gives there given.
    let order = c.loop-number.reached.order in
    let place = c.loop-number.place in
    let end : length order ≤ place = elim (cases_lt place (length order)) [
      | inl low ↦ absurd (none-some (get_or order place 0) (c.in_default.ensures.number ∙ slice_get-get_or order place 0 low))
      | inr high ↦ high
    ] in
    c.loop-number.invariant.closes.done by gives (subst (λ front. Contains front by) (sym (take_all place order end)) there) given
