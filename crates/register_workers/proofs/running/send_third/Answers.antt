use Rattle.std.proofs.Common.{◌≡◌, ◌∙◌, List, [], Some, ℕ, length, inr, refl}
use Rattle.group_model.specs.declared.entries.Asked.TheVariants.{Serve}
use Rattle.register_workers.specs.Private.Requests.{asked_of}
use Rattle.register_workers.specs.Private.Running.{IsOneTurn}
use Rattle.register_workers.proofs.TurnLemmas.{by_told, stays}
use Rattle.register_workers.proofs.running.send_third.Goals as goal

pub returns-in_default : goal.returns-in_default
returns-in_default g c = stays (length c.args.floor.now.desk.now.terms.start) 1 _ _ _ (inr refl)

pub returns : goal.returns
returns g c =
    let sends = c.in-Ok.ensures in
    by_told (length c.args.floor.now.desk.now.terms.start) (asked_of c.in-Ok.request) c.make_turn-told.result _
    (λ turns. (third : List ℕ) × (c.args.line.now.sent ≡ Some third) × IsOneTurn (Serve c.args.member.now third) turns) (λ turns. turns ≡ []) _ _ _ _
    c.is_short.ensures (λ turns one. (sends.0, sends.1, (one.0, one.1, one.2 ∙ sends.2))) c.make_turn-told.ensures
