use Rattle.std.proofs.Common.{[], length, refl}
use Rattle.register_workers.specs.Lines.{AsksOnce}
use Rattle.register_workers.specs.Private.Requests.{asked_of}
use Rattle.register_workers.proofs.TurnLemmas.{by_told}
use Rattle.register_workers.proofs.running.ask_once.Goals as goal

pub returns : goal.returns
returns g c line =
    let request = asked_of c.args.request in
    by_told (length c.args.floor.now.desk.now.terms.start) request c.make_turn-told.result _ (λ turns. AsksOnce request line turns line) (λ turns. ⊥) _ _ _ _
    c.is_short.ensures
    (λ turns one. record { turn = one.0; later = []; are = one.1; asked = one.2; goes_on = record { last = refl; now = refl } })
    c.make_turn-told.ensures
