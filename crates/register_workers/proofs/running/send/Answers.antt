use Rattle.std.proofs.Common.{◌∙◌, length, ap, arith, inl, inr, refl, sym, subst}
use Rattle.std.proofs.lemmas.List.{length-append}
use Rattle.register_workers.specs.Private.Requests.{asked_of}
use Rattle.register_workers.specs.Private.Running.{IsTold, MovesBy}
use Rattle.register_workers.specs.declared.turns.Told.TheVariants.{Datagram}
use Rattle.register_workers.proofs.TurnLemmas.{sends_alone, sends_short, sends_then, stays}
use Rattle.register_workers.proofs.running.send.Goals as goal

pub returns-in_default : goal.returns-in_default
returns-in_default g c = stays (length c.args.floor.now.desk.now.terms.start) 2 _ _ _ (inr (inl (record { last = refl; now = refl })))

pub returns-in-Nothing : goal.returns-in-Nothing
returns-in-Nothing g c =
    let sends = c.in-Ok.ensures in
    sends_alone c.args.member.now c.args.line.now sends.0 sends.1 (asked_of c.in-Ok.request) sends.2
    (length c.args.floor.now.desk.now.terms.start) _ _ _ _ c.in-Nothing.ensures

pub returns-in-NoMemory : goal.returns-in-NoMemory
returns-in-NoMemory g c =
    let sends = c.in-Ok.ensures in
    sends_short c.args.member.now c.args.line.now sends.0 sends.1 (asked_of c.in-Ok.request) sends.2
    (length c.args.floor.now.desk.now.terms.start) _ _ _ _ c.in-NoMemory.ensures

pub come-requires-clause-own : goal.come-requires-clause-own
come-requires-clause-own g c =
    let moves = c.in-Datagram.ensures.moves in λ _ _. (moves.own ∙ c.requires.own.0, moves.board ∙ c.requires.own.1)

pub come-requires-clause-room : goal.come-requires-clause-room
come-requires-clause-room g c =
    let turn = c.in-Datagram.ensures in
    omega (arith, turn.few, ap length turn.moves.mine, length-append c.args.pass.now.mine turn.calls, c.requires.room)

pub returns : goal.returns
returns g c =
    let sends = c.in-Ok.ensures in
    let begun = length c.args.floor.now.desk.now.terms.start in
    let request = asked_of c.in-Ok.request in
    sends_then c.args.member.now c.args.line.now sends.0 sends.1 request sends.2 begun _ _ _ _ c.come.new.line c.come.result c.as_slice.result.now _ _
    (subst (λ octets. MovesBy begun 1 (IsTold request (Datagram octets)) c.args.pass.now c.make_turn.new.pass c.args.reader.now c.make_turn.new.reader)
    (sym c.as_slice.ensures) c.in-Datagram.ensures) c.come.ensures
