use Rattle.std.proofs.Common.{length, inl, inr, refl, rules, sym, subst}
use Rattle.std.specs.Prelude.{IsSome}
use Rattle.register_workers.specs.declared.lines.BlockLine.{BlockLine}
use Rattle.register_workers.proofs.TurnLemmas.{by_other, comes_lost, comes_over, comes_taken, stays}
use Rattle.register_workers.proofs.running.come.Goals as goal

pub returns-then-line : goal.returns-then-line
returns-then-line g c =
    stays (length c.args.floor.now.desk.now.terms.start) 1 _ _ _ (comes_lost c.args.member.now c.args.datagram.now c.args.line.now c.if-line.true)

pub send_third-requires-clause-ready : goal.send_third-requires-clause-ready
send_third-requires-clause-ready g c =
    let sent : IsSome c.give.new.line.sent = subst (λ (line : BlockLine). IsSome line.sent) (sym c.in-Agrees.ensures.1.now) refl in search (rules, sent)

pub returns-in-Agrees : goal.returns-in-Agrees
returns-in-Agrees g c =
    let agrees = c.in-Agrees.ensures in
    by_other (length c.args.floor.now.desk.now.terms.start) 1 _ _ _ _ _ _
    (λ turns. comes_taken c.args.member.now c.args.datagram.now c.args.line.now c.send_third.result agrees.0 c.give.new.line turns c.if-line.false agrees.1)
    c.send_third.ensures

pub returns-in-PassesOver : goal.returns-in-PassesOver
returns-in-PassesOver g c =
    let over = c.in-PassesOver.ensures in
    stays (length c.args.floor.now.desk.now.terms.start) 1 _ _ _
    (comes_over c.args.member.now c.args.datagram.now c.args.line.now c.give.new.line c.if-line.false over.0 over.1)

pub returns-in-NoMemory : goal.returns-in-NoMemory
returns-in-NoMemory g c = stays (length c.args.floor.now.desk.now.terms.start) 1 _ _ _ (inr (refl, inl c.in-NoMemory.ensures))
