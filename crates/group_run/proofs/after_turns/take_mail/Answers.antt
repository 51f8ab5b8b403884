use Rattle.std.proofs.Common.{[], refl}
use Rattle.group_run.proofs.ReadLemmas.{came_as, on_err}
use Rattle.group_run.proofs.after_turns.take_mail.Goals as goal

pub returns-in_err-take-clause-err : goal.returns-in_err-take-clause-err
returns-in_err-take-clause-err c = on_err _ _ (c.in_err-take.ensures.takes [])

pub returns-in-Ignored-clause-takes : goal.returns-in-Ignored-clause-takes
returns-in-Ignored-clause-takes c later =
    came_as c.args.member.now c.args.datagram.now c.args.datagram.now later c.args.members.now c.in_ok-take.field-0 _ c.take.new.self refl c.in-Ignored.is
    (c.in_ok-take.ensures.takes later)

pub returns-in-Sends-clause-takes : goal.returns-in-Sends-clause-takes
returns-in-Sends-clause-takes c later =
    came_as c.args.member.now c.args.datagram.now c.args.datagram.now later c.args.members.now c.in_ok-take.field-0 _ c.take.new.self refl c.in-Sends.is
    (c.in_ok-take.ensures.takes later)

pub returns-in-Ended-clause-takes : goal.returns-in-Ended-clause-takes
returns-in-Ended-clause-takes c later =
    came_as c.args.member.now c.args.datagram.now c.args.datagram.now later c.args.members.now c.in_ok-take.field-0 _ c.take.new.self refl c.in-Ended.is
    (c.in_ok-take.ensures.takes later)
