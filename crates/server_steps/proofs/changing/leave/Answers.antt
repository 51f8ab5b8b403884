use Rattle.server_steps.proofs.ChangeLemmas.{leave_answered, leave_waits}
use Rattle.server_steps.proofs.changing.leave.Goals as goal

pub returns-clause-serves : goal.returns-clause-serves
returns-clause-serves g c =
    leave_answered g.D.Disk g.G.Signer g.R.Draws c.args.core.now c.args.member.now c.leave.new.self c.leave.result c.leave.ensures.rest c.leave.ensures.err
    c.leave.ensures.step

pub returns-clause-waits : goal.returns-clause-waits
returns-clause-waits g c =
    let some = c.prove_at_rest.ensures.some in
    leave_waits g.D.Disk g.G.Signer g.R.Draws c.args.core.now c.args.member.now c.leave.new.self c.leave.result c.leave.ensures.err some.0 some.1
    (c.leave.ensures.step some.0 some.1)
