use Rattle.gcks_core.proofs.CommitLemmas.{leave_step}
use Rattle.gcks_core.proofs.cores.Core.leave.Goals as goal

pub returns-clause-step : goal.returns-clause-step
returns-clause-step g c server stands =
    leave_step c.self.view_is server stands c.args.member.now c.queue_leave.result c.queue_leave.new.queue c.queue_leave.ensures.answer
    c.queue_leave.ensures.ok c.queue_leave.ensures.err
