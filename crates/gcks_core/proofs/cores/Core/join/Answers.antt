use Rattle.gcks_core.proofs.CommitLemmas.{join_step}
use Rattle.gcks_core.proofs.cores.Core.join.Goals as goal

pub returns-clause-step : goal.returns-clause-step
returns-clause-step g c server stands =
    join_step c.self.view_is server stands c.args.member.now c.queue_join.result c.queue_join.new.queue c.queue_join.ensures.answer
    c.queue_join.ensures.ok c.queue_join.ensures.err
