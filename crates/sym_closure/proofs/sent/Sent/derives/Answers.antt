use Rattle.std.proofs.Common.{sym, ap}
use Rattle.sym_closure.specs.Knowledge.{Known}
use Rattle.sym_closure.proofs.KnowledgeLemmas.{answers}
use Rattle.sym_closure.proofs.sent.Sent.derives.Goals as goal

pub returns : goal.returns
returns c = λ entries knows.
    answers c.args.self.now entries knows c.self.inside.graph (ap (λ (known : Known). known.pairs) (sym c.self.view_is)) c.args.epoch
    c.in_ok-reached.reached.order c.in_ok-reached.ensures.closure c.args.members.now c.reaches_one.result c.reaches_one.ensures
