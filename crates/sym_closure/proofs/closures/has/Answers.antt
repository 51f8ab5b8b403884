use Rattle.std.proofs.lemmas.Bool.{false≢true}
use Rattle.sym_closure.proofs.ClosureLemmas.{keys_there}
use Rattle.sym_closure.proofs.closures.has.Goals as goal

pub returns-in-None : goal.returns-in-None
returns-in-None c = (
  λ no. absurd (false≢true no),
  λ there. absurd (c.in-None.ensures.number (keys_there c.args.graph.now.keys c.args.reached.now.order c.requires.below c.args.key.now
      there)),
)
