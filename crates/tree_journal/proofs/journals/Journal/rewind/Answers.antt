use Rattle.std.proofs.Common.{arith}
use Rattle.tree_journal.proofs.ViewLemmas.{rewound}
use Rattle.tree_journal.proofs.journals.Journal.rewind.Goals as goal

pub invariant_of-self : goal.invariant_of-self
invariant_of-self g c = (
  c.self.invariant.0,
  omega arith,
  c.self.invariant.2,
  λ goes. rewound g.D.Disk c.self.inside.disk c.self.inside.at c.self.inside.end (c.self.invariant.3 goes),
  c.self.invariant.4,
  c.self.invariant.5,
)
