use Rattle.std.proofs.Common.{take}
use Rattle.sym_closure.specs.Private.Gains.{Gains}
use Rattle.sym_closure.proofs.once.Once.add_all.Given as goal

-- the items so far
abbrev pub invariant-loop-item : goal.invariant-loop-item
invariant-loop-item g l = Gains l.fn.self (take l.item-index l.items) l.self
