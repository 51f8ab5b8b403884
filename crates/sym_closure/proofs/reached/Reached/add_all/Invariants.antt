use Rattle.std.proofs.Common.{◌≡◌, take}
use Rattle.sym_closure.specs.Private.Gains.{Gains}
use Rattle.sym_closure.proofs.reached.Reached.add_all.Given as goal

-- the numbers so far
abbrev pub invariant-loop-number : goal.invariant-loop-number
invariant-loop-number l = record {
  gains : Gains l.fn.self.order (take l.number-index l.numbers) l.self.order;
  bound : l.self.bound ≡ l.fn.self.bound;
}
