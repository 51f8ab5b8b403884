use Rattle.std.proofs.Common.{◌≡◌, ◌-◌, length}
use Rattle.sym_closure.proofs.ClosureLemmas.{Closes}
use Rattle.sym_closure.proofs.closures.close.Given as goal

-- all is done of the numbers before the place
abbrev pub invariant-loop-number : goal.invariant-loop-number
invariant-loop-number l = record {
  bound : l.reached.bound ≡ length l.graph.keys;
  closes : Closes l.graph l.fn.reached.order l.reached.order l.place;
}

-- how many numbers may still come
abbrev pub decreases-loop-number : goal.decreases-loop-number
decreases-loop-number l = l.reached.bound - l.place
