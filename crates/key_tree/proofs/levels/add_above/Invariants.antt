use Rattle.std.proofs.Common.{◌≡◌, ◌++◌, length, take, drop}
use Rattle.std.specs.Prelude.{IfSome, None}
use Rattle.key_tree.specs.Private.Levels.{IsBelowRoot, above}
use Rattle.key_tree.proofs.levels.add_above.Given as goal

-- those so far, and those above what is left of the level; and what was there stays
abbrev pub invariant-loop-place : goal.invariant-loop-place
invariant-loop-place l = record {
  all : l.positions ++ above l.held l.waiting (drop l.place l.fn.positions) ≡ l.fn.positions ++ above l.held None (drop l.first l.fn.positions);
  begins : take (length l.fn.positions) l.positions ≡ l.fn.positions;
  waiting : IfSome l.waiting (IsBelowRoot l.held.depth);
}
