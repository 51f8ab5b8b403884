use Rattle.std.proofs.Common.{◌≡◌, ◌+◌, ◌-◌, ◌^◌, ◌<◌, ◌≤◌, ◌++◌, length, take, drop}
use Rattle.std.specs.List.{All}
use Rattle.key_tree.specs.declared.marks.Renewed.{Renewed}
use Rattle.key_tree.specs.Private.Levels.{levels}
use Rattle.key_tree.proofs.levels.all_levels.Given as goal

-- the levels below this one, and those from it up
abbrev pub invariant-loop : goal.invariant-loop
invariant-loop l = record {
  within : l.first ≤ length l.renewed;
  all : take l.first l.renewed ++ levels l.held (l.depth - l.counter) (drop l.first l.renewed) ≡ levels l.held l.depth l.fn.leaves;
  from : All (λ (one : Renewed). 2 ^ (l.depth - l.counter) ≤ one.id) (drop l.first l.renewed);
  to : All (λ (one : Renewed). one.id < 2 ^ (l.depth - l.counter + 1)) (drop l.first l.renewed);
}
