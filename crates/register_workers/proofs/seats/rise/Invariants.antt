use Rattle.std.proofs.Common.{◌≡◌, ◌+◌, ◌≤◌, ◌++◌, length, map, reverse, vec_capacity, Global, Vec}
use Rattle.std.specs.List.{list_any}
use Rattle.std.specs.Prelude.{◌||◌}
use Rattle.register_workers.specs.Private.Running.{Worker}
use Rattle.register_workers.specs.declared.lines.BlockLine.{BlockLine}
use Rattle.register_workers.proofs.seats.rise.Given as goal

-- what the first workers left, and what those have that still sit
abbrev pub invariant-loop-worker : goal.invariant-loop-worker
invariant-loop-worker g l = record {
  passes : map (λ (worker : Worker). worker.pass) l.fn.workers.items ≡ l.left.passes.items ++ map (λ (worker : Worker). worker.pass) (reverse l.workers.items);
  readers : map (λ (worker : Worker). worker.reader) l.fn.workers.items
      ≡ l.left.readers.items ++ map (λ (worker : Worker). worker.reader) (reverse l.workers.items);
  ran : map (λ (worker : Worker). worker.done) l.fn.workers.items
      ≡ map (λ (hand : Vec BlockLine Global). hand.items) l.left.ran.items ++ map (λ (worker : Worker). worker.done) (reverse l.workers.items);
  memory : list_any (λ (worker : Worker). worker.memory) l.fn.workers.items
      ≡ (l.short || list_any (λ (worker : Worker). worker.memory) (reverse l.workers.items));
  room_passes : length l.left.passes.items + length l.workers.items ≤ vec_capacity l.left.passes;
  room_readers : length l.left.readers.items + length l.workers.items ≤ vec_capacity l.left.readers;
  room_ran : length l.left.ran.items + length l.workers.items ≤ vec_capacity l.left.ran;
}

abbrev pub decreases-loop-worker : goal.decreases-loop-worker
decreases-loop-worker g l = length l.workers.items
