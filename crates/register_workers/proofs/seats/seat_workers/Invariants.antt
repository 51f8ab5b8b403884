use Rattle.std.proofs.Common.{◌≡◌, ◌+◌, ◌≤◌, [], ◌++◌, length, map, reverse, vec_capacity, All, Global, Vec}
use Rattle.register_workers.specs.Private.Running.{IsFresh, Worker}
use Rattle.register_workers.specs.Private.Seating.{HasWork, IsNewPass}
use Rattle.register_workers.specs.declared.lines.BlockLine.{BlockLine}
use Rattle.register_workers.proofs.seats.seat_workers.Given as goal

-- the last passes have their lines, and there is as much left for each of the others
abbrev pub invariant-loop-pass : goal.invariant-loop-pass
invariant-loop-pass g l = record {
  many : (length l.due.items ≡ length l.passes) × (length l.done.items ≡ length l.passes);
  seats : length l.workers.items + length l.passes ≤ vec_capacity l.workers;
  passes : All (IsNewPass l.floor.desk.now.id) l.passes;
  due : All (λ (hand : Vec BlockLine Global). HasWork l.floor.desk.now.terms.turns hand.items) l.due.items;
  done : All (λ (hand : Vec BlockLine Global). (hand.items ≡ []) × (l.floor.desk.now.terms.turns ≤ vec_capacity hand + vec_capacity hand)) l.done.items;
  dealt : map (λ (hand : Vec BlockLine Global). hand.items) l.fn.due.items
      ≡ map (λ (hand : Vec BlockLine Global). hand.items) l.due.items ++ map (λ (worker : Worker). worker.due) (reverse l.workers.items);
  fresh : All (IsFresh l.floor.desk.now) l.workers.items;
  knew : All (λ (worker : Worker). worker.reader.seen ≡ l.fn.reader.seen) l.workers.items;
  reader : l.reader ≡ l.fn.reader;
}

abbrev pub decreases-loop-pass : goal.decreases-loop-pass
decreases-loop-pass g l = length l.passes
