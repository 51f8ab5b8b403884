use Rattle.std.proofs.Common.{◌≡◌, ◌+◌, ◌≤◌, ◌++◌, List, length, reverse, All, vec_capacity, vec_len}
use Rattle.register_workers.specs.Lines.{IsReady}
use Rattle.register_workers.specs.Workers.{RanAll}
use Rattle.register_workers.specs.declared.lines.BlockLine.{BlockLine}
use Rattle.register_workers.proofs.workers.run_lines.Given as goal

-- the lines that were run, with those that are due, the last one first, are all
abbrev pub invariant-loop-line : goal.invariant-loop-line
invariant-loop-line g l = record {
  own : (l.pass.desk ≡ l.floor.desk.now.id) × (l.reader.board ≡ l.floor.board.now);
  turns : (length l.due.items + length l.due.items) + length l.pass.mine ≤ l.floor.desk.now.terms.turns;
  ready : All IsReady l.due.items;
  room : vec_len l.due + vec_len l.done ≤ vec_capacity l.done;
  lines : List BlockLine;
  are : reverse l.fn.due.items ≡ lines ++ reverse l.due.items;
  ran : RanAll (length l.floor.desk.now.terms.start) l.pass.seen l.reader.seen l.memory lines l.fn.reader.seen l.pass.mine l.done.items l.reader.seen;
}

abbrev pub decreases-loop-line : goal.decreases-loop-line
decreases-loop-line g l = length l.due.items
