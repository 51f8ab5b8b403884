use Rattle.std.proofs.Common.{All}
use Rattle.register_workers.specs.Lines.{IsReady}
use Rattle.case_blocks.proofs.asks.add_lines.Given as goal

abbrev pub invariant-loop-number : goal.invariant-loop-number
invariant-loop-number l = All IsReady l.lines
