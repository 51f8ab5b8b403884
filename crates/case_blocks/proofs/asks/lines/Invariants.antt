use Rattle.std.proofs.Common.{All}
use Rattle.register_workers.specs.Lines.{IsReady}
use Rattle.case_blocks.proofs.asks.lines.Given as goal

abbrev pub invariant-loop-word : goal.invariant-loop-word
invariant-loop-word l = All IsReady l.lines
