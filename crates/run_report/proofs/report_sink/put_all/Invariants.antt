use Rattle.std.proofs.Common.{◌≡◌, ℕ, List, ◌++◌, length}
use Rattle.run_report.specs.Reports.{Puts}
use Rattle.run_report.proofs.report_sink.put_all.Given as goal

-- what was put so far, and what is left
abbrev pub invariant-loop-rest : goal.invariant-loop-rest
invariant-loop-rest g l = (done : List ℕ) × (l.fn.piece ≡ done ++ l.rest) × Puts (g.K.Sink.shows l.fn.out) (g.K.Sink.shows l.out) done

abbrev pub decreases-loop-rest : goal.decreases-loop-rest
decreases-loop-rest g l = length l.rest
