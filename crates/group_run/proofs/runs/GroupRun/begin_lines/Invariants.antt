use Rattle.std.proofs.Common.{◌≤◌, ◌+◌, length, take}
use Rattle.group_run.proofs.BeginLemmas.{ArePrepared}
use Rattle.group_run.proofs.runs.GroupRun.begin_lines.Given as goal

-- the lines so far were prepared, and there is room for those that are left
abbrev pub invariant-loop-ask : goal.invariant-loop-ask
invariant-loop-ask g l =
    ArePrepared g.D.Disk g.G.Signer g.R.Draws g.P.Draws l.fn.draws l.fn.group l.fn.self (take l.ask-index l.asks) l.handed.items l.self l.draws
    × (length l.asks ≤ l.ask-index + l.handed.spare)
