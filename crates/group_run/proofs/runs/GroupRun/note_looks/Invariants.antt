use Rattle.std.proofs.Common.{take}
use Rattle.group_run.proofs.LookLemmas.{AreNotedSo}
use Rattle.group_run.proofs.runs.GroupRun.note_looks.Given as goal

abbrev pub invariant-loop-line : goal.invariant-loop-line
invariant-loop-line g l = record { noted : AreNotedSo g.D.Disk g.R.Draws (take l.line-index l.lines) l.fn.self l.self }
