use Rattle.group_run.proofs.LookLemmas.{no_look, one_look}
use Rattle.group_run.proofs.ReachLemmas.{on_ok_then}
use Rattle.group_run.proofs.runs.GroupRun.note_line.Goals as goal

pub returns-in-Some-clause-ok : goal.returns-in-Some-clause-ok
returns-in-Some-clause-ok g c =
    on_ok_then c.note_look.result c.note_look.ensures.ok (one_look g.D.Disk g.R.Draws c.args.self.now c.note_look.new.self c.args.line.now c.in-Some.seen c.in-Some.is)

pub returns-in-None-clause-ok : goal.returns-in-None-clause-ok
returns-in-None-clause-ok g c = no_look g.D.Disk g.R.Draws c.args.self.now c.args.line.now c.in-None.is
