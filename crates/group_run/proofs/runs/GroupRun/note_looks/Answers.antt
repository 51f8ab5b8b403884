use Rattle.std.proofs.Common.{◌∙◌, List, take, drop, refl, subst}
use Rattle.std.proofs.lemmas.List.{take_all}
use Rattle.register_workers.specs.declared.lines.BlockLine.{BlockLine}
use Rattle.group_run.specs.Blocks.{LooksAll, seen_in}
use Rattle.group_run.specs.Places.{Reaches}
use Rattle.register_workers.specs.LooksShown.{WasShown}
use Rattle.group_run.proofs.LookLemmas.{none_noted, noted_at, noted_short, seen_parts, shown_at, shown_in}
use Rattle.group_run.proofs.ReadLemmas.{on_err}
use Rattle.group_run.proofs.RestLemmas.{same_goes}
use Rattle.group_run.proofs.runs.GroupRun.note_looks.Goals as goal

pub loop-line-init : goal.loop-line-init
loop-line-init g c = record { noted = none_noted g.D.Disk g.R.Draws c.args.self.now }

pub note_line-requires : goal.note_line-requires
note_line-requires g c =
    let noted = c.loop-line.invariant.noted in
    shown_at (WasShown c.loop-line.self.entries) c.args.lines.now c.loop-line.line-index c.line-item.result c.loop-line-test.true c.line-item.is
    (shown_in noted.more (seen_in c.args.lines.now) noted.grown c.requires)

pub returns-in_err-note_line-clause-goes_on : goal.returns-in_err-note_line-clause-goes_on
returns-in_err-note_line-clause-goes_on g c = same_goes g.R.Draws (c.in_err-note_line.ensures.server ∙ c.loop-line.invariant.noted.server)

pub returns-in_err-note_line-clause-err : goal.returns-in_err-note_line-clause-err
returns-in_err-note_line-clause-err g c =
    on_err _ _ (noted_short g.D.Disk g.R.Draws (take c.loop-line.line-index c.args.lines.now) c.args.self.now c.loop-line.self c.note_line.new.self
    c.loop-line.invariant.noted c.args.lines.now (seen_in (drop c.loop-line.line-index c.args.lines.now)) (seen_parts c.loop-line.line-index c.args.lines.now)
    c.in_err-note_line.ensures.err)

pub loop-line-preserved : goal.loop-line-preserved
loop-line-preserved g c = record {
  noted = noted_at g.D.Disk g.R.Draws (take c.loop-line.line-index c.args.lines.now) c.args.self.now c.loop-line.self c.note_line.new.self
      c.loop-line.invariant.noted c.args.lines.now c.loop-line.line-index c.line-item.result refl c.loop-line-test.true c.line-item.is
      c.in_ok-note_line.ensures.ok c.in_ok-note_line.ensures.stays c.in_ok-note_line.ensures.server c.in_ok-note_line.ensures.more;
}

pub returns-clause-ok : goal.returns-clause-ok
returns-clause-ok g c =
    subst (λ (lines : List BlockLine). Reaches g.D.Disk g.R.Draws (LooksAll g.D.Disk (seen_in lines)) c.args.self.now c.loop-line.self)
    (take_all c.loop-line.line-index c.args.lines.now c.loop-line-test.false) c.loop-line.invariant.noted.looks

pub returns-clause-stays : goal.returns-clause-stays
returns-clause-stays g c = c.loop-line.invariant.noted.stays

pub returns-clause-goes_on : goal.returns-clause-goes_on
returns-clause-goes_on g c = same_goes g.R.Draws c.loop-line.invariant.noted.server
