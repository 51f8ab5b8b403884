use Rattle.std.proofs.Common.{◌+◌, None, Some, refl, sym, subst}
use Rattle.group_steps.specs.Devices.{devices}
use Rattle.script_text.specs.declared.lines.Line.TheVariants as lines
use Rattle.console_run.specs.Private.Asks.{RunsAt, RunsLineAt, StopsAtLine}
use Rattle.console_run.specs.Private.Runs.{AreFine, IsPlaced, drawn_by, open_of}
use Rattle.run_report.specs.declared.stops.Stop.TheVariants as stops
use Rattle.console_run.proofs.AskLemmas.{begins_runs, holds_ok, runs_outside, stops_faulty}
use Rattle.console_run.proofs.LineLemmas.{leaves_outside}
use Rattle.console_run.proofs.OpenBlockLemmas.{none_asked}
use Rattle.console_run.proofs.script_run.ScriptRun.run_outside.Goals as goal

pub returns-in-Together-clause-runs : goal.returns-in-Together-clause-runs
returns-in-Together-clause-runs g c =
    let on = devices g.D.Disk g.G.Signer g.V.Verifier c.args.tools.now.verifier.now in
    let held = c.args.self.now.group in
    let seen = g.K.Sink.shows c.args.out.now in
    let peers = drawn_by g.P.Draws c.args.peers.now in
    subst (λ line. RunsAt on g.R.Draws peers c.args.tools.now.workers None line (Some c.begin.result.asks) held held seen seen) (sym c.in-Together.is)
    (subst (λ asks. RunsAt on g.R.Draws peers c.args.tools.now.workers None lines.Together (Some asks) held held seen seen) (sym c.begin.ensures.asks)
    (begins_runs on g.R.Draws peers held seen c.args.tools.now.workers c.requires.rest))

pub returns-in-Together-clause-block : goal.returns-in-Together-clause-block
returns-in-Together-clause-block g c = none_asked c.args.self.now.count c.begin.result c.begin.ensures.asks c.begin.ensures.before

pub returns-in-End-clause-runs : goal.returns-in-End-clause-runs
returns-in-End-clause-runs g c =
    let on = devices g.D.Disk g.G.Signer g.V.Verifier c.args.tools.now.verifier.now in
    let held = c.args.self.now.group in
    let seen = g.K.Sink.shows c.args.out.now in
    let peers = drawn_by g.P.Draws c.args.peers.now in
    subst (λ line. StopsAtLine on g.R.Draws peers c.args.tools.now.workers None line stops.Line held held seen seen) (sym c.in-End.is)
    (stops_faulty on g.R.Draws peers held held seen seen c.args.tools.now.workers None lines.End refl refl refl)

pub returns-in_default : goal.returns-in_default
returns-in_default g c =
    let on = devices g.D.Disk g.G.Signer g.V.Verifier c.args.tools.now.verifier.now in
    let was = c.args.self.now in
    let held = was.group in
    let new = c.run_line.new.self in
    let seen = g.K.Sink.shows in
    let peers = drawn_by g.P.Draws c.args.peers.now in
    let result = c.run_line.result in
    record {
      runs = subst
          (λ block. RunsLineAt on g.R.Draws peers c.args.tools.now.workers None c.args.line (open_of block) result held new (seen c.args.out.now) (seen c.run_line.new.out))
          (sym c.requires.state)
          (runs_outside on g.R.Draws peers held new (seen c.args.out.now) (seen c.run_line.new.out) c.args.tools.now.workers c.args.line result
          (leaves_outside c.args.line c.in_default.not-Together c.in_default.not-End) c.run_line.ensures.runs);
      placed = holds_ok result (subst (IsPlaced was.count None) (sym c.requires.state) tt);
      block = holds_ok result (subst (AreFine (was.count + 1)) (sym c.requires.state) tt);
      line = refl;
      count = refl;
      place = c.run_line.ensures.place;
      blocks = c.run_line.ensures.blocks;
      rules = c.run_line.ensures.rules;
      rest = c.run_line.ensures.rest;
    }
