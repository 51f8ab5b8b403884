use Rattle.std.proofs.Common.{◌≡◌, ◌∙◌, [], None, Some, Err, ap, arith, refl, rules, sym, subst}
use Rattle.group_steps.specs.Devices.{devices}
use Rattle.script_text.specs.declared.lines.Line.TheVariants as lines
use Rattle.run_report.specs.declared.stops.Stop.TheVariants as stops
use Rattle.console_run.specs.Blocks.{ended}
use Rattle.console_run.specs.Private.Asks.{RunsAt, RunsBlock, RunsLineAt, StopsAtLine}
use Rattle.console_run.specs.Private.Runs.{begun_by_block, by_block, drawn_by, open_of}
use Rattle.console_run.proofs.AskLemmas.{runs_block, runs_none, stops_either, stops_faulty}
use Rattle.console_run.proofs.LineLemmas.{ends_some, gives_none, no_room_inside, none_inside, stands_inside}
use Rattle.console_run.proofs.OpenBlockLemmas.{fine_more}
use Rattle.console_run.proofs.script_run.ScriptRun.run_inside.Goals as goal

pub returns-in-Nothing-clause-runs : goal.returns-in-Nothing-clause-runs
returns-in-Nothing-clause-runs g c =
    let on = devices g.D.Disk g.G.Signer g.V.Verifier c.args.tools.now.verifier.now in
    let held = c.args.self.now.group in
    let seen = g.K.Sink.shows c.args.out.now in
    let peers = drawn_by g.P.Draws c.args.peers.now in
    let asks = c.args.block.asks in
    subst (λ line. RunsAt on g.R.Draws peers c.args.tools.now.workers (Some asks) line (Some asks) held held seen seen) (sym c.in-Nothing.is)
    (runs_none on g.R.Draws peers held held seen seen c.args.tools.now.workers (Some asks) lines.Nothing (Some asks) refl (λ by before run. (refl, refl)) refl refl)

pub returns-then-is_empty-clause-runs : goal.returns-then-is_empty-clause-runs
returns-then-is_empty-clause-runs g c =
    let on = devices g.D.Disk g.G.Signer g.V.Verifier c.args.tools.now.verifier.now in
    let held = c.args.self.now.group in
    let seen = g.K.Sink.shows c.args.out.now in
    let peers = drawn_by g.P.Draws c.args.peers.now in
    let asks = c.args.block.asks in
    let none : asks ≡ [] = search rules in
    subst (λ line. StopsAtLine on g.R.Draws peers c.args.tools.now.workers (Some asks) line stops.Line held held seen seen) (sym c.in-End.is)
    (stops_faulty on g.R.Draws peers held held seen seen c.args.tools.now.workers (Some asks) lines.End (ap ended none) refl refl)

pub returns-else-is_empty-clause-runs : goal.returns-else-is_empty-clause-runs
returns-else-is_empty-clause-runs g c =
    let on = devices g.D.Disk g.G.Signer g.V.Verifier c.args.tools.now.verifier.now in
    let held = c.args.self.now.group in
    let new = c.run_block.new.self in
    let was = g.K.Sink.shows c.args.out.now in
    let now = g.K.Sink.shows c.run_block.new.out in
    let peers = drawn_by g.P.Draws c.args.peers.now in
    let asks = c.args.block.asks in
    let result = c.run_block.result in
    let some : asks ≡ [] → ⊥ = search rules in
    subst (λ block. RunsLineAt on g.R.Draws peers c.args.tools.now.workers (Some asks) c.args.line (open_of block) result held new was now) (sym c.requires.state)
    (subst (λ line. RunsLineAt on g.R.Draws peers c.args.tools.now.workers (Some asks) line None result held new was now) (sym c.in-End.is)
    (runs_block on g.R.Draws peers held new was now c.args.tools.now.workers asks result (ends_some asks some)
    (subst (λ asks. RunsBlock on g.R.Draws peers (by_block on c.args.tools.now.workers asks) (begun_by_block on c.args.tools.now.workers asks) result held new was now)
    c.as_slice-asks.ensures c.run_block.ensures.runs)))

pub returns-in_default-ask_of : goal.returns-in_default-ask_of
returns-in_default-ask_of g c =
    let on = devices g.D.Disk g.G.Signer g.V.Verifier c.args.tools.now.verifier.now in
    let held = c.args.self.now.group in
    let seen = g.K.Sink.shows c.args.out.now in
    let peers = drawn_by g.P.Draws c.args.peers.now in
    let asks = c.args.block.asks in
    record {
      runs = stops_faulty on g.R.Draws peers held held seen seen c.args.tools.now.workers (Some asks) c.args.line
          (none_inside asks c.args.line c.in_default.not-Nothing c.in_default.not-End
          (λ ask is. c.in_default-ask_of.not-Some ask (c.ask_of.ensures ∙ is))) refl refl;
      placed = tt;
      block = tt;
      line = refl;
      count = refl;
      place = tt;
      blocks = λ k. refl;
      rules = tt;
      rest = tt;
    }

pub returns-in-Ok : goal.returns-in-Ok
returns-in-Ok g c =
    let on = devices g.D.Disk g.G.Signer g.V.Verifier c.args.tools.now.verifier.now in
    let was = c.args.self.now in
    let held = was.group in
    let seen = g.K.Sink.shows c.args.out.now in
    let peers = drawn_by g.P.Draws c.args.peers.now in
    let asks = c.args.block.asks in
    let more = c.take.new.self.asks in
    record {
      runs = runs_none on g.R.Draws peers held held seen seen c.args.tools.now.workers (Some asks) c.args.line (Some more)
          (stands_inside asks more c.args.line c.in-Some.ask c.in_default.not-Nothing c.in_default.not-End (sym c.in-Some.ensures) c.in-Ok.ensures.fits
          c.in-Ok.ensures.ok)
          (λ by before run. gives_none on by c.args.tools.now.workers asks c.args.line before run c.in_default.not-End) refl refl;
      placed = c.take.ensures.before;
      block = fine_more was.count c.args.block c.take.new.self c.in-Some.ask c.in-Ok.ensures.fits c.in-Ok.ensures.ok c.take.ensures.before c.requires.block;
      line = refl;
      count = refl;
      place = c.requires.place;
      blocks = λ k. refl;
      rules = omega arith;
      rest = c.requires.rest;
    }

pub returns-in-Err : goal.returns-in-Err
returns-in-Err g c =
    let on = devices g.D.Disk g.G.Signer g.V.Verifier c.args.tools.now.verifier.now in
    let held = c.args.self.now.group in
    let seen = g.K.Sink.shows c.args.out.now in
    let peers = drawn_by g.P.Draws c.args.peers.now in
    let asks = c.args.block.asks in
    let stop = c.in-Err.stop in
    record {
      runs = stops_either on g.R.Draws peers held held seen seen c.args.tools.now.workers (Some asks) c.args.line stop c.in-Err.ensures.stops
          (λ is. no_room_inside asks c.args.line c.in-Some.ask c.in_default.not-Nothing c.in_default.not-End (sym c.in-Some.ensures)
          (c.in-Err.ensures.faulty (ap Err is))) refl refl;
      placed = tt;
      block = tt;
      line = refl;
      count = refl;
      place = tt;
      blocks = λ k. refl;
      rules = tt;
      rest = tt;
    }
