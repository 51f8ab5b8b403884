use Rattle.std.proofs.Common.{refl, sym, ◌∙◌}
use Rattle.group_steps.specs.Devices.{devices, keying}
use Rattle.console_run.specs.Names.{console_name}
use Rattle.console_run.specs.Private.Runs.{drawn_by}
use Rattle.console_run.specs.Promises.{request_of, start_of}
use Rattle.console_run.proofs.OpenedLemmas.{is_opened, unopened_runs}
use Rattle.console_run.proofs.consoles.run_command.Goals as goal

pub returns-in-Err-clause-runs : goal.returns-in-Err-clause-runs
returns-in-Err-clause-runs g c =
    let on = devices g.D.Disk g.G.Signer g.V.Verifier c.args.tools.now.verifier.now in
    let by = keying c.args.parts.signer (g.R.Draws.block_at c.args.parts.draws) (g.P.Draws.block_at c.args.peers.now) console_name in
    unopened_runs on by c.args.tools.now.workers c.args.command.opening (start_of c.args.command c.args.parts.disk (g.R.Draws.place_of c.args.parts.draws)
    (g.P.Draws.place_of c.args.peers.now))
    (g.S.Source.shows c.args.script.now) (g.K.Sink.shows c.args.out.now) (g.K.Sink.shows c.end_unopened.new.out) c.end_unopened.result.ending
    c.in-Err.field-0.history c.end_unopened.result.history c.in-Err.field-0.parts.disk c.end_unopened.result.disk
    (rw (← c.place.ensures) c.in-Err.ensures.err) c.end_unopened.ensures.history c.end_unopened.ensures.disk c.end_unopened.ensures.ends

pub returns-in-Ok-clause-runs : goal.returns-in-Ok-clause-runs
returns-in-Ok-clause-runs g c =
    let on = devices g.D.Disk g.G.Signer g.V.Verifier c.args.tools.now.verifier.now in
    let by = keying c.args.parts.signer (g.R.Draws.block_at c.args.parts.draws) (g.P.Draws.block_at c.args.peers.now) console_name in
    let start = start_of c.args.command c.args.parts.disk (g.R.Draws.place_of c.args.parts.draws) (g.P.Draws.place_of c.args.peers.now) in
    let was = g.K.Sink.shows c.args.out.now in
    c.run_script.ensures.runs (record { request = request_of c.args.command.opening; run = start; by = by; was = was }) refl
    (is_opened on g.R.Draws (drawn_by g.P.Draws c.args.peers.now) by c.args.command.opening start was c.in-Ok.group (rw (← c.place.ensures) c.in-Ok.ensures.ok)
    c.in-Ok.ensures.goes_on.0 c.in-Ok.ensures.goes_on.1 (λ k. refl) refl (sym c.place.ensures ∙ sym c.in-Ok.ensures.begins.2) c.in-Ok.ensures.begins.1
    c.in-Ok.ensures.begins.0)
