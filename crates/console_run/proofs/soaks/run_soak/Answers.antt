use Rattle.std.proofs.Common.{◌∙◌, [], Some, refl, subst, inr}
use Rattle.gd_edges.specs.Shown.{Shown}
use Rattle.group_steps.specs.Devices.{devices, keying}
use Rattle.run_report.specs.Ends.{UnopenedEnds}
use Rattle.console_run.specs.Names.{console_name}
use Rattle.console_run.specs.Private.Follows.{RunsScript}
use Rattle.console_run.specs.Promises.{no_report, request_of, soak_source, start_of}
use Rattle.console_run.proofs.OpenedLemmas.{unopened_runs}
use Rattle.console_run.proofs.SoakRunLemmas.{as_ended}
use Rattle.console_run.proofs.soaks.run_soak.Goals as goal

pub returns-in-Ok-clause-runs : goal.returns-in-Ok-clause-runs
returns-in-Ok-clause-runs g c command asked =
    let on = devices g.D.Disk g.G.Signer g.V.Verifier c.args.tools.now.verifier.now in
    let by = keying c.args.parts.signer (g.R.Draws.block_at c.args.parts.draws) (g.P.Draws.block_at c.args.peers.now) console_name in
    let start = start_of command c.args.parts.disk (g.R.Draws.place_of c.args.parts.draws) (g.P.Draws.place_of c.args.peers.now) in
    let run = c.run_words-run in
    let end = c.end_soak in
    let left : Shown = record { octets = Some run.new.script.text.left; faults = 0 } in
    as_ended on by c.args.tools.now.workers c.args.number (request_of command.opening) start (g.K.Sink.shows c.args.out.now) (g.K.Sink.shows end.new.out) left refl
    run.result.ending end.result.ending
    run.result.history end.result.history end.ensures.history run.result.disk end.result.disk end.ensures.disk
    (subst (λ octets. RunsScript on by c.args.tools.now.workers (request_of command.opening) start (record { octets = Some octets; faults = 0 }) left no_report no_report
    run.result.ending run.result.history run.result.disk) (c.new-script.ensures ∙ c.in-Ok.ensures) (run.ensures.runs command asked))
    end.ensures.ends

pub returns-in-Err-clause-runs : goal.returns-in-Err-clause-runs
returns-in-Err-clause-runs g c command asked =
    let on = devices g.D.Disk g.G.Signer g.V.Verifier c.args.tools.now.verifier.now in
    let by = keying c.args.parts.signer (g.R.Draws.block_at c.args.parts.draws) (g.P.Draws.block_at c.args.peers.now) console_name in
    let start = start_of command c.args.parts.disk (g.R.Draws.place_of c.args.parts.draws) (g.P.Draws.place_of c.args.peers.now) in
    let run = c.end_unopened-run in
    let end = c.end_soak-in-Err in
    as_ended on by c.args.tools.now.workers c.args.number (request_of command.opening) start (g.K.Sink.shows c.args.out.now) (g.K.Sink.shows end.new.out)
    (soak_source c.args.number) refl run.result.ending end.result.ending
    run.result.history end.result.history end.ensures.history run.result.disk end.result.disk end.ensures.disk
    (unopened_runs on by c.args.tools.now.workers command.opening start (soak_source c.args.number) no_report no_report run.result.ending [] run.result.history
    c.args.parts.disk run.result.disk
    (inr (record { nothing = refl; left = refl })) (run.ensures.history ∙ c.new.ensures) run.ensures.disk
    (subst (λ history. UnopenedEnds history run.result.ending no_report no_report) c.new.ensures run.ensures.ends))
    end.ensures.ends
