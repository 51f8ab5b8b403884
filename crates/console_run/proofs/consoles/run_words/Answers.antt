use Rattle.std.proofs.Common.{◌≡◌, ◌∙◌, [], refl, sym, subst, inr}
use Rattle.std.proofs.lemmas.Option.{same_Some}
use Rattle.command_words.specs.declared.commands.Command.{Command}
use Rattle.group_steps.specs.Devices.{devices, keying}
use Rattle.run_report.specs.Ends.{UnopenedEnds}
use Rattle.console_run.specs.Names.{console_name}
use Rattle.console_run.specs.Private.Follows.{RunsScript}
use Rattle.console_run.specs.Promises.{request_of, start_of}
use Rattle.console_run.proofs.OpenedLemmas.{unopened_runs}
use Rattle.console_run.proofs.consoles.run_words.Goals as goal

pub returns-in-Ok-clause-runs : goal.returns-in-Ok-clause-runs
returns-in-Ok-clause-runs g c command asked =
    let on = devices g.D.Disk g.G.Signer g.V.Verifier c.args.tools.now.verifier.now in
    let by = keying c.args.parts.signer (g.R.Draws.block_at c.args.parts.draws) (g.P.Draws.block_at c.args.peers.now) console_name in
    let same : c.in-Ok.command ≡ command = same_Some c.in-Ok.command command (sym c.in-Ok.ensures.command ∙ asked) in
    subst (λ (command : Command). RunsScript on by c.args.tools.now.workers (request_of command.opening)
    (start_of command c.args.parts.disk (g.R.Draws.place_of c.args.parts.draws) (g.P.Draws.place_of c.args.peers.now))
    (g.S.Source.shows c.args.script.now) (g.S.Source.shows c.run_command.new.script)
    (g.K.Sink.shows c.args.out.now) (g.K.Sink.shows c.run_command.new.out) c.run_command.result.ending
    c.run_command.result.history c.run_command.result.disk) same c.run_command.ensures.runs

pub returns-in-Err-clause-runs : goal.returns-in-Err-clause-runs
returns-in-Err-clause-runs g c command asked =
    let on = devices g.D.Disk g.G.Signer g.V.Verifier c.args.tools.now.verifier.now in
    let by = keying c.args.parts.signer (g.R.Draws.block_at c.args.parts.draws) (g.P.Draws.block_at c.args.peers.now) console_name in
    let was = g.K.Sink.shows c.args.out.now in
    let now = g.K.Sink.shows c.end_unopened.new.out in
    let end = c.end_unopened in
    unopened_runs on by c.args.tools.now.workers command.opening
    (start_of command c.args.parts.disk (g.R.Draws.place_of c.args.parts.draws) (g.P.Draws.place_of c.args.peers.now))
    (g.S.Source.shows c.args.script.now) was now end.result.ending [] end.result.history c.args.parts.disk end.result.disk
    (inr (record { nothing = refl; left = refl })) (end.ensures.history ∙ c.new.ensures) end.ensures.disk
    (subst (λ history. UnopenedEnds history end.result.ending was now) c.new.ensures end.ensures.ends)
