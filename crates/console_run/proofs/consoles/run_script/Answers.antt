use Rattle.std.proofs.Common.{sym, subst, ◌∙◌}
use Rattle.group_steps.specs.Devices.{devices}
use Rattle.console_run.specs.Private.Follows.{IsOpened, at}
use Rattle.console_run.specs.Private.Runs.{drawn_by}
use Rattle.console_run.proofs.EndingLemmas.{ran_script}
use Rattle.console_run.proofs.consoles.run_script.Goals as goal

pub returns-clause-runs : goal.returns-clause-runs
returns-clause-runs g c start same opened =
    let on = devices g.D.Disk g.G.Signer g.V.Verifier c.args.tools.now.verifier.now in
    let seen = g.K.Sink.shows in
    let followed = c.follow-followed in
    let line = c.line_number-line in
    let parts = c.take_apart-history in
    let end = c.end_script in
    ran_script on g.R.Draws c.args.tools.now.workers (drawn_by g.P.Draws c.args.peers.now) c.begin-run.result.group (g.S.Source.shows c.args.script.now)
    (g.S.Source.shows followed.new.script) (seen c.args.out.now)
    (at followed.new.self (seen followed.new.out) (drawn_by g.P.Draws followed.new.peers)) start same
    (subst (IsOpened on g.R.Draws (drawn_by g.P.Draws c.args.peers.now) start) (sym c.begin-run.ensures.group) opened)
    end.result.history (end.ensures.history ∙ parts.ensures.history) end.result.disk (end.ensures.disk ∙ parts.ensures.disk)
    line.result line.ensures end.result.ending (seen end.new.out)
    followed.result followed.ensures.ok followed.ensures.stops end.ensures.ends
