use Rattle.std.proofs.Common.{false, true, ap, subst}
use Rattle.std.proofs.lemmas.Result.{on_err_weaker, on_ok_weaker}
use Rattle.server_steps.specs.Reflects.{IsServerOf}
use Rattle.group_run.specs.Places.{keys_of}
use Rattle.group_run.specs.Views.{View}
use Rattle.group_run.proofs.BeginLemmas.{introduced_keeps, on_err_always, on_ok_always, reaches_introduced, served_before, served_introduced}
use Rattle.group_run.proofs.runs.GroupRun.begin_introduction.Goals as goal

pub returns-in_err-introduce-clause-err : goal.returns-in_err-introduce-clause-err
returns-in_err-introduce-clause-err g c =
    on_err_always c.from_residual.result
    (λ group. served_before g.D.Disk g.G.Signer g.R.Draws (keys_of g.R.Draws c.args.self.now (g.P.Draws.block_at c.args.draws.now) group)
    c.args.member.now c.in_err-introduce.ensures.err)

pub returns-clause-ok : goal.returns-clause-ok
returns-clause-ok g c =
    let done = c.in_ok-introduce.ensures in
    on_ok_weaker c.had_memory.result
    (λ enough. reaches_introduced g.D.Disk g.G.Signer g.R.Draws done.ok false
    (enough c.args.self.now.entries done.ok.serves.entry done.ok.serves.added) done.mail)
    c.had_memory.ensures.ok

pub returns-clause-keeps : goal.returns-clause-keeps
returns-clause-keeps g c =
    on_ok_always c.had_memory.result
    (introduced_keeps g.D.Disk g.G.Signer g.R.Draws c.in_ok-introduce.ensures.ok
    (subst (λ server. IsServerOf g.D.Disk g.R.Draws server c.self.invariant.host)
    (ap (λ (held : View g.row.D.Denot g.row.G.Denot g.row.R.Denot). held.server) c.self.view_is) c.self.invariant.is_on))

pub returns-clause-err : goal.returns-clause-err
returns-clause-err g c =
    let done = c.in_ok-introduce.ensures in
    on_err_weaker c.had_memory.result
    (λ short group. served_introduced g.D.Disk g.G.Signer g.R.Draws
    (keys_of g.R.Draws c.args.self.now (g.P.Draws.block_at c.args.draws.now) group) c.args.member.now true
    (reaches_introduced g.D.Disk g.G.Signer g.R.Draws done.ok true
    (short c.args.self.now.entries done.ok.serves.entry done.ok.serves.added) done.mail group))
    c.had_memory.ensures.err
