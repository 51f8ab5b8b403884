use Rattle.std.proofs.Common.{◌∙◌, refl, sym}
use Rattle.std.proofs.lemmas.Result.{IfOk-weaker, on_err_weaker}
use Rattle.group_run.specs.Places.{keys_of}
use Rattle.register_workers.specs.declared.lines.BlockAsk.TheVariants.{Join}
use Rattle.group_run.proofs.BeginLemmas.{joins_before, joins_first, on_err_always, served_after, served_join, served_same}
use Rattle.group_run.proofs.runs.GroupRun.begin_join.Goals as goal

pub returns-then-was_introduced-clause-ok : goal.returns-then-was_introduced-clause-ok
returns-then-was_introduced-clause-ok g c =
    let keys = keys_of g.R.Draws c.args.self.now (g.P.Draws.block_at c.args.draws.now) c.args.group.now in
    IfOk-weaker c.begin_pull.result _ _
    (λ handed pulls. joins_before g.D.Disk g.G.Signer g.R.Draws keys c.args.member.now handed (sym c.was_introduced.ensures ∙ c.if-was_introduced.true)
    (pulls keys refl refl))
    c.begin_pull.ensures.ok

pub returns-then-was_introduced-clause-err : goal.returns-then-was_introduced-clause-err
returns-then-was_introduced-clause-err g c =
    let keys = keys_of g.R.Draws c.args.self.now (g.P.Draws.block_at c.args.draws.now) c.args.group.now in
    on_err_weaker c.begin_pull.result (λ same. served_same g.D.Disk g.G.Signer g.R.Draws keys (Join c.args.member.now) same) c.begin_pull.ensures.err

pub returns-in_err-begin_introduction-clause-err : goal.returns-in_err-begin_introduction-clause-err
returns-in_err-begin_introduction-clause-err g c =
    on_err_always c.from_residual.result
    (served_join g.D.Disk g.G.Signer g.R.Draws (keys_of g.R.Draws c.args.self.now (g.P.Draws.block_at c.args.draws.now) c.args.group.now) c.args.member.now
    (sym c.was_introduced.ensures ∙ c.if-was_introduced.false) (c.in_err-begin_introduction.ensures.err c.args.group.now))

pub returns-clause-ok : goal.returns-clause-ok
returns-clause-ok g c =
    let keys = keys_of g.R.Draws c.args.self.now (g.P.Draws.block_at c.args.draws.now) c.args.group.now in
    let first = c.in_ok-begin_introduction.ensures in
    IfOk-weaker c.begin_pull-2.result _ _
    (λ handed pulls. joins_first g.D.Disk g.G.Signer g.R.Draws keys c.args.member.now handed (sym c.was_introduced.ensures ∙ c.if-was_introduced.false)
    (first.ok c.args.group.now) (pulls keys (λ i k. sym (first.blocks k) i) refl))
    c.begin_pull-2.ensures.ok

pub returns-clause-err : goal.returns-clause-err
returns-clause-err g c =
    let keys = keys_of g.R.Draws c.args.self.now (g.P.Draws.block_at c.args.draws.now) c.args.group.now in
    on_err_weaker c.begin_pull-2.result
    (λ same. served_join g.D.Disk g.G.Signer g.R.Draws keys c.args.member.now (sym c.was_introduced.ensures ∙ c.if-was_introduced.false)
    (served_after g.D.Disk g.G.Signer g.R.Draws keys c.args.member.now (c.in_ok-begin_introduction.ensures.ok c.args.group.now) same))
    c.begin_pull-2.ensures.err
