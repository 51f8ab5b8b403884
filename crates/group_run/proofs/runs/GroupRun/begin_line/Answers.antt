use Rattle.std.proofs.Common.{IfOk, OnErr, refl, sym, subst}
use Rattle.std.proofs.lemmas.Result.{IfOk-weaker, on_err_weaker}
use Rattle.register_workers.specs.declared.lines.BlockAsk.{BlockAsk}
use Rattle.group_run.specs.Blocks.{Prepares, StopsInOne}
use Rattle.group_run.specs.Places.{Reaches, ReachesServed, keys_of}
use Rattle.group_run.proofs.BeginLemmas.{keeps_all, nothing_sent, prepares_nothing, served_same}
use Rattle.group_run.proofs.runs.GroupRun.begin_line.Goals as goal

pub returns-in-Join-clause-ok : goal.returns-in-Join-clause-ok
returns-in-Join-clause-ok g c =
    let keys = keys_of g.R.Draws c.args.self.now (g.P.Draws.block_at c.args.draws.now) c.args.group.now in
    subst (λ (ask : BlockAsk). IfOk c.begin_join.result (λ handed. Reaches g.D.Disk g.R.Draws
    (λ old new. Prepares g.D.Disk g.G.Signer keys ask old new handed) c.args.self.now c.begin_join.new.self))
    (sym c.in-Join.is) c.begin_join.ensures.ok

pub returns-in-Join-clause-err : goal.returns-in-Join-clause-err
returns-in-Join-clause-err g c =
    let keys = keys_of g.R.Draws c.args.self.now (g.P.Draws.block_at c.args.draws.now) c.args.group.now in
    subst (λ (ask : BlockAsk). OnErr c.begin_join.result (ReachesServed g.D.Disk g.R.Draws
    (StopsInOne g.D.Disk g.G.Signer keys ask) c.args.self.now c.begin_join.new.self))
    (sym c.in-Join.is) c.begin_join.ensures.err

pub returns-in-Again-clause-ok : goal.returns-in-Again-clause-ok
returns-in-Again-clause-ok g c =
    let keys = keys_of g.R.Draws c.args.self.now (g.P.Draws.block_at c.args.draws.now) c.args.group.now in
    subst (λ (ask : BlockAsk). IfOk c.begin_again.result (λ handed. Reaches g.D.Disk g.R.Draws
    (λ old new. Prepares g.D.Disk g.G.Signer keys ask old new handed) c.args.self.now c.begin_again.new.self))
    (sym c.in-Again.is) (IfOk-weaker c.begin_again.result _ _ (λ handed prepares. prepares keys) c.begin_again.ensures.ok)

pub returns-in-Again-clause-err : goal.returns-in-Again-clause-err
returns-in-Again-clause-err g c =
    let keys = keys_of g.R.Draws c.args.self.now (g.P.Draws.block_at c.args.draws.now) c.args.group.now in
    on_err_weaker c.begin_again.result (λ same. served_same g.D.Disk g.G.Signer g.R.Draws keys c.args.ask.now same) c.begin_again.ensures.err

pub returns-in_default : goal.returns-in_default
returns-in_default g c =
    let keys = keys_of g.R.Draws c.args.self.now (g.P.Draws.block_at c.args.draws.now) c.args.group.now in
    record {
      ok = prepares_nothing g.D.Disk g.G.Signer g.R.Draws keys c.args.ask.now c.in_default.not-Join c.in_default.not-Again;
      sent = λ handed. nothing_sent c.args.self.now.members.all c.args.ask.now c.in_default.not-Join c.in_default.not-Again;
      keeps = keeps_all c.args.self.now.members.all;
      goes_on = record { signer = refl; blocks = λ k. refl };
      place = c.requires;
      blocks = λ k. refl;
      rules = refl;
      mail = refl;
      err = tt;
    }
