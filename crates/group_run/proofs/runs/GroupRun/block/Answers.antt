use Rattle.std.proofs.Common.{◌∙◌, sym}
use Rattle.group_run.proofs.LineLemmas.{can_run_on, stopped, whole}
use Rattle.group_run.proofs.ReachLemmas.{goes_then, on_err_then, on_ok_then}
use Rattle.group_run.proofs.runs.GroupRun.block.Goals as goal

pub run_lines-requires-clause-can : goal.run_lines-requires-clause-can
run_lines-requires-clause-can g c κs within =
    can_run_on g.D.Disk g.G.Signer g.R.Draws (g.P.Draws.block_at c.args.draws.now) c.args.group.now c.args.workers c.args.asks.now
    (c.in-Ok.ensures.ok c.args.workers) (c.in-Ok.ensures.rest ∙ c.requires.rest)

pub returns-in-Ok-clause-ok : goal.returns-in-Ok-clause-ok
returns-in-Ok-clause-ok g c =
    on_ok_then c.run_lines.result.1 c.run_lines.ensures.ok
    (whole g.D.Disk g.G.Signer g.R.Draws (g.P.Draws.block_at c.args.draws.now) c.args.group.now c.args.workers c.args.asks.now
    (c.in-Ok.ensures.ok c.args.workers) (c.in-Ok.ensures.rest ∙ c.requires.rest) c.in-Ok.ensures.goes_on)

pub returns-in-Ok-clause-err : goal.returns-in-Ok-clause-err
returns-in-Ok-clause-err g c =
    on_err_then c.run_lines.result.1 c.run_lines.ensures.err
    (stopped g.D.Disk g.G.Signer g.R.Draws (g.P.Draws.block_at c.args.draws.now) c.args.group.now c.args.workers c.args.asks.now
    (c.in-Ok.ensures.ok c.args.workers) (c.in-Ok.ensures.rest ∙ c.requires.rest) c.in-Ok.ensures.goes_on)

pub returns-in-Ok-clause-goes_on : goal.returns-in-Ok-clause-goes_on
returns-in-Ok-clause-goes_on g c = goes_then g.R.Draws c.in-Ok.ensures.goes_on c.run_lines.ensures.goes_on

pub returns-in-Ok-clause-place : goal.returns-in-Ok-clause-place
returns-in-Ok-clause-place g c = on_ok_then c.run_lines.result.1 c.run_lines.ensures.place (λ same. c.in-Ok.ensures.place ∙ sym same)

pub returns-in-Err-clause-err : goal.returns-in-Err-clause-err
returns-in-Err-clause-err g c = c.in-Err.ensures.err c.args.workers
