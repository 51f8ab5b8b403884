use Rattle.std.proofs.Common.{drop, length, subst}
use Rattle.std.specs.Prelude.{OnErr, OnOk}
use Rattle.std.proofs.lemmas.Result.{IfErr-at_err, IfOk-at_ok}
use Rattle.group_run.specs.Blocks.{IsBlock, StopsShort}
use Rattle.group_run.specs.Places.{Reaches, ReachesServed, keys_of}
use Rattle.group_steps.specs.Devices.{devices}
use Rattle.run_report.specs.Reports.{Puts}
use Rattle.script_text.specs.Report.{entries_text}
use Rattle.console_run.specs.Private.Reports.{EntriesStop}
use Rattle.console_run.specs.Private.Runs.{drawn_by}
use Rattle.console_run.proofs.BlockRunLemmas.{Ran, Stopped, block_runs, block_stops, block_untold}
use Rattle.console_run.proofs.block_run.run_block.Goals as goal

pub returns-in-Err-clause-runs : goal.returns-in-Err-clause-runs
returns-in-Err-clause-runs g c =
    let on = devices g.D.Disk g.G.Signer g.V.Verifier c.args.tools.now.verifier.now in
    let peers = drawn_by g.P.Draws c.args.peers.now in
    let old = c.args.group in
    let new = c.block-group.result.0 in
    let result = c.block-group.result.1 in
    let was = g.K.Sink.shows c.args.out.now in
    let now = g.K.Sink.shows c.report_from.new.out in
    let asks = c.args.asks.now in
    let block = g.P.Draws.block_at c.args.peers.now in
    block_untold on g.R.Draws peers c.args.tools.now.workers asks old new c.requires.rest c.block-group.ensures.goes_on was now result
    (subst (λ name. OnOk result (Reaches g.D.Disk g.R.Draws (IsBlock g.D.Disk g.G.Signer (keys_of g.R.Draws old block name) c.args.tools.now.workers asks) old new))
    c.console_name.ensures c.block-group.ensures.ok)
    (subst (λ name. OnErr result (ReachesServed g.D.Disk g.R.Draws (StopsShort g.D.Disk g.G.Signer (keys_of g.R.Draws old block name) c.args.tools.now.workers asks) old
    new)) c.console_name.ensures c.block-group.ensures.err)
    c.in-Err.stop
    (subst (EntriesStop c.in-Err.stop was now) (λ i. drop (length (c.history-first.ensures i)) (c.history.ensures i)) c.in-Err.ensures.stops)

pub returns-in-Ok-ran-clause-runs : goal.returns-in-Ok-ran-clause-runs
returns-in-Ok-ran-clause-runs g c =
    let on = devices g.D.Disk g.G.Signer g.V.Verifier c.args.tools.now.verifier.now in
    let peers = drawn_by g.P.Draws c.args.peers.now in
    let old = c.args.group in
    let new = c.block-group.result.0 in
    let result = c.block-group.result.1 in
    let was = g.K.Sink.shows c.args.out.now in
    let now = g.K.Sink.shows c.report_from.new.out in
    let asks = c.args.asks.now in
    let block = g.P.Draws.block_at c.args.peers.now in
    block_runs on g.R.Draws peers c.args.tools.now.workers asks old new c.requires.rest c.block-group.ensures.goes_on was now
    (IfOk-at_ok (λ _. Ran on g.R.Draws peers c.args.tools.now.workers asks old new c.requires.rest c.block-group.ensures.goes_on was now) c.in-Ok-ran.is
    (subst (λ name. OnOk result (Reaches g.D.Disk g.R.Draws (IsBlock g.D.Disk g.G.Signer (keys_of g.R.Draws old block name) c.args.tools.now.workers asks) old new))
    c.console_name.ensures c.block-group.ensures.ok))
    (subst (λ got. Puts was now (entries_text got)) (λ i. drop (length (c.history-first.ensures i)) (c.history.ensures i)) c.in-Ok.ensures.ok)

pub returns-in-Err-ran-clause-runs : goal.returns-in-Err-ran-clause-runs
returns-in-Err-ran-clause-runs g c =
    let on = devices g.D.Disk g.G.Signer g.V.Verifier c.args.tools.now.verifier.now in
    let peers = drawn_by g.P.Draws c.args.peers.now in
    let old = c.args.group in
    let new = c.block-group.result.0 in
    let result = c.block-group.result.1 in
    let was = g.K.Sink.shows c.args.out.now in
    let now = g.K.Sink.shows c.report_from.new.out in
    let asks = c.args.asks.now in
    let block = g.P.Draws.block_at c.args.peers.now in
    block_stops on g.R.Draws peers c.args.tools.now.workers asks old new c.requires.rest c.block-group.ensures.goes_on was now
    (IfErr-at_err (λ _. Stopped on g.R.Draws peers c.args.tools.now.workers asks old new c.requires.rest c.block-group.ensures.goes_on was now) c.in-Err-ran.is
    (subst (λ name. OnErr result (ReachesServed g.D.Disk g.R.Draws (StopsShort g.D.Disk g.G.Signer (keys_of g.R.Draws old block name) c.args.tools.now.workers asks) old
    new)) c.console_name.ensures c.block-group.ensures.err))
    (subst (λ got. Puts was now (entries_text got)) (λ i. drop (length (c.history-first.ensures i)) (c.history.ensures i)) c.in-Ok.ensures.ok)
