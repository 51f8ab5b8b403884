use Rattle.std.proofs.Common.{ap, arith}
use Rattle.group_values.specs.Values.{batches_made}
use Rattle.gcks_core.specs.Prepares.{PreparedBatch}
use Rattle.gcks_core.proofs.PrepareLemmas.{allowed_there, high_there, ids_are, moved_there, on_err, place_there, positions_there, values_there}
use Rattle.gcks_core.proofs.preparing.prepare_batch.Goals as goal

pub make_ready-requires-clause-drawn : goal.make_ready-requires-clause-drawn
make_ready-requires-clause-drawn g c =
    ids_are (g.R.Draws.block_at c.args.draws.now) (g.R.Draws.place_of c.args.draws.now) c.in_ok-values.values c.drawn.result.now c.in_ok-marked.marked.drawn
    c.in_ok-values.ensures.values c.drawn.ensures

pub make_ready-requires-clause-high : goal.make_ready-requires-clause-high
make_ready-requires-clause-high g c =
    high_there (g.R.Draws.block_at c.args.draws.now) (g.R.Draws.place_of c.args.draws.now) c.in_ok-values.values c.drawn.result.now c.in_ok-marked.marked.drawn
    c.in_ok-values.ensures.values c.drawn.ensures c.prove_values_fit.ensures.traffic.spi

pub returns-in_err-values-clause-moved : goal.returns-in_err-values-clause-moved
returns-in_err-values-clause-moved g c list group =
    on_err c.from_residual-in_err-values.result (0, omega arith, ap g.R.Draws.place_of c.in_err-values.ensures.err)

pub returns-in_err-ready-clause-moved : goal.returns-in_err-ready-clause-moved
returns-in_err-ready-clause-moved g c list group =
    on_err c.from_residual-in_err-ready.result
    (moved_there (g.R.Draws.place_of c.args.draws.now) (g.R.Draws.place_of c.draw_values.new.draws) c.drawn.result.now _ c.in_ok-values.ensures.place
    (positions_there c.args.head.now c.args.tree.now list group c.args.batch.now c.args.head.now.limit c.in_ok-marked.marked c.in_ok-marked.ensures.ok
    c.drawn.result.now c.drawn.ensures)
    _ (allowed_there c.args.head.now c.args.tree.now list group c.args.batch.now (c.in_ok-marked.ensures.allowed (batches_made list) group.tree)))

pub returns-clause-allowed : goal.returns-clause-allowed
returns-clause-allowed g c list group =
    allowed_there c.args.head.now c.args.tree.now list group c.args.batch.now (c.in_ok-marked.ensures.allowed (batches_made list) group.tree)

pub returns-clause-values : goal.returns-clause-values
returns-clause-values g c list group =
    values_there (g.R.Draws.block_at c.args.draws.now) (g.R.Draws.place_of c.args.draws.now) c.drawn.result.now _ c.in_ok-values.values
    c.of.result.values (ap (λ (prepared : PreparedBatch). prepared.values) c.of.ensures) c.in_ok-values.ensures.values
    (positions_there c.args.head.now c.args.tree.now list group c.args.batch.now c.args.head.now.limit c.in_ok-marked.marked c.in_ok-marked.ensures.ok
    c.drawn.result.now c.drawn.ensures)

pub returns-clause-place : goal.returns-clause-place
returns-clause-place g c list group =
    place_there (g.R.Draws.place_of c.args.draws.now) (g.R.Draws.place_of c.draw_values.new.draws) c.drawn.result.now _ c.in_ok-values.ensures.place
    (positions_there c.args.head.now c.args.tree.now list group c.args.batch.now c.args.head.now.limit c.in_ok-marked.marked c.in_ok-marked.ensures.ok
    c.drawn.result.now c.drawn.ensures)
