use Rattle.std.proofs.Common.{take_all, subst, arith}
use Rattle.std.specs.List.{All}
use Rattle.std.proofs.lemmas.List.Elements.{All-more}
use Rattle.group_records.specs.Fits.{NodeFits}
use Rattle.group_records.proofs.fits.prove_nodes_fit.Goals as goal

pub loop-node-preserved : goal.loop-node-preserved
loop-node-preserved c =
    let fits = subst NodeFits c.node-item.is c.prove_node_fits.ensures in
    All-more NodeFits c.args.nodes.now c.loop-node.node-index c.node-item.result c.loop-node-test.true c.loop-node.invariant fits

pub returns : goal.returns
returns c = subst (All NodeFits) (take_all c.loop-node.node-index c.args.nodes.now (omega arith)) c.loop-node.invariant
