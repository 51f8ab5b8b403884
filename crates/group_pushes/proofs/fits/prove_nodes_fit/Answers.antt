use Rattle.std.proofs.Common.{take_all, subst, arith}
use Rattle.std.specs.List.{All}
use Rattle.std.proofs.lemmas.List.Elements.{All-more}
use Rattle.group_terms.specs.declared.values.Drawn.{Drawn}
use Rattle.push_msg.specs.Written.{KekFits}
use Rattle.group_pushes.proofs.fits.prove_nodes_fit.Goals as goal

abbrev DrawnFits : Drawn → Type 0
DrawnFits drawn = KekFits drawn.value

pub loop-node-preserved : goal.loop-node-preserved
loop-node-preserved c =
    let fits = subst DrawnFits c.node-item.is c.prove_node_fits.ensures in
    All-more DrawnFits c.args.nodes.now c.loop-node.node-index c.node-item.result c.loop-node-test.true c.loop-node.invariant fits

pub returns : goal.returns
returns c = subst (All DrawnFits) (take_all c.loop-node.node-index c.args.nodes.now (omega arith)) c.loop-node.invariant
