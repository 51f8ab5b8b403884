use Rattle.std.proofs.Common.{[], sym, subst}
use Rattle.std.proofs.lemmas.List.{take_all}
use Rattle.sym_closure.specs.Firsts.{HasSame}
use Rattle.sym_closure.specs.Private.Graphs.{pairs_of}
use Rattle.sym_closure.proofs.FirstLemmas.{HasSame-itself, HasSame-next}
use Rattle.sym_closure.proofs.closures.graph_of.Goals as goal

pub loop-pair-init : goal.loop-pair-init
loop-pair-init c = subst (HasSame []) (sym c.new-graph.ensures) (HasSame-itself [])

pub loop-pair-preserved : goal.loop-pair-preserved
loop-pair-preserved c = HasSame-next [] (pairs_of c.loop-pair.graph) (pairs_of c.add.new.self) c.args.pairs.now c.loop-pair.pair-index
    c.pair-item.result c.loop-pair-test.true c.pair-item.is c.loop-pair.invariant c.in_ok-add.ensures

pub returns : goal.returns
returns c = subst (λ front. HasSame front (pairs_of c.loop-pair.graph))
    (take_all c.loop-pair.pair-index c.args.pairs.now c.loop-pair-test.false) c.loop-pair.invariant
