use Rattle.sym_closure.specs.Private.Graphs.{pairs_of}
use Rattle.sym_closure.proofs.FirstLemmas.{HasSame-trans}
use Rattle.sym_closure.proofs.closures.graph_with.Goals as goal

pub returns-clause-same : goal.returns-clause-same
returns-clause-same c =
    HasSame-trans c.args.pairs.now (pairs_of c.in_ok-graph.graph) (pairs_of c.add_keys.new.self) c.in_ok-graph.ensures c.in_ok-add_keys.ensures.pairs
