use Rattle.sym_closure.proofs.ClosureLemmas.{IsClosure-complete}
use Rattle.sym_closure.proofs.closures.reach.Goals as goal

pub returns-clause-closure : goal.returns-clause-closure
returns-clause-closure c =
    let start = c.add_held.new.reached.order in
    let order = c.close.new.reached.order in
    let held = c.in_ok-add_held.ensures in
    let done = c.in_ok-close.ensures in
    IsClosure-complete c.args.graph.now c.len.ensures.graph c.args.have.now start order done.within.below held.among held.held done.grown
    done.complete
