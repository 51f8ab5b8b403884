use Rattle.std.proofs.Common.{None, sym}
use Rattle.group_values.proofs.SearchLemmas.{drawn_absent, drawn_found}
use Rattle.group_values.proofs.keeping.drawn_for.Goals as goal

pub returns-in-Ok : goal.returns-in-Ok
returns-in-Ok c rises =
    let there = c.in-Ok.ensures in
    let node = c.index-nodes-place.result in
    sym (drawn_found c.args.nodes.now c.args.id c.in-Ok.place None node there.range (there.found node) rises)

pub returns-in-Err : goal.returns-in-Err
returns-in-Err c rises = sym (drawn_absent c.args.nodes.now c.args.id None (c.in-Err.ensures.absent rises))
