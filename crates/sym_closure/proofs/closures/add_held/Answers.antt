use Rattle.sym_closure.proofs.ClosureLemmas.{among_more, AreReached-more}
use Rattle.sym_closure.proofs.closures.add_held.Goals as goal

pub loop-key-preserved : goal.loop-key-preserved
loop-key-preserved c =
    let graph = c.args.graph.now in
    let have = c.args.have.now in
    let place = c.loop-key.key-index in
    let key = c.key-item.result in
    let old = c.loop-key.reached.order in
    let new = c.add_held_key.new.reached.order in
    let before = c.loop-key.invariant in
    let added = c.in_ok-add_held_key.ensures in
    let more = added.grown.0 in
    let whole = added.grown.1 in
    record {
      bound = added.bound;
      among = among_more graph have place key c.loop-key-test.true c.key-item.is old new more whole before.among added.grown.2;
      held = AreReached-more graph have place key c.loop-key-test.true c.key-item.is old new more whole before.held added.held;
    }
