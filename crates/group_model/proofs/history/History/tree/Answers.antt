use Rattle.group_model.proofs.EpochLemmas.{HasShape-from_stands}
use Rattle.group_model.proofs.TreeLemmas.{StandsAt-first}
use Rattle.group_model.proofs.history.History.tree.Goals as goal

pub loop-index-init : goal.loop-index-init
loop-index-init c =
    let history = c.args.self.now in
    let stands = StandsAt-first history.depth history.batches c.in_ok-tree.tree (rw c.depth.ensures.depth at c.in_ok-tree.ensures.holders) (rw c.depth.ensures.depth at c.in_ok-tree.ensures.made) in
    (stands, HasShape-from_stands history.depth history.batches 0 c.in_ok-tree.tree stands)
