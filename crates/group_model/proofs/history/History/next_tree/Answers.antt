use Rattle.group_model.proofs.TreeLemmas.{StandsAt-step}
use Rattle.group_model.proofs.history.History.next_tree.Goals as goal

pub returns-clause-stands : goal.returns-clause-stands
returns-clause-stands c =
    let history = c.args.self.now in
    StandsAt-step history.depth c.args.index history.batches c.changes-changes.result.now c.args.tree.now c.in_ok-after.field-0 c.requires.index c.changes-changes.ensures.changes c.requires.stands c.in_ok-after.ensures.holders
    (rw c.depth.ensures.depth at c.in_ok-after.ensures.made)
