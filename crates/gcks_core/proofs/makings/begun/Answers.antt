use Rattle.std.proofs.Common.{◌∙◌, sym}
use Rattle.gcks_core.proofs.ReplayLemmas.{begun_group}
use Rattle.gcks_core.proofs.makings.begun.Goals as goal

pub returns : goal.returns
returns c head same =
    let tree = c.in_ok-tree.tree in
    begun_group head tree (c.in_ok-tree.ensures.depth ∙ sym same) c.in_ok-tree.ensures.empty c.prove_room.ensures c.in_ok-tree.ensures.none
