use Rattle.std.proofs.Common.{◌&&◌, Option, ◌∙◌}
use Rattle.std.specs.Prelude.{is_some}
use Rattle.group_terms.specs.Names.{Name}
use Rattle.tree_leaves.specs.Fresh.{is_same_holder}
use Rattle.tree_leaves.proofs.HolderLemmas.{zipped_more, zipped_all, length-zipped}
use Rattle.tree_leaves.proofs.holders.held_on.Goals as goal

pub loop-i-preserved : goal.loop-i-preserved
loop-i-preserved c =
    rw (c.in_ok-push.ensures.ok, c.is_held_on.ensures) (zipped_more (λ (leaf : Option Name × Option Name). is_some leaf.1 && is_same_holder leaf.0 leaf.1) c.args.before.now c.args.after.now c.loop-i.i c.index-before-i.result c.index-after-i.result c.loop-i.leaves c.requires c.loop-i-test.true c.index-before-i.is c.index-after-i.is c.loop-i.invariant)

pub returns : goal.returns
returns c =
    let all = c.loop-i.invariant ∙ zipped_all (λ (leaf : Option Name × Option Name). is_some leaf.1 && is_same_holder leaf.0 leaf.1) c.args.before.now c.args.after.now c.loop-i.i c.requires c.loop-i-test.false in
    record { leaves = all; len = length-zipped (λ (leaf : Option Name × Option Name). is_some leaf.1 && is_same_holder leaf.0 leaf.1) c.args.before.now c.args.after.now c.loop-i.leaves c.requires all }
