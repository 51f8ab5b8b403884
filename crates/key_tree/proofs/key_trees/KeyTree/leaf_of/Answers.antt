use Rattle.std.proofs.Common.{◌≡◌, ◌^◌, length, ap, subst, ◌∙◌}
use Rattle.group_model.specs.Places.{place_in}
use Rattle.key_tree.specs.Present.{Present}
use Rattle.group_model.proofs.PathLemmas.{each_is_leaf}
use Rattle.key_tree.proofs.key_trees.KeyTree.leaf_of.Goals as goal

pub returns-clause-leaf : goal.returns-clause-leaf
returns-clause-leaf c =
    let holders = c.as_slice.result.now in
    let whole : length holders ≡ 2 ^ c.self.inside.depth = ap length c.as_slice.ensures ∙ c.self.invariant.leaves in
    each_is_leaf c.args.self.now.depth c.args.member.now c.leaf.result holders
    (subst (λ (tree : Present). length holders ≡ 2 ^ tree.depth) c.self.view_is whole)
    (subst (λ (tree : Present). c.leaf.result ≡ place_in tree.depth holders c.args.member.now) c.self.view_is c.leaf.ensures)
