use Rattle.std.proofs.Common.{◌∙◌, ap}
use Rattle.std.specs.List.{count_by}
use Rattle.group_terms.specs.LeafMarks.{Marked as LeafMarked}
use Rattle.group_model.specs.Places.{member_count}
use Rattle.key_tree.specs.Present.{Present}
use Rattle.key_tree.proofs.SeatLemmas.{members_by_marks}
use Rattle.key_tree.proofs.key_trees.KeyTree.members.Goals as goal

pub returns-clause-members : goal.returns-clause-members
returns-clause-members c =
    c.marked.ensures.marked ∙ ap (λ (marked : LeafMarked). count_by (λ mark. mark) marked.leaves) c.self.invariant.marked ∙ members_by_marks c.self.inside.holders
    ∙ ap (λ (tree : Present). member_count tree.holders) c.self.view_is
