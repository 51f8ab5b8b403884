use Rattle.std.proofs.Common.{map, ap, sym, ◌∙◌}
use Rattle.std.specs.Prelude.{is_some}
use Rattle.group_terms.specs.Positions.{some_leaf_below}
use Rattle.group_model.specs.Fresh.{is_fresh}
use Rattle.key_tree.specs.Marks.{holders_then, renewal}
use Rattle.key_tree.specs.declared.marks.Renewed.{Renewed}
use Rattle.key_tree.specs.Present.{Present}
use Rattle.key_tree.proofs.FoundLemmas.{some_fresh, none_fresh}
use Rattle.key_tree.proofs.InstalledLemmas.{stayed_as_held}
use Rattle.key_tree.proofs.SeatLemmas.{length-seated}
use Rattle.key_tree.proofs.key_trees.KeyTree.is_stayed_below.Goals as goal

pub returns-in-Some : goal.returns-in-Some
returns-in-Some c =
    let tree = c.args.self.now in
    let then = holders_then tree c.args.marked.now in
    let fresh = some_fresh (is_fresh tree.depth tree.holders then c.args.id) (renewal tree.depth tree.holders then c.args.id) c.in-Some.renewed (sym c.in-Some.is ∙ c.renewed.ensures) in
    ap (λ (found : Renewed). found.stayed) fresh.1

pub returns-in-None : goal.returns-in-None
returns-in-None c =
    let tree = c.args.self.now in
    let marked = c.args.marked.now in
    let then = holders_then tree marked in
    let stale = none_fresh (is_fresh tree.depth tree.holders then c.args.id) (renewal tree.depth tree.holders then c.args.id) (sym c.in-None.is ∙ c.renewed.ensures) in
    c.is_below.ensures
    ∙ (λ i. some_leaf_below ((c.self.invariant.marked i).depth) ((c.self.invariant.marked i).leaves) ((c.from.ensures ∙ c.number.ensures.value) i))
    ∙ ap (λ (tree : Present). some_leaf_below tree.depth (map is_some tree.holders) c.args.id) c.self.view_is
    ∙ sym (stayed_as_held tree.depth tree.holders then c.args.id (length-seated tree.holders marked.seats) stale)
