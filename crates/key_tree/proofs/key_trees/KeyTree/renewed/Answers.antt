use Rattle.std.proofs.Common.{cond, None, Some, ap, sym, ◌∙◌}
use Rattle.key_tree.specs.declared.marks.Renewed.{Renewed}
use Rattle.key_tree.specs.Marks.{holders_then, renewal}
use Rattle.key_tree.proofs.FoundLemmas.{found_there, ids_rise, none_there}
use Rattle.key_tree.proofs.key_trees.KeyTree.renewed.Goals as goal

pub returns-in-Ok : goal.returns-in-Ok
returns-in-Ok c =
    let tree = c.args.self.now in
    let marked = c.args.marked.now in
    let found = c.index-renewed-place.result in
    found_there tree.depth tree.holders (holders_then tree marked) c.as_slice-renewed.result.now c.args.id c.in-Ok.place found
    (c.as_slice-renewed.ensures ∙ c.requires.ready.renewed) c.in-Ok.ensures.range c.index-renewed-place.is (ap (λ (it : Renewed). it.id) c.index-renewed-place.is ∙ c.in-Ok.ensures.found found)

pub returns-in-Err : goal.returns-in-Err
returns-in-Err c =
    let tree = c.args.self.now in
    let then = holders_then tree c.args.marked.now in
    let list = c.as_slice-renewed.ensures ∙ c.requires.ready.renewed in
    sym (ap (λ b. cond b (Some (renewal tree.depth tree.holders then c.args.id)) None)
    (none_there tree.depth tree.holders then c.as_slice-renewed.result.now c.args.id list c.search.ensures.positive c.requires.within
    (c.in-Err.ensures.absent (ids_rise tree.depth tree.holders then c.as_slice-renewed.result.now list))))
