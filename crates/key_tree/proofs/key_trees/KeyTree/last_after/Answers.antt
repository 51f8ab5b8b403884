use Rattle.std.proofs.Common.{◌≡◌, ◌+◌, ◌^◌, None, Some, cond, length, get_or, ap, sym, subst, ◌∙◌}
use Rattle.group_model.specs.Fresh.{is_fresh}
use Rattle.key_tree.specs.Marks.{holders_then, renewal}
use Rattle.key_tree.specs.Present.{Present}
use Rattle.key_tree.proofs.FoundLemmas.{some_fresh, none_fresh}
use Rattle.key_tree.proofs.InstalledLemmas.{changes-installed}
use Rattle.key_tree.proofs.key_trees.KeyTree.last_after.Goals as goal

pub returns-in-Some : goal.returns-in-Some
returns-in-Some c =
    let tree = c.args.self.now in
    let marked = c.args.marked.now in
    let v = c.args.id in
    let long : length tree.changes ≡ 2 ^ (tree.depth + 1) = subst (λ (tree : Present). length tree.changes ≡ 2 ^ (tree.depth + 1)) c.self.view_is c.self.invariant.positions in
    let fresh = some_fresh (is_fresh tree.depth tree.holders (holders_then tree marked) v) (renewal tree.depth tree.holders (holders_then tree marked) v) c.in-Some.field-0 (sym c.in-Some.is ∙ c.renewed.ensures) in
    sym (changes-installed tree marked v c.requires.within long ∙ ap (λ b. cond b (Some marked.epoch) (get_or tree.changes v None)) fresh.0)

pub returns-in-None : goal.returns-in-None
returns-in-None c =
    let tree = c.args.self.now in
    let marked = c.args.marked.now in
    let v = c.args.id in
    let long : length tree.changes ≡ 2 ^ (tree.depth + 1) = subst (λ (tree : Present). length tree.changes ≡ 2 ^ (tree.depth + 1)) c.self.view_is c.self.invariant.positions in
    let stale = none_fresh (is_fresh tree.depth tree.holders (holders_then tree marked) v) (renewal tree.depth tree.holders (holders_then tree marked) v) (sym c.in-None.is ∙ c.renewed.ensures) in
    c.last.ensures ∙ sym (changes-installed tree marked v c.requires.within long ∙ ap (λ b. cond b (Some marked.epoch) (get_or tree.changes v None)) stale)
