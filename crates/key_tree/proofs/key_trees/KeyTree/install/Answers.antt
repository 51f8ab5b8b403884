use Rattle.std.proofs.Common.{◌≡◌, ◌∙◌, ℕ, ◌+◌, ◌-◌, ◌^◌, ◌<◌, ◌++◌, length, take, drop, sym, ap, subst, arith}
use Rattle.std.specs.List.{All}
use Rattle.group_terms.specs.Positions.{marks_of}
use Rattle.group_values.specs.Values.{KeepsLast}
use Rattle.group_model.specs.Fresh.{changed_leaves}
use Rattle.group_model.specs.LastChanges.{renewed}
use Rattle.key_tree.specs.Present.{Present}
use Rattle.key_tree.specs.Marks.{fresh_between, holders_then, ids_renewed, installed, seated}
use Rattle.key_tree.specs.Private.Draws.{renewed_from}
use Rattle.key_tree.proofs.AfterLemmas.{ids_of_renewals, with_values}
use Rattle.key_tree.proofs.DrawLemmas.{drawn_within, nodes_within, renewed_within, pow_some, written_over}
use Rattle.key_tree.proofs.key_trees.KeyTree.install.Goals as goal

pub renew_all-requires : goal.renew_all-requires
renew_all-requires c =
    let tree = c.args.self.now in
    let then = holders_then tree c.args.marked in
    let deep : tree.depth ≡ c.self.inside.depth = ap (λ (tree : Present). tree.depth) (sym c.self.view_is) in
    let same : 2 ^ (tree.depth + 1) ≡ 2 ^ (c.self.inside.depth + 1) = ap (λ depth. 2 ^ (depth + 1)) deep in
    let long : length c.as_mut_slice.result.now ≡ 2 ^ (c.self.inside.depth + 1) = ap length c.as_mut_slice.ensures.value ∙ c.self.invariant.positions in
    subst (All (λ v. v < length c.as_mut_slice.result.now))
    (sym (ap ids_renewed (c.as_slice.ensures ∙ c.requires.ready.renewed) ∙ ids_of_renewals tree.depth tree.holders then (fresh_between tree.depth tree.holders then)))
    (renewed_within tree.depth (changed_leaves tree.holders then) 1 (2 ^ (tree.depth + 1) - 1) (length c.as_mut_slice.result.now) (omega (arith, long, same, pow_some (c.self.inside.depth + 1))))

pub returns-clause-stands : goal.returns-clause-stands
returns-clause-stands c batch limit marked =
    let was : Present = record { depth = c.self.inside.depth; epoch = c.self.inside.epoch; sequence = c.self.inside.sequence; holders = c.self.inside.holders; changes = c.self.inside.made; kept = c.self.inside.kept } in
    let then = holders_then was c.args.marked in
    let leaves = changed_leaves was.holders then in
    let fresh : ids_renewed c.as_slice.result.now ≡ renewed_from was.depth leaves 1 (2 ^ (was.depth + 1) - 1) =
    ap ids_renewed c.as_slice.ensures
    ∙ subst (λ (tree : Present). ids_renewed c.args.marked.renewed ≡ fresh_between tree.depth tree.holders (holders_then tree c.args.marked)) (sym c.self.view_is)
    (ap ids_renewed c.requires.ready.renewed ∙ ids_of_renewals c.args.self.now.depth c.args.self.now.holders (holders_then c.args.self.now c.args.marked) (fresh_between c.args.self.now.depth c.args.self.now.holders (holders_then c.args.self.now c.args.marked))) in
    let changes : take (length was.changes) (c.renew_all.new.made ++ drop (length c.renew_all.new.made) was.changes) ≡ renewed c.args.marked.epoch was.changes (marks_of was.depth leaves) =
    written_over was.changes c.renew_all.new.made (c.renew_all.ensures.len ∙ ap length c.as_mut_slice.ensures.value)
    ∙ c.renew_all.ensures.made was.depth leaves (ap length c.as_mut_slice.ensures.value ∙ c.self.invariant.positions) fresh
    ∙ ap (λ made. renewed c.args.marked.epoch made (marks_of was.depth leaves)) c.as_mut_slice.ensures.value in
    let holders : take (length was.holders) (c.take_seats.new.holders ++ drop (length c.take_seats.new.holders) was.holders) ≡ then =
    written_over was.holders c.take_seats.new.holders (c.take_seats.ensures.len ∙ ap length c.as_mut_slice-2.ensures.value)
    ∙ c.take_seats.ensures.holders ∙ (λ i. seated (c.as_mut_slice-2.ensures.value i) (c.as_slice-2.ensures i)) in
    let tree_is =
    (λ i. record { depth = was.depth; epoch = c.args.marked.epoch; sequence = c.args.marked.sequence; holders = holders i; changes = changes i; kept = c.take.new.self })
    ∙ ap (λ (tree : Present). record (installed tree c.args.marked) { kept = c.take.new.self }) c.self.view_is in
    with_values c.args.self.now batch limit (installed c.args.self.now c.args.marked) _ tree_is marked.next

pub take-requires : goal.take-requires
take-requires c =
    let tree = c.args.self.now in
    let bound : ℕ = length c.self.inside.kept.nodes in
    let deep : tree.depth ≡ c.self.inside.depth = ap (λ (tree : Present). tree.depth) (sym c.self.view_is) in
    let same : 2 ^ (tree.depth + 1) ≡ 2 ^ (c.self.inside.depth + 1) = ap (λ depth. 2 ^ (depth + 1)) deep in
    nodes_within bound c.args.values.now.nodes
    (subst (All (λ v. v < bound)) (sym (c.requires.drawn ∙ c.requires.ready.drawn))
    (drawn_within tree.depth tree.holders (holders_then tree c.args.marked) bound (omega (arith, c.self.invariant.room, same))))

pub returns-clause-last : goal.returns-clause-last
returns-clause-last c list changes keeps = c.take.ensures.last list changes (subst (λ (tree : Present). KeepsLast tree.kept list) (sym c.self.view_is) keeps)
