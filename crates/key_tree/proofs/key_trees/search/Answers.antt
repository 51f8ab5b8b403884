use Rattle.std.proofs.Common.{ℕ, rules, subst}
use Rattle.std.specs.List.Sorted.{IsBinarySearchResult}
use Rattle.std.specs.Ordering.{nat_cmp}
use Rattle.std.proofs.lemmas.List.Sorted.{answers_always}
use Rattle.group_values.proofs.SearchLemmas.{search_absent, search_found}
use Rattle.key_tree.specs.declared.marks.Renewed.{Renewed}
use Rattle.key_tree.proofs.key_trees.search.Goals as goal

pub returns-clause-found : goal.returns-clause-found
returns-clause-found c =
    let searched = c.binary_search_by_key.ensures.position (λ (found : Renewed). found.id) (answers_always _ _ _ (λ f a r g called. search rules)) in
    search_found (λ (found : Renewed). found.id) c.args.renewed.now c.args.id c.binary_search_by_key.result
    (subst (λ (v : ℕ). IsBinarySearchResult (λ (found : Renewed). nat_cmp found.id v) c.args.renewed.now c.binary_search_by_key.result) c.number.ensures.value searched)

pub returns-clause-absent : goal.returns-clause-absent
returns-clause-absent c rises =
    let searched = c.binary_search_by_key.ensures.position (λ (found : Renewed). found.id) (answers_always _ _ _ (λ f a r g called. search rules)) in
    search_absent (λ (found : Renewed). found.id) c.args.renewed.now c.args.id c.binary_search_by_key.result
    (subst (λ (v : ℕ). IsBinarySearchResult (λ (found : Renewed). nat_cmp found.id v) c.args.renewed.now c.binary_search_by_key.result) c.number.ensures.value searched) rises
