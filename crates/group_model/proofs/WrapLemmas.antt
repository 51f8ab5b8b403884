-- What a batch makes of a tree is what the list says of the epoch.
use Rattle.std.proofs.Common.{◌≡◌, ℕ, zero, suc, ◌+◌, ◌-◌, ◌*◌, ◌^◌, ◌<◌, ◌≤◌, Bool, false, cond, ◌||◌, List, [], ◌∷◌, ◌++◌, Option, Some, None, length, map, get_or, sym, refl, ap, ◌∙◌, subst, arith, inl, inr}
use Rattle.std.specs.List.{flat_map, filter, list_any, range_with_len}
use Rattle.std.specs.Option.{unwrap_or}
use Rattle.std.proofs.lemmas.Bool.{cases_Bool}
use Rattle.std.proofs.lemmas.Grind.{pow_more}
use Rattle.std.proofs.lemmas.List.FromFn.{get_or-map-range_with_len}
use Rattle.group_terms.specs.Positions.{some_leaf_below}
use Rattle.group_terms.specs.declared.changes.Change.{Change}
use Rattle.group_terms.specs.declared.keys.KeyName.TheVariants.{Node, Traffic}
use Rattle.group_terms.specs.declared.keys.Wrap.{Wrap}
use Rattle.group_model.specs.Places.{Holders, no_holders, holders_at, IsValid}
use Rattle.group_model.specs.Fresh.{is_fresh, last_change, node_name}
use Rattle.group_model.specs.Stayed.{is_kept, kept_leaves, somebody_stayed}
use Rattle.tree_leaves.specs.Unchanged.{unchanged_holders}
use Rattle.group_model.specs.LastChanges.{changes_at}
use Rattle.group_model.specs.Private.Trees.{is_made_in, child_wrap, child_wraps, wraps_down, wraps_between, StandsAt}
use Rattle.group_model.specs.Wraps.{falling, wraps_of, node_wraps, wraps_at}
use Rattle.group_model.specs.declared.trees.Tree.{Tree}
use Rattle.group_model.proofs.EpochLemmas.{get_or-changes_at, is_member-no_holders, made_in-fresh, FitInTurn-at}
use Rattle.group_model.proofs.StayedLemmas.{kept-unchanged}

-- only one of two lists of encryptions for each position, from the highest down
pub flat_map-filter : (fresh : ℕ → Bool) (f g : ℕ → List Wrap) (n : ℕ) → ((v : ℕ) → 0 < v → v ≤ n → cond (fresh v) (f v) [] ≡ g v) → flat_map f (filter fresh (falling n)) ≡ flat_map g (falling n)
flat_map-filter fresh f g zero agree = refl
flat_map-filter fresh f g (suc n) agree =
    let rest = flat_map-filter fresh f g n (λ v p low. agree v p (omega arith)) in
    let here = agree (suc n) (omega arith) (omega arith) in
    elim (cases_Bool (fresh (suc n))) [
      | inl new ↦ rw new (ap (λ ws. ws ++ flat_map f (filter fresh (falling n))) (sym (ap (λ b. cond b (f (suc n)) []) new) ∙ here) ∙ ap (λ ws. g (suc n) ++ ws) rest)
      | inr old ↦ rw old (rest ∙ ap (λ ws. ws ++ flat_map g (falling n)) (sym (ap (λ b. cond b (f (suc n)) []) old) ∙ here))
    ]

-- the two children of a position
pub map-filter_two : (p : ℕ → Bool) (f : ℕ → Wrap) (a b : ℕ) → map f (filter p (a ∷ b ∷ [])) ≡ cond (p a) (f a ∷ []) [] ++ cond (p b) (f b ∷ []) []
map-filter_two p f a b = elim (cases_Bool (p a)) [
  | inl left ↦ elim (cases_Bool (p b)) [ inl right ↦ rw (left, right) refl | inr right ↦ rw (left, right) refl ]
  | inr left ↦ elim (cases_Bool (p b)) [ inl right ↦ rw (left, right) refl | inr right ↦ rw (left, right) refl ]
]

pub list_any-map_self : {A : Type 0} (p : A → Bool) (xs : List A) → list_any (λ b. b) (map p xs) ≡ list_any p xs
list_any-map_self p [] = refl
list_any-map_self p (x ∷ xs) = ap (λ b. p x || b) (list_any-map_self p xs)

-- at epoch 0 nobody is a member, and so nobody stays over the first batch
nobody_kept : (depth : ℕ) (after : Holders) → somebody_stayed (no_holders depth) after ≡ false
nobody_kept depth [] = refl
nobody_kept depth (None ∷ after) = nobody_kept depth after
nobody_kept depth (Some m ∷ after) = rw (is_member-no_holders depth m) (nobody_kept depth after)

pub wraps_at-first : (depth : ℕ) (batches : List (List Change)) (epoch : ℕ) → epoch - 1 ≡ 0 → wraps_at depth batches epoch ≡ []
unfolding wraps_at
wraps_at-first depth batches epoch first =
    ap (λ stayed. cond stayed (node_wraps depth batches epoch ++ record { by = Node 1 epoch; gives = Traffic epoch } ∷ []) [])
    (ap (λ was. somebody_stayed (holders_at depth batches was) (holders_at depth batches epoch)) first ∙ nobody_kept depth (holders_at depth batches epoch))

module _ (depth : ℕ) (batches : List (List Change)) (epoch : ℕ) where
  abbrev before : Holders
  before = holders_at depth batches (epoch - 1)

  abbrev now : Holders
  now = holders_at depth batches epoch

  abbrev marks_of : List Bool → List Bool
  marks_of kept = map (some_leaf_below depth kept) (range_with_len 0 (2 ^ (depth + 1)))

  -- one child of a position
  child_agrees : (v child : ℕ) → child < 2 ^ (depth + 1) → cond (some_leaf_below depth (kept_leaves before now) child) (record { by = node_name depth batches epoch child; gives = Node v epoch } ∷ []) [] ≡ child_wrap epoch (changes_at depth batches epoch) (marks_of (kept_leaves before now)) v child
  child_agrees v child low =
      ap (λ mark. cond mark (record { by = node_name depth batches epoch child; gives = Node v epoch } ∷ []) []) (sym (get_or-map-range_with_len (some_leaf_below depth (kept_leaves before now)) 0 (2 ^ (depth + 1)) child child false low (omega arith)))
      ∙ ap (λ made. cond (get_or (marks_of (kept_leaves before now)) child false) (record { by = Node child (unwrap_or made 0); gives = Node v epoch } ∷ []) []) (sym (get_or-changes_at depth batches epoch child low))

  wraps_agree : (v : ℕ) → v < 2 ^ depth → wraps_of depth batches epoch v ≡ child_wraps epoch (changes_at depth batches epoch) (marks_of (kept_leaves before now)) v
  wraps_agree v inner =
      map-filter_two (some_leaf_below depth (kept_leaves before now)) (λ child. record { by = node_name depth batches epoch child; gives = Node v epoch }) (2 * v) (2 * v + 1)
      ∙ ap (λ ws. ws ++ cond (some_leaf_below depth (kept_leaves before now) (2 * v + 1)) (record { by = node_name depth batches epoch (2 * v + 1); gives = Node v epoch } ∷ []) []) (child_agrees v (2 * v) (omega (arith, inner, pow_more 2 depth)))
      ∙ ap (λ ws. child_wrap epoch (changes_at depth batches epoch) (marks_of (kept_leaves before now)) v (2 * v) ++ ws) (child_agrees v (2 * v + 1) (omega (arith, inner, pow_more 2 depth)))

  pub node_wraps-down : ((v : ℕ) → is_made_in epoch (last_change depth batches epoch v) ≡ is_fresh depth before now v) → node_wraps depth batches epoch ≡ wraps_down epoch (changes_at depth batches epoch) (marks_of (kept_leaves before now)) (2 ^ depth - 1)
  node_wraps-down fresh =
      flat_map-filter (is_fresh depth before now) (wraps_of depth batches epoch) (λ v. cond (is_made_in epoch (get_or (changes_at depth batches epoch) v None)) (child_wraps epoch (changes_at depth batches epoch) (marks_of (kept_leaves before now)) v) []) (2 ^ depth - 1) (λ v positive low.
      let inner : v < 2 ^ depth = omega (arith, positive, low) in
      ap (λ ws. cond (is_fresh depth before now v) ws []) (wraps_agree v inner)
      ∙ ap (λ new. cond new (child_wraps epoch (changes_at depth batches epoch) (marks_of (kept_leaves before now)) v) []) (sym (fresh v) ∙ ap (is_made_in epoch) (sym (get_or-changes_at depth batches epoch v (omega (arith, inner, pow_more 2 depth))))))

  -- with the leaves of those who stayed
  pub wraps_at-by : ((v : ℕ) → is_made_in epoch (last_change depth batches epoch v) ≡ is_fresh depth before now v) → cond (list_any (λ b. b) (kept_leaves before now)) (wraps_down epoch (changes_at depth batches epoch) (marks_of (kept_leaves before now)) (2 ^ depth - 1) ++ record { by = Node 1 epoch; gives = Traffic epoch } ∷ []) [] ≡ wraps_at depth batches epoch
  unfolding wraps_at
  wraps_at-by fresh =
      ap (λ stayed. cond stayed (wraps_down epoch (changes_at depth batches epoch) (marks_of (kept_leaves before now)) (2 ^ depth - 1) ++ record { by = Node 1 epoch; gives = Traffic epoch } ∷ []) []) (list_any-map_self (is_kept before) now)
      ∙ ap (λ ws. cond (somebody_stayed before now) (ws ++ record { by = Node 1 epoch; gives = Traffic epoch } ∷ []) []) (sym (node_wraps-down fresh))

abbrev between_by : ℕ → ℕ → List Bool → List (Option ℕ) → List Wrap
between_by depth epoch kept made = cond (list_any (λ b. b) kept) (wraps_down epoch made (map (some_leaf_below depth kept) (range_with_len 0 (2 ^ (depth + 1)))) (2 ^ depth - 1) ++ record { by = Node 1 epoch; gives = Traffic epoch } ∷ []) []

-- at the epochs of a valid list the leaves whose holder did not change are those of who stayed
pub kept-unchanged_at : (depth : ℕ) (batches : List (List Change)) (epoch : ℕ) → IsValid depth batches → suc epoch ≤ length batches
    → unchanged_holders (holders_at depth batches (suc epoch - 1)) (holders_at depth batches (suc epoch)) ≡ kept_leaves (holders_at depth batches (suc epoch - 1)) (holders_at depth batches (suc epoch))
kept-unchanged_at depth batches epoch valid early =
    let same_epoch : epoch ≡ suc epoch - 1 = omega arith in
    let fits = FitInTurn-at (no_holders depth) batches epoch valid (omega (arith, early)) in
    subst (λ k. unchanged_holders (holders_at depth batches k) (holders_at depth batches (suc epoch)) ≡ kept_leaves (holders_at depth batches k) (holders_at depth batches (suc epoch))) same_epoch
    (ap (unchanged_holders (holders_at depth batches epoch)) fits.2 ∙ kept-unchanged (holders_at depth batches epoch) fits.0 fits.1 ∙ ap (kept_leaves (holders_at depth batches epoch)) (sym fits.2))

-- what the two trees of an epoch encrypt is what the list says
pub wraps_at-between : (depth : ℕ) (batches : List (List Change)) (epoch : ℕ) (was tree : Tree) → IsValid depth batches → 0 < epoch → epoch ≤ length batches → StandsAt depth batches (epoch - 1) was → StandsAt depth batches epoch tree → wraps_between depth was.holders tree epoch ≡ wraps_at depth batches epoch
wraps_at-between depth batches zero was tree valid positive early stood stands = absurd (omega (arith, positive))
wraps_at-between depth batches (suc epoch) was tree valid positive early stood stands =
    ap (λ kept. between_by depth (suc epoch) kept tree.made) (ap (λ hs. unchanged_holders hs tree.holders) stood.holders ∙ ap (unchanged_holders (holders_at depth batches (suc epoch - 1))) stands.holders ∙ kept-unchanged_at depth batches epoch valid early)
    ∙ ap (λ made. between_by depth (suc epoch) (kept_leaves (holders_at depth batches (suc epoch - 1)) (holders_at depth batches (suc epoch))) made) stands.made
    ∙ wraps_at-by depth batches (suc epoch) fresh
  where
    same_epoch : epoch ≡ suc epoch - 1
    same_epoch = omega arith

    fresh : (v : ℕ) → is_made_in (suc epoch) (last_change depth batches (suc epoch) v) ≡ is_fresh depth (holders_at depth batches (suc epoch - 1)) (holders_at depth batches (suc epoch)) v
    fresh v = subst (λ k. is_made_in (suc epoch) (last_change depth batches (suc epoch) v) ≡ is_fresh depth (holders_at depth batches k) (holders_at depth batches (suc epoch)) v) same_epoch (made_in-fresh depth batches epoch v)
