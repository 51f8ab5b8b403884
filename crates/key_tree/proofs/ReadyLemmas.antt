-- What is found out of a batch is what its marks say.
use Rattle.std.proofs.Common.{◌≡◌, ℕ, suc, ◌+◌, ◌-◌, ◌*◌, ◌/◌, ◌^◌, ◌<◌, Bool, true, false, cond, eqb, not, ◌||◌, ◌&&◌, List, [], ◌∷◌, Option, None, Some, length, map, refl, sym, ap, ◌∙◌, arith, inl, inr}
use Rattle.std.specs.Prelude.{is_some, reverse}
use Rattle.std.specs.List.{enumerate_from, filter, list_any, range_with_len}
use Rattle.std.proofs.lemmas.Bool.{and_right, cases_Bool, false≢true, or_parts}
use Rattle.std.proofs.lemmas.Grind.{pow_more}
use Rattle.std.proofs.lemmas.List.{length-map}
use Rattle.group_terms.specs.LeafMarks.{Marked as LeafMarked}
use Rattle.group_terms.specs.Names.{Name}
use Rattle.group_terms.specs.Positions.{is_below, some_leaf_below}
use Rattle.group_terms.proofs.LeafMarkLemmas.{any-marked}
use Rattle.group_terms.proofs.MarkLemmas.{children_marked}
use Rattle.group_model.specs.Fresh.{changed_leaves, is_fresh, is_same_holder}
use Rattle.group_model.specs.Places.{Holders}
use Rattle.tree_leaves.specs.Unchanged.{unchanged_holders}
use Rattle.key_tree.specs.declared.marks.Renewed.{Renewed}
use Rattle.key_tree.specs.Marks.{drawn_between, fresh_between, ids_renewed, renewal}
use Rattle.key_tree.specs.Private.Outcomes.{stays_at_root}
use Rattle.key_tree.specs.Private.Levels.{joined, left_alone, levels}
use Rattle.key_tree.proofs.AfterLemmas.{ids_of_renewals}
use Rattle.key_tree.proofs.ChangedLemmas.{length-changed, length-unchanged}
use Rattle.key_tree.proofs.DrawLemmas.{filter_both}
use Rattle.key_tree.proofs.InstalledLemmas.{none_below}
use Rattle.key_tree.proofs.PathLemmas.{some_power}
use Rattle.key_tree.proofs.WalkUpLemmas.{walked}
use Rattle.key_tree.proofs.LevelLemmas.{or_flip}

-- a leaf with the same holder as before is somebody's where it was
same_held : (before after : Option Name) → is_same_holder before after ≡ true → is_some after ≡ is_some before
same_held None None same = refl
same_held None (Some m) same = absurd (false≢true same)
same_held (Some n) None same = absurd (false≢true same)
same_held (Some n) (Some m) same = refl

one_held : (before after : Option Name) (below : Bool) → (not (is_same_holder before after) && below) ≡ false → (is_some after && below) ≡ (is_some before && below)
one_held before after false h = and_right (is_some after) false refl ∙ sym (and_right (is_some before) false refl)
one_held before after true h = elim (cases_Bool (is_same_holder before after)) [
  | inl same ↦ ap (λ b. b && true) (same_held before after same)
  | inr other ↦ absurd (false≢true (sym h ∙ ap (λ b. not b && true) other))
]

none_changed : (depth v first : ℕ) (before after : Holders) → length after ≡ length before
    → list_any (λ (leaf : ℕ × Bool). leaf.1 && is_below depth v leaf.0) (enumerate_from first (changed_leaves before after)) ≡ false
    → list_any (λ (leaf : ℕ × Bool). leaf.1 && is_below depth v leaf.0) (enumerate_from first (map is_some after))
    ≡ list_any (λ (leaf : ℕ × Bool). leaf.1 && is_below depth v leaf.0) (enumerate_from first (map is_some before))
none_changed depth v first [] [] long h = refl
none_changed depth v first [] (a ∷ after) long h = absurd (omega (arith, long))
none_changed depth v first (b ∷ before) [] long h = absurd (omega (arith, long))
none_changed depth v first (b ∷ before) (a ∷ after) long h =
    let parts = or_parts (not (is_same_holder b a) && is_below depth v first) _ h in
    λ i. one_held b a (is_below depth v first) parts.0 i || none_changed depth v (first + 1) before after (omega (arith, long)) parts.1 i

module _ (depth : ℕ) (before after : Holders) (long : length before ≡ 2 ^ depth) (same : length after ≡ length before) where
  abbrev held : LeafMarked
  held = record { depth = depth; leaves = map is_some before }

  abbrev of : ℕ → Renewed
  of = renewal depth before after

  abbrev p : ℕ → Bool
  p v = some_leaf_below depth (changed_leaves before after) v

  child : (leaves : List Bool) → length leaves ≡ 2 ^ depth → (v : ℕ) → 0 < v → v < 2 ^ depth
      → some_leaf_below depth leaves v ≡ (some_leaf_below depth leaves (2 * v) || some_leaf_below depth leaves (2 * v + 1))
  child leaves size v some inner = children_marked depth (2 ^ depth) leaves v some inner (omega arith) (omega (arith, size, pow_more 2 depth))

  -- below a position that is not renewed all is as before
  unless_renewed : (v : ℕ) → p v ≡ false → of v ≡ left_alone held v
  unless_renewed v stale =
      λ i. record { id = v; held = none_changed depth v (2 ^ depth) before after same stale i; stayed = none_below depth v (2 ^ depth) before after same stale i }

  of_children : (v : ℕ) → 0 < v → v < 2 ^ depth → of v ≡ joined (of (2 * v + 1)) (of (2 * v))
  of_children v some inner =
      let half : v ≡ (2 * v + 1) / 2 = omega arith in
      let somebody = child (map is_some after) (length-map after is_some ∙ same ∙ long) v some inner in
      let stays = child (unchanged_holders before after) (length-unchanged before after same ∙ long) v some inner in
      λ i. record {
        id = half i;
        held = (somebody ∙ or_flip (some_leaf_below depth (map is_some after) (2 * v)) (some_leaf_below depth (map is_some after) (2 * v + 1))) i;
        stayed = (stays ∙ or_flip (some_leaf_below depth (unchanged_holders before after) (2 * v)) (some_leaf_below depth (unchanged_holders before after) (2 * v + 1))) i;
      }

  -- the walk from the leaves that change hands gives what is found out of each position that is renewed
  pub renewed_are : (leaves : List Renewed) → leaves ≡ reverse (map of (filter p (range_with_len (2 ^ depth) (2 ^ depth))))
      → reverse (levels held depth leaves) ≡ map of (fresh_between depth before after)
  renewed_are leaves is =
      walked held depth of p (λ v. refl) unless_renewed (child (changed_leaves before after) (length-changed before after same ∙ long)) of_children leaves is

  module _ (renewed : List Renewed) (is : renewed ≡ map of (fresh_between depth before after)) where
    pub drawn_are : ids_renewed (filter (λ (found : Renewed). eqb found.id 1 || found.held) renewed) ≡ drawn_between depth before after
    drawn_are =
        ap (λ list. ids_renewed (filter (λ (found : Renewed). eqb found.id 1 || found.held) list)) is
        ∙ ap ids_renewed (filter_found (fresh_between depth before after))
        ∙ ids_of_renewals depth before after (filter (λ v. eqb v 1 || (of v).held) (fresh_between depth before after))
        ∙ filter_both (is_fresh depth before after) (λ v. eqb v 1 || (of v).held) (range_with_len 1 (2 ^ (depth + 1) - 1))
      where
        filter_found : (vs : List ℕ) → filter (λ (found : Renewed). eqb found.id 1 || found.held) (map of vs) ≡ map of (filter (λ v. eqb v 1 || (of v).held) vs)
        filter_found [] = refl
        filter_found (v ∷ vs) =
            elim (eqb v 1 || (of v).held) as (λ b. cond b (of v ∷ filter (λ (found : Renewed). eqb found.id 1 || found.held) (map of vs)) (filter (λ (found : Renewed). eqb found.id 1 || found.held) (map of vs))
            ≡ map of (cond b (v ∷ filter (λ v. eqb v 1 || (of v).held) vs) (filter (λ v. eqb v 1 || (of v).held) vs))) [
              | true ↦ ap (λ list. of v ∷ list) (filter_found vs)
              | false ↦ filter_found vs
            ]

    -- somebody stayed where it did so below the root
    pub root_stays : stays_at_root renewed ≡ list_any (λ mark. mark) (unchanged_holders before after)
    root_stays =
        let all : 2 ^ (depth + 1) - 1 ≡ suc (2 ^ (depth + 1) - 2) = omega (arith, pow_more 2 depth, some_power depth) in
        ap stays_at_root (is ∙ ap (λ n. map of (filter (is_fresh depth before after) (range_with_len 1 n))) all)
        ∙ any-marked depth (2 ^ depth) (unchanged_holders before after) (some_power depth)
        (omega (arith, length-unchanged before after same, long, pow_more 2 depth))
