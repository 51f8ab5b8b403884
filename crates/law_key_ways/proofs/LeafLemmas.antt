-- The leaves of members, and what a batch does to those who stay and to those who leave.
use Rattle.std.proofs.Common.{◌≡◌, ℕ, ◌+◌, ◌^◌, ◌<◌, ◌≤◌, Bool, true, false, cond, not, eqb, ◌||◌, List, [], ◌∷◌, Option, Some, None, length, take, get_or}
use Rattle.std.proofs.Common.{sym, refl, ap, ◌∙◌, subst, arith, inl, inr}
use Rattle.std.specs.List.{list_any, position_or_len, zip}
use Rattle.std.specs.Option.{option_map}
use Rattle.std.proofs.Math.Pow.{pow_mono}
use Rattle.std.proofs.lemmas.Bool.{and_from, cases_Bool, cases_lt, false≢true, false_from_ne_true, lt-ltb, ne_eqb, not-true, or_right, true_from_ne_false}
use Rattle.std.proofs.lemmas.Grind.{pow_more}
use Rattle.std.proofs.lemmas.List.{get_or_past, get_or-map, length-map}
use Rattle.std.proofs.lemmas.List.Folds.{list_any_at}
use Rattle.std.proofs.lemmas.Slice.Eq.{bytes_eq-Decides}
use Rattle.std.proofs.lemmas.Slice.Zip.{length-zip, get_or-zip}
use Rattle.group_terms.specs.Names.{Name}
use Rattle.group_terms.specs.Positions.{halved, is_below, some_leaf_below}
use Rattle.group_terms.specs.declared.changes.Change.{Change}
use Rattle.group_model.specs.Fresh.{changed_leaves, is_same_holder}
use Rattle.group_model.specs.Laws.{Laws}
use Rattle.group_model.specs.Places.{Holders, IsValid, holders_at, is_held_by, is_member, place_in}
use Rattle.group_model.specs.Stayed.{is_kept, kept_leaves}
use Rattle.law_key_ways.specs.Laws.{IsRenewed, IsKept}
use Rattle.law_key_ways.proofs.MarkLemmas.{marked, leaf_of_mark}
use Rattle.law_key_ways.proofs.WayLemmas.{below_halved, only_leaf}

held_some : (m : Name) (holder : Option Name) → is_held_by m holder ≡ true → holder ≡ Some m
held_some m None h = absurd (false≢true h)
held_some m (Some name) h = ap Some (sym ((bytes_eq-Decides m name).0 h))

same_holders : (m : Name) (was is : Option Name) → is_held_by m was ≡ true → is_held_by m is ≡ true → is_same_holder was is ≡ true
same_holders m was is h k = rw (held_some m was h, held_some m is k) ((bytes_eq-Decides m m).1 refl)

same_holder : (was is : Option Name) → is_same_holder was is ≡ true → is ≡ was
same_holder None None h = refl
same_holder (Some name) None h = absurd (false≢true h)
same_holder was (Some holder) h = sym (held_some holder was h)

-- the leaf that m has
pub record HasLeaf (depth : ℕ) (holders : Holders) (m : Name) (leaf : ℕ) : Type 0 where
  pub index : ℕ
  pub is : leaf ≡ 2 ^ depth + index
  pub low : index < 2 ^ depth
  pub held : is_held_by m (get_or holders index None) ≡ true

module _ (laws : Laws) (depth epoch : ℕ) (batches : List (List Change)) (m : Name) where
  abbrev holders : Holders
  holders = holders_at depth batches epoch

  held_low : (i : ℕ) → is_held_by m (get_or holders i None) ≡ true → i < 2 ^ depth
  held_low i held = elim (cases_lt i (length holders)) [
    | inl low ↦ omega (arith, low, laws.each_leaf depth (take epoch batches))
    | inr past ↦ absurd (false≢true (sym (ap (is_held_by m) (get_or_past holders i None past)) ∙ held))
  ]

  leaf_at : (leaf : ℕ) → place_in depth holders m ≡ Some leaf → HasLeaf depth holders m leaf
  leaf_at leaf place =
      let found = laws.places_held depth leaf holders m place in
      record { index = found.0; is = found.1; low = held_low found.0 found.2; held = found.2 }

  -- a member's place is a leaf
  pub place_is_leaf : (leaf : ℕ) → place_in depth holders m ≡ Some leaf → (2 ^ depth ≤ leaf) × (leaf < 2 ^ (depth + 1))
  place_is_leaf leaf place =
      let found = leaf_at leaf place in
      (omega (arith, found.is), omega (arith, found.is, found.low, pow_more 2 depth))

-- a member has a place
pub place_of : (depth : ℕ) (holders : Holders) (m : Name) → is_member holders m ≡ true → (leaf : ℕ) × (place_in depth holders m ≡ Some leaf)
place_of depth holders m member =
    let i = position_or_len (is_held_by m) holders in
    let low : i < length holders = first_low (is_held_by m) holders member in
    (2 ^ depth + i, ap (λ found. option_map (λ i. 2 ^ depth + i) (cond found (Some i) None)) (lt-ltb i (length holders) low))
  where
    first_low : {X : Type 0} (p : X → Bool) (xs : List X) → list_any p xs ≡ true → position_or_len p xs < length xs
    first_low p [] h = absurd (false≢true h)
    first_low p (x ∷ xs) h = elim (cases_Bool (p x)) [
      | inl here ↦ rw here (omega arith)
      | inr other ↦ (let later = first_low p xs (subst (λ b. (b || list_any p xs) ≡ true) other h) in rw other (omega (arith, later)))
    ]

module _ (laws : Laws) (depth epoch : ℕ) (batches : List (List Change)) where
  abbrev before : Holders
  before = holders_at depth batches epoch

  abbrev after : Holders
  after = holders_at depth batches (epoch + 1)

  abbrev pub is_same : ℕ → Bool
  is_same i = is_same_holder (get_or before i None) (get_or after i None)

  whole : length before ≡ 2 ^ depth
  whole = laws.each_leaf depth (take epoch batches)

  all : length after ≡ 2 ^ depth
  all = laws.each_leaf depth (take (epoch + 1) batches)

  abbrev is_other : Option Name × Option Name → Bool
  is_other holder = not (is_same_holder holder.0 holder.1)

  length-changed : length (changed_leaves before after) ≡ 2 ^ depth
  length-changed = length-map (zip before after) is_other ∙ length-zip before after ∙ omega (arith, whole, all)

  changed-at : (i : ℕ) → i < 2 ^ depth → get_or (changed_leaves before after) i false ≡ not (is_same i)
  changed-at i low =
      get_or-map is_other (zip before after) i (None, None) false (omega (arith, low, whole, all, length-zip before after))
      ∙ ap is_other (get_or-zip before after i (None, None) (omega (arith, low, whole)) (omega (arith, low, all)))

  pub length-kept : length (kept_leaves before after) ≡ 2 ^ depth
  length-kept = length-map after (is_kept before) ∙ all

  pub kept-at : (i : ℕ) → i < 2 ^ depth → get_or (kept_leaves before after) i false ≡ is_kept before (get_or after i None)
  kept-at i low = get_or-map (is_kept before) after i None false (omega (arith, low, all))

  -- below a position that keeps its key each leaf has the holder that it had
  pub kept_below : (v i : ℕ) → i < 2 ^ depth → is_below depth v (2 ^ depth + i) ≡ true → IsKept depth batches epoch v
      → get_or after i None ≡ get_or before i None
  kept_below v i low below kept = elim (cases_Bool (is_same i)) [
    | inl same ↦ same_holder (get_or before i None) (get_or after i None) same
    | inr other ↦ (
        let mark = marked depth (changed_leaves before after) v i (omega (arith, low, length-changed)) (changed-at i low ∙ ap not other) below in
        absurd (false≢true (sym kept ∙ or_right (eqb v 1) (some_leaf_below depth (changed_leaves before after) v) mark))
        )
  ]

  -- below a position that gets a new key, and is not the root, a leaf has another holder
  pub other_below : (v : ℕ) → (v ≡ 1 → ⊥) → IsRenewed depth batches epoch v
      → (i : ℕ) × (i < 2 ^ depth) × (is_below depth v (2 ^ depth + i) ≡ true) × (is_same i ≡ false)
  other_below v inner renewed =
      let mark = subst (λ root. (root || some_leaf_below depth (changed_leaves before after) v) ≡ true) (ne_eqb v 1 inner) renewed in
      let found = leaf_of_mark depth (changed_leaves before after) v mark in
      let low : found.0 < 2 ^ depth = omega (arith, found.1, length-changed) in
      (found.0, low, found.3, not-true (is_same found.0) (sym (changed-at found.0 low) ∙ found.2))

  -- a leaf with the same holder keeps its key
  leaf_keeps : 1 ≤ depth → (i : ℕ) → i < 2 ^ depth → is_same i ≡ true → IsKept depth batches epoch (2 ^ depth + i)
  leaf_keeps deep i low same = false_from_ne_true _ (λ renewed.
      let leaf = 2 ^ depth + i in
      let found = other_below leaf (λ root. omega (arith, root, pow_mono {i = 1} deep)) renewed in
      let here : 2 ^ depth + found.0 ≡ leaf =
      only_leaf depth leaf (2 ^ depth + found.0) (omega (arith, found.1, pow_more 2 depth)) found.2 (omega arith) in
      let index : found.0 ≡ i = omega (arith, here) in
      false≢true (sym found.3 ∙ ap is_same index ∙ same))

  -- of who does not stay each position on its way gets a new key
  pub way_is_new : (leaf steps : ℕ) (m : Name) → place_in depth before m ≡ Some leaf → is_member after m ≡ false → steps ≤ depth
      → IsRenewed depth batches epoch (halved steps leaf)
  way_is_new leaf steps m place gone up = true_from_ne_false _ (λ kept.
      let had = leaf_at laws depth epoch batches m leaf place in
      let below = subst (λ x. is_below depth (halved steps leaf) x ≡ true) had.is (below_halved depth steps leaf up) in
      let held = ap (is_held_by m) (kept_below (halved steps leaf) had.index had.low below kept) ∙ had.held in
      false≢true (sym gone ∙ list_any_at (is_held_by m) after had.index None (omega (arith, had.low, all)) held))

  module _ (valid : IsValid depth batches) (early : epoch < length batches) where
    -- who stays
    module _ (m : Name) (member : is_member after m ≡ true) (leaf : ℕ) (place : place_in depth before m ≡ Some leaf) where
      pub had : HasLeaf depth before m leaf
      had = leaf_at laws depth epoch batches m leaf place

      was_member : is_member before m ≡ true
      was_member = list_any_at (is_held_by m) before had.index None (omega (arith, had.low, whole)) had.held

      -- has the place that it had
      pub place_stays : place_in depth after m ≡ Some leaf
      place_stays =
          laws.places_stay depth epoch batches m valid early (and_from (is_member before m) (is_member after m) was_member member) ∙ place

      still_held : is_held_by m (get_or after had.index None) ≡ true
      still_held =
          let has = leaf_at laws depth (epoch + 1) batches m leaf place_stays in
          let index : has.index ≡ had.index = omega (arith, had.is, has.is) in
          subst (λ i. is_held_by m (get_or after i None) ≡ true) index has.held

      same_there : is_same had.index ≡ true
      same_there = same_holders m (get_or before had.index None) (get_or after had.index None) had.held still_held

      -- and the key of that leaf
      pub leaf_is_kept : 1 ≤ depth → IsKept depth batches epoch leaf
      leaf_is_kept deep = subst (IsKept depth batches epoch) (sym had.is) (leaf_keeps deep had.index had.low same_there)

      pub kept_there : get_or (kept_leaves before after) had.index false ≡ true
      kept_there = kept-at had.index had.low ∙ ap (is_kept before) (held_some m (get_or after had.index None) still_held) ∙ was_member

    -- a leaf with another holder is not that of somebody who stayed
    pub other_stays_not : (i : ℕ) → i < 2 ^ depth → is_same i ≡ false → get_or (kept_leaves before after) i false ≡ false
    other_stays_not i low other = kept-at i low ∙ by_holder (get_or after i None) refl
      where
        by_holder : (holder : Option Name) → get_or after i None ≡ holder → is_kept before holder ≡ false
        by_holder None is = refl
        by_holder (Some m) is = false_from_ne_true (is_member before m) (λ member.
            let held : is_held_by m (get_or after i None) ≡ true = ap (is_held_by m) is ∙ (bytes_eq-Decides m m).1 refl in
            let still : is_member after m ≡ true = list_any_at (is_held_by m) after i None (omega (arith, low, all)) held in
            let place = place_of depth before m member in
            let leaf = had m still place.0 place.1 in
            let there : is_held_by m (get_or after leaf.index None) ≡ true = still_held m still place.0 place.1 in
            let here : leaf.index ≡ i = laws.no_two_leaves depth (epoch + 1) leaf.index i batches m valid there held in
            false≢true (sym other ∙ ap is_same (sym here) ∙ same_there m still place.0 place.1))
