-- The leaves that changed hands over a batch say where each name went, and which positions are fresh.
use Rattle.std.proofs.Common.{◌≡◌, ℕ, zero, suc, ◌+◌, ◌-◌, ◌^◌, ◌<◌, ◌≤◌, Bool, true, false, cond, not, ◌&&◌, ◌||◌, List, [], ◌∷◌, ◌++◌, Option, Some, None, length, map, take, drop, get_or, sym, refl, ap, ◌∙◌, subst, arith, inl, inr, add_assoc, add-one, eqb}
use Rattle.std.specs.Prelude.{is_some}
use Rattle.std.specs.List.{zip, list_any, enumerate_from}
use Rattle.std.proofs.lemmas.Bool.{cases_Bool, cases_lt, or_parts, or_cases, false≢true, false_from_ne_true}
use Rattle.std.proofs.lemmas.Option.{none-some, same_Some}
use Rattle.std.proofs.lemmas.List.Elements.{All-from_get_or}
use Rattle.std.proofs.lemmas.List.Folds.{list_any_none}
use Rattle.std.proofs.lemmas.List.{append-nil, append_assoc, at_drop_more, at_drop_all, get_or_past}
use Rattle.std.proofs.lemmas.Slice.Zip.{length-zip, get_or-zip}
use Rattle.group_terms.specs.Names.{Name}
use Rattle.group_model.specs.declared.handovers.Handover.{Handover}
use Rattle.group_terms.specs.Positions.{is_below}
use Rattle.group_terms.specs.declared.changes.Change.{Change}
use Rattle.group_model.specs.Places.{Holders, is_held_by, is_member, place_in, holders_at, IsValid}
use Rattle.group_model.specs.Fresh.{is_same_holder, is_fresh, last_change}
use Rattle.group_model.specs.Private.Handovers.{handed_over, all_handed_over, handovers_at, taken_by, was_of, renews}
use Rattle.group_model.proofs.EpochLemmas.{length-holders_of}
use Rattle.group_model.proofs.StayedLemmas.{same_name-is, member_at}
use Rattle.group_model.proofs.PlaceLemmas.{place_found, place_in-agree}
use Rattle.group_model.proofs.FitLemmas.{has_place}
use Rattle.group_model.specs.Indexes.{AreOnce}
use Rattle.group_model.proofs.OnceLemmas.{AreOnce-at}

-- one more leaf
pub handed_over-more : (first i : ℕ) (before after : Holders) (was is : Option Name) (done whole : List Handover) → length before ≡ length after → i < length after → was ≡ get_or before i was → is ≡ get_or after i is → done ++ all_handed_over (first + i) (drop i (zip before after)) ≡ whole → (done ++ handed_over (first + i) was is) ++ all_handed_over (first + (i + 1)) (drop (i + 1) (zip before after)) ≡ whole
handed_over-more first i before after was is done whole same low at_was at_is so_far =
    let few : i < length (zip before after) = omega (arith, length-zip before after, same, low) in
    let here : get_or (zip before after) i (was, is) ≡ (was, is) = get_or-zip before after i (was, is) (omega (arith, same, low)) low ∙ (λ j. (sym at_was j, sym at_is j)) in
    let rest = drop (i + 1) (zip before after) in
    append_assoc done (handed_over (first + i) was is) (all_handed_over (first + (i + 1)) rest)
    ∙ ap (λ next. done ++ (handed_over (first + i) was is ++ all_handed_over next rest)) (sym (add_assoc first i 1))
    ∙ ap (λ (pair : Option Name × Option Name). done ++ (handed_over (first + i) pair.0 pair.1 ++ all_handed_over (first + i + 1) rest)) (sym here)
    ∙ sym (at_drop_more (λ pairs. done ++ all_handed_over (first + i) pairs) (zip before after) i (was, is) few)
    ∙ so_far

-- all leaves
pub handed_over-all : (first i : ℕ) (before after : Holders) (done whole : List Handover) → length before ≡ length after → length after ≤ i → done ++ all_handed_over (first + i) (drop i (zip before after)) ≡ whole → done ≡ whole
handed_over-all first i before after done whole same past so_far =
    sym (append-nil done) ∙ sym (at_drop_all (λ pairs. done ++ all_handed_over (first + i) pairs) (zip before after) i (omega (arith, length-zip before after, same, past))) ∙ so_far

-- a position is at or above a leaf that changed hands where it is at or above one whose holder changed
any_below : (depth v first : ℕ) (pairs : List (Option Name × Option Name)) → list_any (λ (handover : Handover). is_below depth v handover.leaf) (all_handed_over first pairs) ≡ list_any (λ (leaf : ℕ × Bool). leaf.1 && is_below depth v leaf.0) (enumerate_from first (map (λ (pair : Option Name × Option Name). not (is_same_holder pair.0 pair.1)) pairs))
any_below depth v first [] = refl
any_below depth v first (pair ∷ pairs) = elim (cases_Bool (is_same_holder pair.0 pair.1)) [
  | inl same ↦ rw same (any_below depth v (first + 1) pairs)
  | inr other ↦ rw other (ap (λ more. is_below depth v first || more) (any_below depth v (first + 1) pairs))
]

-- a holder who is the same has the leaf before and after
same_held : (m : Name) (before after : Option Name) → is_same_holder before after ≡ true → is_held_by m before ≡ is_held_by m after
same_held m None None h = refl
same_held m (Some name) None h = absurd (false≢true h)
same_held m None (Some holder) h = absurd (false≢true h)
same_held m (Some name) (Some holder) h = ap (λ one. is_held_by m (Some one)) (sym (same_name-is holder name h))

module _ (m : Name) where
  abbrev nobody : Option Name × Option Name
  nobody = (None, None)

  -- what the first leaf does not say, the others say
  taken_same : (first : ℕ) (pair : Option Name × Option Name) (pairs : List (Option Name × Option Name)) → is_same_holder pair.0 pair.1 ≡ true → taken_by m (all_handed_over first (pair ∷ pairs)) ≡ taken_by m (all_handed_over (first + 1) pairs)
  taken_same first pair pairs same = rw same refl

  taken_other : (first : ℕ) (pair : Option Name × Option Name) (pairs : List (Option Name × Option Name)) → is_same_holder pair.0 pair.1 ≡ false → is_held_by m pair.1 ≡ false → taken_by m (all_handed_over first (pair ∷ pairs)) ≡ taken_by m (all_handed_over (first + 1) pairs)
  taken_other first pair pairs other elsewhere = rw (other, elsewhere) refl

  taken_here : (first : ℕ) (pair : Option Name × Option Name) (pairs : List (Option Name × Option Name)) → is_same_holder pair.0 pair.1 ≡ false → is_held_by m pair.1 ≡ true → taken_by m (all_handed_over first (pair ∷ pairs)) ≡ Some first
  taken_here first pair pairs other here = rw (other, here) refl

  -- the leaf that m got is held by it
  abbrev IsTakenAt : ℕ → ℕ → List (Option Name × Option Name) → Type 0
  IsTakenAt first leaf pairs = (i : ℕ) × (leaf ≡ first + i) × (i < length pairs) × (is_held_by m (get_or pairs i nobody).1 ≡ true)

  IsTakenAt-later : (first leaf : ℕ) (pair : Option Name × Option Name) (pairs : List (Option Name × Option Name)) → IsTakenAt (first + 1) leaf pairs → IsTakenAt first leaf (pair ∷ pairs)
  IsTakenAt-later first leaf pair pairs (i, at, low, held) = (suc i, omega (arith, at), omega (arith, low), held)

  taken_at : (first leaf : ℕ) (pairs : List (Option Name × Option Name)) → taken_by m (all_handed_over first pairs) ≡ Some leaf → IsTakenAt first leaf pairs
  taken_at first leaf [] h = absurd (none-some leaf h)
  taken_at first leaf (pair ∷ pairs) h = elim (cases_Bool (is_same_holder pair.0 pair.1)) [
    | inl same ↦ IsTakenAt-later first leaf pair pairs (taken_at (first + 1) leaf pairs (sym (taken_same first pair pairs same) ∙ h))
    | inr other ↦ elim (cases_Bool (is_held_by m pair.1)) [
      | inl here ↦ (0, omega (arith, same_Some first leaf (sym (taken_here first pair pairs other here) ∙ h)), omega arith, here)
      | inr elsewhere ↦ IsTakenAt-later first leaf pair pairs (taken_at (first + 1) leaf pairs (sym (taken_other first pair pairs other elsewhere) ∙ h))
    ]
  ]

  -- each leaf that m has, before the batch or after it, has one holder before and after
  abbrev IsKept : (Option Name × Option Name → Option Name) → List (Option Name × Option Name) → Type 0
  IsKept side pairs = (i : ℕ) → i < length pairs → is_held_by m (side (get_or pairs i nobody)) ≡ true → is_same_holder (get_or pairs i nobody).0 (get_or pairs i nobody).1 ≡ true

  IsKept-none : (side : Option Name × Option Name → Option Name) → IsKept side []
  IsKept-none side i low held = absurd (omega (arith, low))

  IsKept-first : (side : Option Name × Option Name → Option Name) (pair : Option Name × Option Name) (pairs : List (Option Name × Option Name)) → (is_held_by m (side pair) ≡ true → is_same_holder pair.0 pair.1 ≡ true) → IsKept side pairs → IsKept side (pair ∷ pairs)
  IsKept-first side pair pairs here later zero low held = here held
  IsKept-first side pair pairs here later (suc i) low held = later i (omega (arith, low)) held

  -- so it is after the batch where m got none
  taken_none : (first : ℕ) (pairs : List (Option Name × Option Name)) → taken_by m (all_handed_over first pairs) ≡ None → IsKept (λ pair. pair.1) pairs
  taken_none first [] h = IsKept-none (λ pair. pair.1)
  taken_none first (pair ∷ pairs) h = elim (cases_Bool (is_same_holder pair.0 pair.1)) [
    | inl same ↦ IsKept-first (λ pair. pair.1) pair pairs (λ held. same) (taken_none (first + 1) pairs (sym (taken_same first pair pairs same) ∙ h))
    | inr other ↦ elim (cases_Bool (is_held_by m pair.1)) [
      | inl here ↦ absurd (none-some first (sym h ∙ taken_here first pair pairs other here))
      | inr elsewhere ↦
          IsKept-first (λ pair. pair.1) pair pairs (λ held. absurd (false≢true (sym elsewhere ∙ held)))
          (taken_none (first + 1) pairs (sym (taken_other first pair pairs other elsewhere) ∙ h))
    ]
  ]

  -- and before it where none of the leaves was that of m
  was_none : (first : ℕ) (pairs : List (Option Name × Option Name)) → was_of m (all_handed_over first pairs) ≡ false → IsKept (λ pair. pair.0) pairs
  was_none first [] h = IsKept-none (λ pair. pair.0)
  was_none first (pair ∷ pairs) h = elim (cases_Bool (is_same_holder pair.0 pair.1)) [
    | inl same ↦ IsKept-first (λ pair. pair.0) pair pairs (λ held. same) (was_none (first + 1) pairs (rw same at h))
    | inr other ↦ (
        let parts = or_parts (is_held_by m pair.0) (was_of m (all_handed_over (first + 1) pairs)) (rw other at h) in
        IsKept-first (λ pair. pair.0) pair pairs (λ held. absurd (false≢true (sym parts.0 ∙ held))) (was_none (first + 1) pairs parts.1)
        )
  ]

  -- else one of them changed hands
  was_at : (first : ℕ) (pairs : List (Option Name × Option Name)) → was_of m (all_handed_over first pairs) ≡ true → (i : ℕ) × (i < length pairs) × (is_held_by m (get_or pairs i nobody).0 ≡ true) × (is_same_holder (get_or pairs i nobody).0 (get_or pairs i nobody).1 ≡ false)
  was_at first [] h = absurd (false≢true h)
  was_at first (pair ∷ pairs) h = elim (cases_Bool (is_same_holder pair.0 pair.1)) [
    | inl same ↦ (let found = was_at (first + 1) pairs (rw same at h) in (suc found.0, omega (arith, found.1), found.2, found.3))
    | inr other ↦ elim (or_cases (is_held_by m pair.0) (was_of m (all_handed_over (first + 1) pairs)) (rw other at h)) [
      | inl here ↦ (0, omega arith, here, other)
      | inr later ↦ (let found = was_at (first + 1) pairs later in (suc found.0, omega (arith, found.1), found.2, found.3))
    ]
  ]

-- a name with one leaf has its place there
placed_once : (depth i : ℕ) (holders : Holders) (m : Name) → AreOnce holders → i < length holders → is_held_by m (get_or holders i None) ≡ true → place_in depth holders m ≡ Some (2 ^ depth + i)
placed_once depth i holders m once low held = at (place_in depth holders m) refl
  where
    at : (place : Option ℕ) → place_in depth holders m ≡ place → place_in depth holders m ≡ Some (2 ^ depth + i)
    at None is = absurd (false≢true (sym (ap is_some is) ∙ has_place depth holders m ∙ member_at holders m i low held))
    at (Some leaf) is =
        let found = place_found depth leaf holders m is in
        is ∙ ap Some (found.1 ∙ ap (λ k. 2 ^ depth + k) (once m found.0 i found.2 held))

no_place : (depth : ℕ) (holders : Holders) (m : Name) → ((i : ℕ) → i < length holders → is_held_by m (get_or holders i None) ≡ false) → place_in depth holders m ≡ None
no_place depth holders m none = at (place_in depth holders m) refl
  where
    stranger : is_member holders m ≡ false
    stranger = list_any_none (is_held_by m) holders (All-from_get_or (λ holder. is_held_by m holder ≡ false) holders None none)

    at : (place : Option ℕ) → place_in depth holders m ≡ place → place ≡ None
    at None is = refl
    at (Some leaf) is = absurd (false≢true (sym (sym (ap is_some is) ∙ has_place depth holders m ∙ stranger)))

-- who has which leaf after a batch, by what changed hands
module _ (depth : ℕ) (before after : Holders) (m : Name) (same : length before ≡ length after) where
  abbrev pairs : List (Option Name × Option Name)
  pairs = zip before after

  pair_at : (i : ℕ) → i < length after → get_or pairs i (None, None) ≡ (get_or before i None, get_or after i None)
  pair_at i low = get_or-zip before after i (None, None) (omega (arith, same, low)) low

  long : length pairs ≡ length after
  long = length-zip before after ∙ omega (arith, same)

  -- a leaf that is kept has one holder before and after
  same_after : IsKept m (λ pair. pair.1) pairs → (i : ℕ) → i < length after → is_held_by m (get_or after i None) ≡ true → is_same_holder (get_or before i None) (get_or after i None) ≡ true
  same_after kept i low held =
      subst (λ (pair : Option Name × Option Name). is_same_holder pair.0 pair.1 ≡ true) (pair_at i low)
      (kept i (omega (arith, low, long)) (subst (λ (pair : Option Name × Option Name). is_held_by m pair.1 ≡ true) (sym (pair_at i low)) held))

  same_before : IsKept m (λ pair. pair.0) pairs → (i : ℕ) → i < length after → is_held_by m (get_or before i None) ≡ true → is_same_holder (get_or before i None) (get_or after i None) ≡ true
  same_before kept i low held =
      subst (λ (pair : Option Name × Option Name). is_same_holder pair.0 pair.1 ≡ true) (pair_at i low)
      (kept i (omega (arith, low, long)) (subst (λ (pair : Option Name × Option Name). is_held_by m pair.0 ≡ true) (sym (pair_at i low)) held))

  pub place-taken : (leaf : ℕ) → AreOnce after → taken_by m (all_handed_over (2 ^ depth) pairs) ≡ Some leaf → place_in depth after m ≡ Some leaf
  place-taken leaf once h =
      let found = taken_at m (2 ^ depth) leaf pairs h in
      let low : found.0 < length after = omega (arith, found.2, long) in
      placed_once depth found.0 after m once low (subst (λ (pair : Option Name × Option Name). is_held_by m pair.1 ≡ true) (pair_at found.0 low) found.3)
      ∙ ap Some (sym found.1)

  pub place-left : AreOnce before → taken_by m (all_handed_over (2 ^ depth) pairs) ≡ None → was_of m (all_handed_over (2 ^ depth) pairs) ≡ true → place_in depth after m ≡ None
  place-left once none was =
      let found = was_at m (2 ^ depth) pairs was in
      let there : found.0 < length after = omega (arith, found.1, long) in
      let held : is_held_by m (get_or before found.0 None) ≡ true = subst (λ (pair : Option Name × Option Name). is_held_by m pair.0 ≡ true) (pair_at found.0 there) found.2 in
      let other : is_same_holder (get_or before found.0 None) (get_or after found.0 None) ≡ false = subst (λ (pair : Option Name × Option Name). is_same_holder pair.0 pair.1 ≡ false) (pair_at found.0 there) found.3 in
      no_place depth after m (λ i low. false_from_ne_true (is_held_by m (get_or after i None)) (λ has.
      let kept = same_after (taken_none m (2 ^ depth) pairs none) i low has in
      let here : i ≡ found.0 = once m i found.0 (same_held m (get_or before i None) (get_or after i None) kept ∙ has) held in
      false≢true (sym other ∙ subst (λ k. is_same_holder (get_or before k None) (get_or after k None) ≡ true) here kept)))

  pub place-kept : taken_by m (all_handed_over (2 ^ depth) pairs) ≡ None → was_of m (all_handed_over (2 ^ depth) pairs) ≡ false → place_in depth after m ≡ place_in depth before m
  place-kept none was = place_in-agree depth before after m (sym same) agree
    where
      one : (i : ℕ) → is_same_holder (get_or before i None) (get_or after i None) ≡ true → is_held_by m (get_or after i None) ≡ is_held_by m (get_or before i None)
      one i kept = sym (same_held m (get_or before i None) (get_or after i None) kept)

      agree : (i : ℕ) → is_held_by m (get_or after i None) ≡ is_held_by m (get_or before i None)
      agree i = elim (cases_lt i (length after)) [
        | inr past ↦ ap (is_held_by m) (get_or_past after i None past) ∙ sym (ap (is_held_by m) (get_or_past before i None (omega (arith, past, same))))
        | inl low ↦ elim (cases_Bool (is_held_by m (get_or after i None))) [
          | inl has ↦ one i (same_after (taken_none m (2 ^ depth) pairs none) i low has)
          | inr hasnt ↦ elim (cases_Bool (is_held_by m (get_or before i None))) [
            | inl had ↦ one i (same_before (was_none m (2 ^ depth) pairs was) i low had)
            | inr hadnt ↦ hasnt ∙ sym hadnt
          ]
        ]
      ]

-- what the batch that made an epoch handed over
module _ (depth epoch : ℕ) (batches : List (List Change)) (handovers : List Handover) (begun : 0 < epoch) (are : handovers ≡ handovers_at depth batches (epoch - 1)) where
  here : epoch - 1 + 1 ≡ epoch
  here = omega (arith, begun)

  are_between : handovers ≡ all_handed_over (2 ^ depth) (zip (holders_at depth batches (epoch - 1)) (holders_at depth batches epoch))
  are_between = are ∙ ap (λ next. all_handed_over (2 ^ depth) (zip (holders_at depth batches (epoch - 1)) (holders_at depth batches next))) here

  one_length : length (holders_at depth batches (epoch - 1)) ≡ length (holders_at depth batches epoch)
  one_length = length-holders_of depth (take (epoch - 1) batches) ∙ sym (length-holders_of depth (take epoch batches))

  -- says where each name has its leaf, if it says anything of it
  module _ (m : Name) (valid : IsValid depth batches) where
    pub place_at-taken : (leaf : ℕ) → taken_by m handovers ≡ Some leaf → place_in depth (holders_at depth batches epoch) m ≡ Some leaf
    place_at-taken leaf h = place-taken depth (holders_at depth batches (epoch - 1)) (holders_at depth batches epoch) m one_length leaf (AreOnce-at depth epoch batches valid) (sym (ap (taken_by m) are_between) ∙ h)

    pub place_at-left : taken_by m handovers ≡ None → was_of m handovers ≡ true → place_in depth (holders_at depth batches epoch) m ≡ None
    place_at-left none was = place-left depth (holders_at depth batches (epoch - 1)) (holders_at depth batches epoch) m one_length (AreOnce-at depth (epoch - 1) batches valid) (sym (ap (taken_by m) are_between) ∙ none) (sym (ap (was_of m) are_between) ∙ was)

    pub place_at-kept : taken_by m handovers ≡ None → was_of m handovers ≡ false → place_in depth (holders_at depth batches epoch) m ≡ place_in depth (holders_at depth batches (epoch - 1)) m
    place_at-kept none was = place-kept depth (holders_at depth batches (epoch - 1)) (holders_at depth batches epoch) m one_length (sym (ap (taken_by m) are_between) ∙ none) (sym (ap (was_of m) are_between) ∙ was)

  -- and which positions are fresh
  renews-fresh : (v : ℕ) → renews depth v handovers ≡ is_fresh depth (holders_at depth batches (epoch - 1)) (holders_at depth batches (suc (epoch - 1))) v
  renews-fresh v =
      ap (renews depth v) are
      ∙ ap (λ b. eqb v 1 || b) (any_below depth v (2 ^ depth) (zip (holders_at depth batches (epoch - 1)) (holders_at depth batches (epoch - 1 + 1))))
      ∙ ap (λ next. is_fresh depth (holders_at depth batches (epoch - 1)) (holders_at depth batches next) v) (add-one (epoch - 1))

  last_change-is : (v : ℕ) → last_change depth batches epoch v ≡ cond (renews depth v handovers) (Some epoch) (last_change depth batches (epoch - 1) v)
  unfolding last_change
  last_change-is v =
      let next : epoch ≡ suc (epoch - 1) = omega (arith, begun) in
      ap (λ n. last_change depth batches n v) next ∙ ap (λ b. cond b (Some (suc (epoch - 1))) (last_change depth batches (epoch - 1) v)) (sym (renews-fresh v))
      ∙ ap (λ n. cond (renews depth v handovers) (Some n) (last_change depth batches (epoch - 1) v)) (sym next)

  pub last_change-renewed : (v : ℕ) → renews depth v handovers ≡ true → last_change depth batches epoch v ≡ Some epoch
  last_change-renewed v h = last_change-is v ∙ ap (λ b. cond b (Some epoch) (last_change depth batches (epoch - 1) v)) h

  pub last_change-stale : (v : ℕ) → renews depth v handovers ≡ false → last_change depth batches epoch v ≡ last_change depth batches (epoch - 1) v
  last_change-stale v h = last_change-is v ∙ ap (λ b. cond b (Some epoch) (last_change depth batches (epoch - 1) v)) h
