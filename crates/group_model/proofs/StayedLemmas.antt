-- A member that stays has its leaf still: the leaves of those who stayed are those whose holder did not change.
use Rattle.std.proofs.Common.{◌≡◌, ℕ, zero, suc, ◌<◌, Bool, true, false, cond, not, ◌&&◌, ◌||◌, List, [], ◌∷◌, Option, Some, None, length, map, get_or, sym, refl, ap, ◌∙◌, subst, arith, inl, inr}
use Rattle.std.specs.Prelude.{is_some, is_none}
use Rattle.std.specs.List.{fold, list_any, zip, position_or_len}
use Rattle.std.proofs.lemmas.Bool.{cases_Bool, cases_lt, cases_eq, and_parts, or_parts, false_from_ne_true, not-false, false≢true}
use Rattle.std.proofs.lemmas.List.{length-map, set_past, get_or-set_same, get_or-set_other, get_or-map, ext_get_or}
use Rattle.std.proofs.lemmas.List.Folds.{list_any_at}
use Rattle.std.proofs.lemmas.List.Sums.{prefix_len_stops}
use Rattle.std.proofs.lemmas.Slice.Eq.{bytes_eq-Decides}
use Rattle.std.proofs.lemmas.Slice.Zip.{length-zip, get_or-zip}
use Rattle.group_terms.specs.Changes.{leavers, joiners}
use Rattle.group_terms.specs.Names.{Name, same_name}
use Rattle.group_terms.specs.declared.changes.Change.{Change}
use Rattle.group_model.specs.Places.{Holders, is_held_by, is_member, vacated, placed, holders_after, Fits}
use Rattle.group_model.specs.Fresh.{is_same_holder}
use Rattle.group_model.specs.Stayed.{is_kept, kept_leaves}
use Rattle.tree_leaves.specs.Unchanged.{unchanged_holders}
use Rattle.group_model.proofs.EpochLemmas.{length-holders_after}

pub same_name-is : (m n : Name) → same_name m n ≡ true → m ≡ n
same_name-is m n h = (bytes_eq-Decides m n).0 h

pub same_name-self : (m : Name) → same_name m m ≡ true
same_name-self m = (bytes_eq-Decides m m).1 refl

pub get_or-map_at : {A : Type 0} (f : A → A) (xs : List A) (i : ℕ) (d : A) → f d ≡ d → get_or (map f xs) i d ≡ f (get_or xs i d)
get_or-map_at f [] i d fixed = sym fixed
get_or-map_at f (x ∷ xs) zero d fixed = refl
get_or-map_at f (x ∷ xs) (suc i) d fixed = get_or-map_at f xs i d fixed

and_not_self : (b : Bool) → (b && not b) ≡ false
and_not_self true = refl
and_not_self false = refl

pub and_true : (b : Bool) → (b && true) ≡ b
and_true true = refl
and_true false = refl

pub and_false : (b : Bool) → (b && false) ≡ false
and_false true = refl
and_false false = refl

neither : (a b c : Bool) → ((a && not b) && not c) ≡ (a && not (b || c))
neither true true c = refl
neither true false c = refl
neither false b c = refl

-- the leaf of a holder that goes out is not that of m any more, if m is who goes out
held_vacated : (m n : Name) (holder : Option Name) → is_held_by m (cond (is_held_by n holder) None holder) ≡ (is_held_by m holder && not (same_name m n))
held_vacated m n None = refl
held_vacated m n (Some name) = elim (cases_Bool (same_name n name)) [
  | inl gone ↦
      rw (gone, same_name-is n name gone) (sym (and_not_self (same_name m name)))
  | inr kept ↦ elim (cases_Bool (same_name m n)) [
    | inl same ↦ rw (kept, same) (rw (same_name-is m n same) kept ∙ sym (and_false (same_name m name)))
    | inr other ↦ rw (kept, other) (sym (and_true (same_name m name)))
  ]
]

vacated_at : (holders : Holders) (m n : Name) (i : ℕ) → is_held_by m (get_or (vacated holders n) i None) ≡ (is_held_by m (get_or holders i None) && not (same_name m n))
vacated_at holders m n i =
    ap (is_held_by m) (get_or-map_at (λ holder. cond (is_held_by n holder) None holder) holders i None refl)
    ∙ held_vacated m n (get_or holders i None)

pub vacated_all_at : (m : Name) (i : ℕ) (holders : Holders) (names : List Name) → is_held_by m (get_or (fold vacated holders names) i None) ≡ (is_held_by m (get_or holders i None) && not (list_any (same_name m) names))
vacated_all_at m i holders [] = sym (and_true (is_held_by m (get_or holders i None)))
vacated_all_at m i holders (n ∷ names) =
    vacated_all_at m i (vacated holders n) names
    ∙ ap (λ b. b && not (list_any (same_name m) names)) (vacated_at holders m n i)
    ∙ neither (is_held_by m (get_or holders i None)) (same_name m n) (list_any (same_name m) names)

nobody_there : (m : Name) (holder : Option Name) → is_none holder ≡ true → is_held_by m holder ≡ false
nobody_there m None h = refl
nobody_there m (Some name) h = absurd (false≢true h)

-- a leaf that another one gets was nobody's
pub placed_at : (holders : Holders) (m n : Name) (i : ℕ) → same_name m n ≡ false → is_held_by m (get_or (placed holders n) i None) ≡ is_held_by m (get_or holders i None)
placed_at holders m n i other = elim (cases_lt (position_or_len is_none holders) (length holders)) [
  | inr past ↦ ap (λ list. is_held_by m (get_or list i None)) (set_past holders (position_or_len is_none holders) (Some n) past)
  | inl found ↦ elim (cases_eq i (position_or_len is_none holders)) [
    | inr elsewhere ↦ ap (is_held_by m) (get_or-set_other holders (position_or_len is_none holders) i (Some n) None elsewhere)
    | inl here ↦
        rw here (ap (is_held_by m) (get_or-set_same holders (position_or_len is_none holders) (Some n) None found) ∙ other
        ∙ sym (nobody_there m (get_or holders (position_or_len is_none holders) None) (not-false (is_none (get_or holders (position_or_len is_none holders) None)) (prefix_len_stops (λ holder. not (is_none holder)) holders None found))))
  ]
]

pub placed_all_at : (m : Name) (i : ℕ) (holders : Holders) (names : List Name) → list_any (same_name m) names ≡ false → is_held_by m (get_or (fold placed holders names) i None) ≡ is_held_by m (get_or holders i None)
placed_all_at m i holders [] h = refl
placed_all_at m i holders (n ∷ names) h =
    let parts = or_parts (same_name m n) (list_any (same_name m) names) h in
    placed_all_at m i (placed holders n) names parts.1 ∙ placed_at holders m n i parts.0

-- who is no joiner of the batch has the leaves that it had, unless it leaves
pub held_after : (holders : Holders) (batch : List Change) (m : Name) (i : ℕ) → list_any (same_name m) (joiners batch) ≡ false → is_held_by m (get_or (holders_after holders batch) i None) ≡ (is_held_by m (get_or holders i None) && not (list_any (same_name m) (leavers batch)))
unfolding holders_after
held_after holders batch m i stranger =
    placed_all_at m i (fold vacated holders (leavers batch)) (joiners batch) stranger
    ∙ vacated_all_at m i holders (leavers batch)

-- what holds of none of the names does not hold of one of them
pub none_of : (test : Name → Bool) (m : Name) (names : List Name) → list_any test names ≡ false → list_any (same_name m) names ≡ true → test m ≡ false
none_of test m [] none found = absurd (false≢true found)
none_of test m (n ∷ names) none found =
    let parts = or_parts (test n) (list_any test names) none in
    elim (cases_Bool (same_name m n)) [
      | inl same ↦ rw (same_name-is m n same) parts.0
      | inr other ↦ none_of test m names parts.1 (subst (λ b. (b || list_any (same_name m) names) ≡ true) other found)
    ]

-- a leaf of m makes m a member
pub member_at : (holders : Holders) (m : Name) (i : ℕ) → i < length holders → is_held_by m (get_or holders i None) ≡ true → is_member holders m ≡ true
member_at holders m i low here = list_any_at (is_held_by m) holders i None low here

kept_at_some : (holders : Holders) (batch : List Change) (i : ℕ) (m : Name) → Fits holders batch → i < length holders → get_or (holders_after holders batch) i None ≡ Some m → is_member holders m ≡ is_held_by m (get_or holders i None)
kept_at_some holders batch i m fits low at = elim (cases_Bool (list_any (same_name m) (joiners batch))) [
  | inl joins ↦
      let stranger : is_member holders m ≡ false = none_of (is_member holders) m (joiners batch) fits.from_strangers joins in
      stranger ∙ sym (false_from_ne_true (is_held_by m (get_or holders i None)) (λ here. false≢true (sym stranger ∙ member_at holders m i low here)))
  | inr stays ↦
      let there = held_after holders batch m i stays in
      let holds : is_held_by m (get_or (holders_after holders batch) i None) ≡ true = ap (is_held_by m) at ∙ same_name-self m in
      let before : is_held_by m (get_or holders i None) ≡ true = (and_parts (is_held_by m (get_or holders i None)) (not (list_any (same_name m) (leavers batch))) (sym there ∙ holds)).0 in
      member_at holders m i low before ∙ sym before
]

kept_at : (holders : Holders) (batch : List Change) (i : ℕ) (after : Option Name) → Fits holders batch → i < length holders → get_or (holders_after holders batch) i None ≡ after → is_kept holders after ≡ (is_some after && is_same_holder (get_or holders i None) after)
kept_at holders batch i None fits low at = refl
kept_at holders batch i (Some m) fits low at = kept_at_some holders batch i m fits low at

-- the leaves of those who stayed are those whose holder did not change
pub kept-unchanged : (holders : Holders) (batch : List Change) → Fits holders batch → unchanged_holders holders (holders_after holders batch) ≡ kept_leaves holders (holders_after holders batch)
kept-unchanged holders batch fits =
    let after = holders_after holders batch in
    let long : length after ≡ length holders = length-holders_after holders batch in
    let zipped : length (zip holders after) ≡ length after = length-zip holders after ∙ omega (arith, long) in
    ext_get_or false (unchanged_holders holders after) (kept_leaves holders after)
    (length-map (zip holders after) _ ∙ zipped ∙ sym (length-map after (is_kept holders)))
    (λ i low.
    let within : i < length after = omega (arith, low, length-map (zip holders after) (λ (pair : Option Name × Option Name). is_some pair.1 && is_same_holder pair.0 pair.1), zipped) in
    get_or-map (λ (pair : Option Name × Option Name). is_some pair.1 && is_same_holder pair.0 pair.1) (zip holders after) i (None, None) false (omega (arith, within, zipped))
    ∙ ap (λ (pair : Option Name × Option Name). is_some pair.1 && is_same_holder pair.0 pair.1) (get_or-zip holders after i (None, None) (omega (arith, within, long)) within)
    ∙ sym (kept_at holders batch i (get_or after i None) fits (omega (arith, within, long)) refl)
    ∙ sym (get_or-map (is_kept holders) after i None false within))
