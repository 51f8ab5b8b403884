-- A leaf has one holder, and a member that stays has its leaf still.
use Rattle.std.proofs.Common.{◌≡◌, ℕ, suc, ◌+◌, ◌^◌, ◌<◌, Bool, true, false, cond, not, ltb, ◌&&◌, List, [], ◌∷◌, Option, Some, None, length, get_or, sym, refl, ap, ◌∙◌, subst, arith, inl, inr}
use Rattle.std.specs.List.{list_any, position, position_or_len}
use Rattle.std.specs.Option.{option_map}
use Rattle.std.proofs.lemmas.Bool.{cases_Bool, and_parts, false≢true, false_from_ne_true}
use Rattle.std.proofs.lemmas.List.Elements.{All-from_get_or}
use Rattle.std.proofs.lemmas.List.Folds.{list_any_none}
use Rattle.std.proofs.lemmas.List.Quantifiers.{position-Some}
use Rattle.std.proofs.lemmas.Option.{none-some, same_Some}
use Rattle.group_terms.specs.Changes.{leavers, joiners}
use Rattle.group_terms.specs.Names.{Name, same_name}
use Rattle.group_terms.specs.declared.changes.Change.{Change}
use Rattle.group_model.specs.Places.{Holders, no_holders, is_held_by, is_member, place_in, holders_after, holders_at, Fits, IsValid}
use Rattle.group_model.specs.Stayed.{has_stayed}
use Rattle.group_model.proofs.EpochLemmas.{length-holders_after, FitInTurn-at}
use Rattle.group_model.proofs.StayedLemmas.{same_name-is, none_of, held_after, and_true, and_false}

-- the leaf that is a member's place is held by it
pub place_found : (depth leaf : ℕ) (holders : Holders) (m : Name) → place_in depth holders m ≡ Some leaf → (i : ℕ) × (leaf ≡ 2 ^ depth + i) × (is_held_by m (get_or holders i None) ≡ true)
place_found depth leaf holders m h = found (position (is_held_by m) holders) refl h
  where
    found : (at : Option ℕ) → position (is_held_by m) holders ≡ at → option_map (λ i. 2 ^ depth + i) at ≡ Some leaf → (i : ℕ) × (leaf ≡ 2 ^ depth + i) × (is_held_by m (get_or holders i None) ≡ true)
    found None at h = absurd (none-some leaf h)
    found (Some i) at h = (i, sym (same_Some (2 ^ depth + i) leaf h), (position-Some (is_held_by m) holders i None at).1)

one_holder : (m n : Name) (holder : Option Name) → is_held_by m holder ≡ true → is_held_by n holder ≡ true → m ≡ n
one_holder m n None h k = absurd (false≢true h)
one_holder m n (Some name) h k = same_name-is m name h ∙ sym (same_name-is n name k)

pub one_leaf : (depth : ℕ) (holders : Holders) (m n : Name) (leaf : ℕ) → place_in depth holders m ≡ Some leaf → place_in depth holders n ≡ Some leaf → m ≡ n
one_leaf depth holders m n leaf h k =
    let a = place_found depth leaf holders m h in
    let b = place_found depth leaf holders n k in
    let same : b.0 ≡ a.0 = omega (arith, a.1, b.1) in
    one_holder m n (get_or holders a.0 None) a.2 (subst (λ i. is_held_by n (get_or holders i None) ≡ true) same b.2)

-- a test that agrees on two lists first passes at one place of both
position_or_len-agree : {A : Type 0} (p : A → Bool) (xs ys : List A) (d : A) → length xs ≡ length ys → ((i : ℕ) → p (get_or xs i d) ≡ p (get_or ys i d)) → position_or_len p xs ≡ position_or_len p ys
position_or_len-agree p [] [] d same agree = refl
position_or_len-agree p [] (y ∷ ys) d same agree = absurd (omega (arith, same))
position_or_len-agree p (x ∷ xs) [] d same agree = absurd (omega (arith, same))
position_or_len-agree p (x ∷ xs) (y ∷ ys) d same agree =
    ap (λ b. cond (not b) (1 + position_or_len p xs) 0) (agree 0)
    ∙ ap (λ n. cond (not (p y)) (1 + n) 0) (position_or_len-agree p xs ys d (omega (arith, same)) (λ i. agree (suc i)))

pub place_in-agree : (depth : ℕ) (before after : Holders) (m : Name) → length after ≡ length before → ((i : ℕ) → is_held_by m (get_or after i None) ≡ is_held_by m (get_or before i None)) → place_in depth after m ≡ place_in depth before m
place_in-agree depth before after m same agree =
    let first = position_or_len-agree (is_held_by m) after before None same agree in
    ap (λ n. option_map (λ i. 2 ^ depth + i) (cond (ltb n (length after)) (Some n) None)) first
    ∙ ap (λ n. option_map (λ i. 2 ^ depth + i) (cond (ltb (position_or_len (is_held_by m) before) n) (Some (position_or_len (is_held_by m) before)) None)) same

-- who goes out, and does not come in, is no member after the batch
pub gone : (before : Holders) (batch : List Change) (m : Name) → list_any (same_name m) (leavers batch) ≡ true → list_any (same_name m) (joiners batch) ≡ false → is_member (holders_after before batch) m ≡ false
gone before batch m leaves stranger =
    list_any_none (is_held_by m) (holders_after before batch) (All-from_get_or (λ holder. is_held_by m holder ≡ false) (holders_after before batch) None (λ i low.
    held_after before batch m i stranger ∙ ap (λ b. is_held_by m (get_or before i None) && not b) leaves ∙ and_false (is_held_by m (get_or before i None))))

stays_in_place : (depth : ℕ) (before : Holders) (batch : List Change) (m : Name) → Fits before batch → has_stayed before (holders_after before batch) m ≡ true → place_in depth (holders_after before batch) m ≡ place_in depth before m
stays_in_place depth before batch m fits stayed =
    let members = and_parts (is_member before m) (is_member (holders_after before batch) m) stayed in
    let stranger : list_any (same_name m) (joiners batch) ≡ false = false_from_ne_true (list_any (same_name m) (joiners batch)) (λ joins. false≢true (sym (none_of (is_member before) m (joiners batch) fits.from_strangers joins) ∙ members.0)) in
    elim (cases_Bool (list_any (same_name m) (leavers batch))) [
      | inl leaves ↦ absurd (false≢true (sym (gone before batch m leaves stranger) ∙ members.1))
      | inr stays ↦ place_in-agree depth before (holders_after before batch) m (length-holders_after before batch) (λ i. held_after before batch m i stranger ∙ ap (λ b. is_held_by m (get_or before i None) && not b) stays ∙ and_true (is_held_by m (get_or before i None)))
    ]

pub stays_at : (depth epoch : ℕ) (batches : List (List Change)) (m : Name) → IsValid depth batches → epoch < length batches → has_stayed (holders_at depth batches epoch) (holders_at depth batches (suc epoch)) m ≡ true → place_in depth (holders_at depth batches (suc epoch)) m ≡ place_in depth (holders_at depth batches epoch) m
stays_at depth epoch batches m valid early stayed =
    let fits = FitInTurn-at (no_holders depth) batches epoch valid early in
    ap (λ holders. place_in depth holders m) fits.2
    ∙ stays_in_place depth (holders_at depth batches epoch) fits.0 m fits.1 (subst (λ holders. has_stayed (holders_at depth batches epoch) holders m ≡ true) fits.2 stayed)
