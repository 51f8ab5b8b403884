-- What a search finds among the positions that a batch renews.
use Rattle.std.proofs.Common.{◌≡◌, ◌≢◌, ℕ, zero, suc, ◌+◌, ◌-◌, ◌^◌, ◌<◌, ◌≤◌, Bool, true, false, cond, eqb, ◌||◌, List, [], ◌∷◌, None, Some, length, map, get_or, refl, sym, ap, subst, ◌∙◌, arith, inl, inr}
use Rattle.std.specs.List.{All, list_any, range_with_len}
use Rattle.std.proofs.lemmas.Bool.{cases_Bool, cases_eq, eq-eqb, eqb-true, false≢true, ne_eqb, or_left, or_right}
use Rattle.std.proofs.lemmas.List.{get_or-map, length-map}
use Rattle.std.proofs.lemmas.List.Elements.{filter_passes}
use Rattle.std.proofs.lemmas.Map.Views.{any-filter_same}
use Rattle.group_model.specs.Fresh.{is_fresh}
use Rattle.group_model.specs.Places.{Holders}
use Rattle.group_values.specs.Values.{Rises}
use Rattle.key_tree.specs.declared.marks.Renewed.{Renewed}
use Rattle.key_tree.specs.Marks.{fresh_between, ids_renewed, renewal}
use Rattle.group_model.proofs.RiseLemmas.{rises}
use Rattle.key_tree.proofs.AfterLemmas.{ids_of_renewals}

in_range : (count first v : ℕ) → first ≤ v → v < first + count → list_any (eqb v) (range_with_len first count) ≡ true
in_range zero first v from to = absurd (omega (arith, from, to))
in_range (suc count) first v from to = elim (cases_eq v first) [
  | inl here ↦ or_left _ _ (eq-eqb v first here)
  | inr other ↦ or_right _ _ (in_range count (first + 1) v (omega (arith, from, other)) (omega (arith, to)))
]

module _ (depth : ℕ) (before after : Holders) where
  abbrev of : ℕ → Renewed
  of = renewal depth before after

  abbrev fresh : List ℕ
  fresh = fresh_between depth before after

  abbrev all : List Renewed
  all = map of fresh

  absent_of : (v : ℕ) (vs : List ℕ) → All (λ (found : Renewed). found.id ≢ v) (map of vs) → list_any (eqb v) vs ≡ false
  absent_of v [] none = refl
  absent_of v (u ∷ vs) none =
      ap (λ b. b || list_any (eqb v) vs) (ne_eqb v u (λ same. none 0 (of u) (omega arith) (sym same)))
      ∙ absent_of v vs (λ k d low. none (suc k) d (omega (arith, low)))

  pub ids_rise : (list : List Renewed) → list ≡ all → Rises (ids_renewed list)
  ids_rise list is =
      subst Rises (sym (ap ids_renewed is ∙ ids_of_renewals depth before after fresh)) (rises (is_fresh depth before after) (2 ^ (depth + 1) - 1) 1)

  -- where a place was found, what is there is what was found out of the position, which is renewed
  pub found_there : (list : List Renewed) (v place : ℕ) (found : Renewed) → list ≡ all → place < length list → found ≡ get_or list place found → found.id ≡ v
      → Some found ≡ cond (is_fresh depth before after v) (Some (of v)) None
  found_there list v place found is low here same =
      let long : place < length fresh = omega (arith, low, ap length is, length-map fresh of) in
      let u : ℕ = get_or fresh place 0 in
      let whole : found ≡ of u = here ∙ ap (λ l. get_or l place found) is ∙ get_or-map of fresh place 0 found long in
      let id_is : u ≡ v = sym (ap (λ (it : Renewed). it.id) whole) ∙ same in
      let passes : is_fresh depth before after v ≡ true =
      subst (λ n. is_fresh depth before after n ≡ true) id_is (filter_passes (is_fresh depth before after) (range_with_len 1 (2 ^ (depth + 1) - 1)) place 0 long) in
      ap Some (whole ∙ ap of id_is) ∙ sym (ap (λ b. cond b (Some (of v)) None) passes)

  -- where none was found, it is not
  pub none_there : (list : List Renewed) (v : ℕ) → list ≡ all → 0 < v → v < 2 ^ (depth + 1) → All (λ (found : Renewed). found.id ≢ v) list
      → is_fresh depth before after v ≡ false
  none_there list v is some low none = elim (cases_Bool (is_fresh depth before after v)) [
    | inl passes ↦ absurd (false≢true (
        sym (absent_of v fresh (subst (All (λ (found : Renewed). found.id ≢ v)) is none))
        ∙ any-filter_same (eqb v) (is_fresh depth before after) true (λ k same. ap (is_fresh depth before after) (sym (eqb-true v k same)) ∙ passes) (range_with_len 1 (2 ^ (depth + 1) - 1))
        ∙ in_range (2 ^ (depth + 1) - 1) 1 v (omega (arith, some)) (omega (arith, low))
        ))
    | inr fails ↦ fails
  ]

-- what the answer says of a position
pub some_fresh : (fresh : Bool) (of found : Renewed) → Some found ≡ cond fresh (Some of) None → (fresh ≡ true) × (found ≡ of)
some_fresh true of found is = (refl, cc is)
some_fresh false of found is = absurd (cc is)

pub none_fresh : (fresh : Bool) (of : Renewed) → None ≡ cond fresh (Some of) None → fresh ≡ false
none_fresh true of is = absurd (cc is)
none_fresh false of is = refl
