-- The positions that a batch renews, level by level, and those for whose keys it draws values.
use Rattle.std.proofs.Common.{◌≡◌, ℕ, zero, suc, ◌+◌, ◌-◌, ◌^◌, ◌<◌, ◌≤◌, Bool, true, false, cond, List, [], ◌∷◌, ◌++◌, Option, None, Some, length, take, drop, get_or, set, eqb, refl, sym, ap, subst, ◌∙◌, arith, inl, inr}
use Rattle.std.specs.Prelude.{◌&&◌, ◌||◌}
use Rattle.std.specs.List.{All, filter, fold, range_with_len}
use Rattle.std.proofs.lemmas.Bool.{cases_Bool, cases_eq}
use Rattle.std.proofs.Math.Pow.{pow_mono}
use Rattle.std.proofs.lemmas.List.Elements.{All-cons, All-filter}
use Rattle.std.proofs.lemmas.List.{append-nil, get_or-map, length-map, drop_all, take_all, length-set, get_or-set_same, get_or-set_other}
use Rattle.std.proofs.lemmas.List.FromFn.{fill_by_all, get_or-map-range_with_len}
use Rattle.group_terms.specs.Positions.{some_leaf_below, marks_of}
use Rattle.group_terms.specs.declared.values.Drawn.{Drawn}
use Rattle.group_values.specs.Values.{ids_of}
use Rattle.group_model.specs.Drawn.{is_drawn}
use Rattle.group_model.specs.Places.{Holders}
use Rattle.key_tree.specs.Marks.{drawn_between}
use Rattle.key_tree.specs.Private.Draws.{is_renewed, renewed_from}
use Rattle.group_model.specs.LastChanges.{renewed, renewed_at}

pub filter_both : (p q : ℕ → Bool) (xs : List ℕ) → filter q (filter p xs) ≡ filter (λ v. p v && q v) xs
filter_both p q [] = refl
filter_both p q (v ∷ xs) = elim (p v) as (λ b. filter q (cond b (v ∷ filter p xs) (filter p xs)) ≡ cond (b && q v) (v ∷ filter (λ v. p v && q v) xs) (filter (λ v. p v && q v) xs)) [
  | true ↦ ap (λ rest. cond (q v) (v ∷ rest) rest) (filter_both p q xs)
  | false ↦ filter_both p q xs
]

pub pow_some : (n : ℕ) → 0 < 2 ^ n
pow_some n = pow_mono {i = 0} {j = n} (omega arith)

range_within : (count first bound : ℕ) → first + count ≤ bound → All (λ v. v < bound) (range_with_len first count)
range_within zero first bound few = λ k d low. absurd (omega (arith, low))
range_within (suc count) first bound few =
    All-cons (λ v. v < bound) first (range_with_len (first + 1) count) (omega (arith, few)) (range_within count (first + 1) bound (omega (arith, few)))

pub renewed_within : (depth : ℕ) (leaves : List Bool) (first count bound : ℕ) → first + count ≤ bound → All (λ v. v < bound) (renewed_from depth leaves first count)
renewed_within depth leaves first count bound few =
    All-filter (is_renewed depth leaves) (λ v. v < bound) (range_with_len first count) (range_within count first bound few)

-- so are those for which values are drawn
pub drawn_within : (depth : ℕ) (before after : Holders) (bound : ℕ) → 2 ^ (depth + 1) ≤ bound → All (λ v. v < bound) (drawn_between depth before after)
drawn_within depth before after bound few =
    All-filter (is_drawn depth before after) (λ v. v < bound) (range_with_len 1 (2 ^ (depth + 1) - 1))
    (range_within (2 ^ (depth + 1) - 1) 1 bound (omega (arith, few, pow_some (depth + 1))))

pub nodes_within : (bound : ℕ) (nodes : List Drawn) → All (λ v. v < bound) (ids_of nodes) → All (λ (node : Drawn). node.id < bound) nodes
nodes_within bound nodes within k d low =
    let long : k < length (ids_of nodes) = omega (arith, low, length-map nodes (λ (node : Drawn). node.id)) in
    subst (λ v. v < bound) (get_or-map (λ (node : Drawn). node.id) nodes k d d.id low) (within k d.id long)

-- the last changes after these positions were renewed
module _ (epoch : ℕ) where
  abbrev pub noted : List (Option ℕ) → List ℕ → List (Option ℕ)
  noted made ids = fold (λ now v. set now v (Some epoch)) made ids

  pub length-noted : (made : List (Option ℕ)) (ids : List ℕ) → length (noted made ids) ≡ length made
  length-noted made [] = refl
  length-noted made (v ∷ ids) = length-noted (set made v (Some epoch)) ids ∙ length-set made v (Some epoch)

  module _ (p : ℕ → Bool) where
    -- a position before them is as it was
    noted_before : (count first k : ℕ) (made : List (Option ℕ)) → k < first → get_or (noted made (filter p (range_with_len first count))) k None ≡ get_or made k None
    noted_before zero first k made less = refl
    noted_before (suc count) first k made less = elim (cases_Bool (p first)) [
      | inl passes ↦ ap (λ b. get_or (noted made (cond b (first ∷ filter p (range_with_len (first + 1) count)) (filter p (range_with_len (first + 1) count)))) k None) passes
          ∙ noted_before count (first + 1) k (set made first (Some epoch)) (omega (arith, less))
          ∙ get_or-set_other made first k (Some epoch) None (λ e. absurd (omega (arith, e, less)))
      | inr fails ↦ ap (λ b. get_or (noted made (cond b (first ∷ filter p (range_with_len (first + 1) count)) (filter p (range_with_len (first + 1) count)))) k None) fails
          ∙ noted_before count (first + 1) k made (omega (arith, less))
    ]

    -- and one of them is noted if it passes
    noted_at : (count first k : ℕ) (made : List (Option ℕ)) → first ≤ k → k < first + count → k < length made
        → get_or (noted made (filter p (range_with_len first count))) k None ≡ cond (p k) (Some epoch) (get_or made k None)
    noted_at zero first k made from to low = absurd (omega (arith, from, to))
    noted_at (suc count) first k made from to low = elim (cases_Bool (p first)) [
      | inl passes ↦ ap (λ b. get_or (noted made (cond b (first ∷ filter p (range_with_len (first + 1) count)) (filter p (range_with_len (first + 1) count)))) k None) passes
          ∙ elim (cases_eq k first) [
            | inl here ↦ rw here (noted_before count (first + 1) first (set made first (Some epoch)) (omega arith) ∙ get_or-set_same made first (Some epoch) None (omega (arith, here, low))
                ∙ sym (ap (λ b. cond b (Some epoch) (get_or made first None)) passes))
            | inr other ↦ noted_at count (first + 1) k (set made first (Some epoch)) (omega (arith, from, other)) (omega (arith, to)) (omega (arith, low, length-set made first (Some epoch)))
                ∙ ap (λ last. cond (p k) (Some epoch) last) (get_or-set_other made first k (Some epoch) None other)
          ]
      | inr fails ↦ ap (λ b. get_or (noted made (cond b (first ∷ filter p (range_with_len (first + 1) count)) (filter p (range_with_len (first + 1) count)))) k None) fails
          ∙ elim (cases_eq k first) [
            | inl here ↦ rw here (noted_before count (first + 1) first made (omega arith) ∙ sym (ap (λ b. cond b (Some epoch) (get_or made first None)) fails))
            | inr other ↦ noted_at count (first + 1) k made (omega (arith, from, other)) (omega (arith, to)) low
          ]
    ]

  pub noted-renewed : (depth : ℕ) (leaves : List Bool) (made : List (Option ℕ)) → length made ≡ 2 ^ (depth + 1) → some_leaf_below depth leaves 0 ≡ false
      → noted made (renewed_from depth leaves 1 (2 ^ (depth + 1) - 1)) ≡ renewed epoch made (marks_of depth leaves)
  noted-renewed depth leaves made long none =
      let marks : List Bool = marks_of depth leaves in
      let mark : (k : ℕ) → k < 2 ^ (depth + 1) → get_or marks k false ≡ some_leaf_below depth leaves k = λ k low.
      get_or-map-range_with_len (some_leaf_below depth leaves) 0 (2 ^ (depth + 1)) k k false low (omega arith) in
      fill_by_all (renewed_at epoch made marks) (noted made (renewed_from depth leaves 1 (2 ^ (depth + 1) - 1))) (length made) None
      (length-noted made (renewed_from depth leaves 1 (2 ^ (depth + 1) - 1)))
      (λ k low. elim (cases_eq k 0) [
        | inl number ↦ rw number (noted_before (is_renewed depth leaves) (2 ^ (depth + 1) - 1) 1 0 made (omega arith)
            ∙ sym (ap (λ b. cond b (Some epoch) (get_or made 0 None)) (mark 0 (pow_some (depth + 1)) ∙ none)))
        | inr other ↦ noted_at (is_renewed depth leaves) (2 ^ (depth + 1) - 1) 1 k made (omega (arith, other)) (omega (arith, low, long, pow_some (depth + 1))) low
            ∙ ap (λ b. cond (eqb k 1 || b) (Some epoch) (get_or made k None)) (sym (mark k (omega (arith, low, long))))
      ])

-- a list of which all was written over
pub written_over : {A : Type 0} (old new : List A) → length new ≡ length old → take (length old) (new ++ drop (length new) old) ≡ new
written_over old new same =
    let nothing : drop (length new) old ≡ [] = drop_all (length new) old (omega (arith, same)) in
    ap (λ rest. take (length old) (new ++ rest)) nothing ∙ ap (take (length old)) (append-nil new) ∙ take_all (length old) new (omega (arith, same))
