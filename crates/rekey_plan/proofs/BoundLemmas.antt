-- How many encryptions a batch has, and between which positions.
use Rattle.std.proofs.Common.{◌≡◌, ℕ, ◌+◌, ◌-◌, ◌*◌, ◌^◌, ◌<◌, ◌≤◌, Bool, true, false, cond, ltb, List, [], ◌∷◌, ◌++◌, length, get_or, refl, sym, ap, subst, ◌∙◌, arith, length-append}
use Rattle.std.specs.List.{All, AllWithin}
use Rattle.std.proofs.lemmas.Bool.{ltb-true}
use Rattle.std.proofs.lemmas.Grind.{pow_more}
use Rattle.std.proofs.lemmas.List.{get_or_append_left, length-map}
use Rattle.std.proofs.lemmas.List.Elements.{All-append, All-cons, All-nil}
use Rattle.group_terms.specs.declared.keys.KeyName.TheVariants.{Node, Traffic}
use Rattle.group_terms.specs.declared.keys.Wrap.{Wrap}
use Rattle.key_tree.specs.declared.marks.Marked.{Marked}
use Rattle.key_tree.specs.Marks.{holders_then, ids_renewed, is_stayed_below}
use Rattle.key_tree.specs.declared.marks.Renewed.{Renewed}
use Rattle.key_tree.specs.Present.{Present}
use Rattle.rekey_plan.specs.Private.Plans.{child_wrap, inner_wraps, new_wrap, marked_wraps, wraps_up}
use Rattle.group_model.specs.Wraps.{IsBetween}

module _ (tree : Present) (marked : Marked) where
  few_child : (b : Bool) (wrap : Wrap) → length (cond b (wrap ∷ []) []) ≤ 1
  few_child true wrap = omega arith
  few_child false wrap = omega arith

  few_inner : (v : ℕ) (b : Bool) → length (cond b (child_wrap tree marked v (2 * v) ++ child_wrap tree marked v (2 * v + 1)) []) ≤ 2
  few_inner v false = omega arith
  few_inner v true =
      let left = few_child (is_stayed_below tree.depth tree.holders (holders_then tree marked) (2 * v)) (new_wrap tree marked v (2 * v)) in
      let right = few_child (is_stayed_below tree.depth tree.holders (holders_then tree marked) (2 * v + 1)) (new_wrap tree marked v (2 * v + 1)) in
      omega (arith, left, right, length-append (child_wrap tree marked v (2 * v)) (child_wrap tree marked v (2 * v + 1)))

  few_up : (vs : List ℕ) → length (wraps_up tree marked vs) ≤ 2 * length vs
  few_up [] = omega arith
  few_up (v ∷ vs) =
      omega (arith, few_up vs, few_inner v (ltb v (2 ^ tree.depth)), length-append (wraps_up tree marked vs) (inner_wraps tree marked v))

  pub few_wraps : length (marked_wraps tree marked) ≤ 2 * length marked.renewed + 1
  few_wraps = by (marked.stayed)
    where
      by : (b : Bool) → length (cond b (wraps_up tree marked (ids_renewed marked.renewed) ++ record { by = Node 1 marked.epoch; gives = Traffic marked.epoch } ∷ []) []) ≤ 2 * length marked.renewed + 1
      by false = omega arith
      by true =
          omega (arith, few_up (ids_renewed marked.renewed), length-map marked.renewed (λ (found : Renewed). found.id), length-append (wraps_up tree marked (ids_renewed marked.renewed)) (record { by = Node 1 marked.epoch; gives = Traffic marked.epoch } ∷ []))

  abbrev bound : ℕ
  bound = 2 ^ (tree.depth + 1)

  child_within : (v child : ℕ) (b : Bool) → v < bound → child < bound → All (IsBetween bound) (cond b (new_wrap tree marked v child ∷ []) [])
  child_within v child false low below = All-nil (IsBetween bound)
  child_within v child true low below = All-cons (IsBetween bound) (new_wrap tree marked v child) [] (below, low) (All-nil (IsBetween bound))

  inner_within : (v : ℕ) (b : Bool) → ltb v (2 ^ tree.depth) ≡ b
      → All (IsBetween bound) (cond b (child_wrap tree marked v (2 * v) ++ child_wrap tree marked v (2 * v + 1)) [])
  inner_within v false is = All-nil (IsBetween bound)
  inner_within v true is =
      let inner : v < 2 ^ tree.depth = ltb-true v (2 ^ tree.depth) is in
      let low : v < bound = omega (arith, inner, pow_more 2 tree.depth) in
      let left : 2 * v < bound = omega (arith, inner, pow_more 2 tree.depth) in
      let right : 2 * v + 1 < bound = omega (arith, inner, pow_more 2 tree.depth) in
      All-append (IsBetween bound) (child_wrap tree marked v (2 * v)) (child_wrap tree marked v (2 * v + 1))
      (child_within v (2 * v) (is_stayed_below tree.depth tree.holders (holders_then tree marked) (2 * v)) low left)
      (child_within v (2 * v + 1) (is_stayed_below tree.depth tree.holders (holders_then tree marked) (2 * v + 1)) low right)

  up_within : (vs : List ℕ) → All (IsBetween bound) (wraps_up tree marked vs)
  up_within [] = All-nil (IsBetween bound)
  up_within (v ∷ vs) =
      All-append (IsBetween bound) (wraps_up tree marked vs) (inner_wraps tree marked v) (up_within vs) (inner_within v (ltb v (2 ^ tree.depth)) refl)

  pub within_wraps : AllWithin (IsBetween bound) (marked_wraps tree marked) 0 (length (marked_wraps tree marked) - 1)
  within_wraps = by (marked.stayed) (marked_wraps tree marked) refl
    where
      by : (b : Bool) (wraps : List Wrap) → wraps ≡ cond b (wraps_up tree marked (ids_renewed marked.renewed) ++ record { by = Node 1 marked.epoch; gives = Traffic marked.epoch } ∷ []) []
          → AllWithin (IsBetween bound) wraps 0 (length wraps - 1)
      by false wraps is k d from low = absurd (omega (arith, low, ap length is))
      by true wraps is k d from low =
          let up : List Wrap = wraps_up tree marked (ids_renewed marked.renewed) in
          let last : List Wrap = record { by = Node 1 marked.epoch; gives = Traffic marked.epoch } ∷ [] in
          let early : k < length up = omega (arith, low, ap length is, length-append up last) in
          subst (IsBetween bound) (sym (ap (λ ws. get_or ws k d) is ∙ get_or_append_left up last d k early)) (up_within (ids_renewed marked.renewed) k d early)
