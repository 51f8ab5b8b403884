-- What a batch encrypts on the way up from the leaf of somebody who stayed.
use Rattle.std.proofs.Common.{◌≡◌, ℕ, zero, suc, ◌+◌, ◌-◌, ◌*◌, ◌/◌, ◌^◌, ◌<◌, ◌≤◌, Bool, true, false, cond, List, [], ◌∷◌, Some, None, length}
use Rattle.std.proofs.Common.{map, take, get_or, sym, refl, ap, ◌∙◌, subst, arith, inl, inr}
use Rattle.std.specs.Prelude.{Contains, ◌⊎◌}
use Rattle.std.specs.List.{filter, flat_map, list_any}
use Rattle.std.proofs.lemmas.Bool.{cases_eq}
use Rattle.std.proofs.lemmas.Grind.{pow_more}
use Rattle.std.proofs.lemmas.List.Elements.{Contains-append_left, Contains-append_right}
use Rattle.std.proofs.lemmas.List.Folds.{Any-from_list_any}
use Rattle.std.proofs.lemmas.List.{get_or_read}
use Rattle.group_terms.specs.Names.{Name}
use Rattle.group_terms.specs.Positions.{halved, some_leaf_below}
use Rattle.group_terms.specs.declared.changes.Change.{Change}
use Rattle.group_terms.specs.declared.keys.KeyName.TheVariants.{Node}
use Rattle.group_terms.specs.declared.keys.Wrap.{Wrap}
use Rattle.group_model.specs.Fresh.{is_fresh}
use Rattle.group_model.specs.Laws.{Laws}
use Rattle.group_model.specs.Places.{Holders, IsValid, holders_at, is_member, place_in}
use Rattle.group_model.specs.Stayed.{is_kept, kept_leaves, stayed_at}
use Rattle.group_model.specs.Wraps.{falling, node_wraps}
use Rattle.law_key_ways.specs.Laws.{IsRenewed}
use Rattle.law_key_ways.proofs.LeafLemmas.{had, kept-at, kept_there, length-kept}
use Rattle.law_key_ways.proofs.MarkLemmas.{marked}
use Rattle.law_key_ways.proofs.StepLemmas.{node_wraps-is, wrap_by, wraps_by}
use Rattle.law_key_ways.proofs.WayLemmas.{below_halved, halved-suc, halved_inner, halved_positive, halved_root}

-- what is given for one of two that passes
one_of_two : {X : Type 0} (p : ℕ → Bool) (f : ℕ → X) (a b x : ℕ) → (x ≡ a) ⊎ (x ≡ b) → p x ≡ true → Contains (map f (filter p (a ∷ b ∷ []))) (f x)
one_of_two p f a b x (inl is) h =
    subst (λ passes. Contains (map f (cond passes (a ∷ filter p (b ∷ [])) (filter p (b ∷ [])))) (f x)) (sym (ap p (sym is) ∙ h))
    (0, omega arith, ap f (sym is))
one_of_two p f a b x (inr is) h =
    subst (λ passes. Contains (map f (cond (p a) (a ∷ cond passes (b ∷ []) []) (cond passes (b ∷ []) []))) (f x)) (sym (ap p (sym is) ∙ h))
    (elim (p a) as (λ first. Contains (map f (cond first (a ∷ b ∷ []) (b ∷ []))) (f x)) [
      | true ↦ (1, omega arith, ap f (sym is))
      | false ↦ (0, omega arith, ap f (sym is))
    ])

-- what is given for a number that passes, from one down to 1
of_falling : {X : Type 0} (p : ℕ → Bool) (f : ℕ → List X) (v : ℕ) (x : X) → p v ≡ true → Contains (f v) x → 1 ≤ v → (n : ℕ) → v ≤ n
    → Contains (flat_map f (filter p (falling n))) x
of_falling p f v x h c some zero most = absurd (omega (arith, some, most))
of_falling p f v x h c some (suc n) most = elim (cases_eq v (suc n)) [
  | inl here ↦
      subst (λ passes. Contains (flat_map f (cond passes (suc n ∷ filter p (falling n)) (filter p (falling n)))) x) (sym (ap p (sym here) ∙ h))
      (Contains-append_left (f (suc n)) (flat_map f (filter p (falling n))) x (subst (λ v. Contains (f v) x) here c))
  | inr below ↦ (
      let later = of_falling p f v x h c some n (omega (arith, most, below)) in
      elim (p (suc n)) as (λ passes. Contains (flat_map f (cond passes (suc n ∷ filter p (falling n)) (filter p (falling n)))) x) [
        | true ↦ Contains-append_right (f (suc n)) (flat_map f (filter p (falling n))) x later
        | false ↦ later
      ]
      )
]

module _ (laws : Laws) (depth epoch : ℕ) (batches : List (List Change)) where
  abbrev before : Holders
  before = holders_at depth batches epoch

  abbrev after : Holders
  after = holders_at depth batches (epoch + 1)

  -- a new key is given under that of the position below
  abbrev IsGivenAbove : ℕ → ℕ → Type 0
  IsGivenAbove steps leaf =
      IsRenewed depth batches epoch (halved (suc steps) leaf)
      → Contains (node_wraps depth batches (epoch + 1)) (wrap_by depth epoch batches (halved (suc steps) leaf) (halved steps leaf))

  -- above the leaf of somebody who stayed each is
  given : (i steps : ℕ) → i < 2 ^ depth → get_or (kept_leaves before after) i false ≡ true → steps < depth → IsGivenAbove steps (2 ^ depth + i)
  given i steps low kept up renewed =
      let leaf = 2 ^ depth + i in
      let to : leaf < 2 ^ (depth + 1) = omega (arith, low, pow_more 2 depth) in
      let v = halved (suc steps) leaf in
      let child = halved steps leaf in
      let step : v ≡ child / 2 = halved-suc steps leaf in
      let two : (child ≡ 2 * v) ⊎ (child ≡ 2 * v + 1) = elim (cases_eq child (2 * v)) [ inl left ↦ inl left | inr other ↦ inr (omega (arith, step, other)) ] in
      let stays : some_leaf_below depth (kept_leaves before after) child ≡ true =
      marked depth (kept_leaves before after) child i (omega (arith, low, length-kept laws depth epoch batches)) kept
      (below_halved depth steps leaf (omega (arith, up))) in
      subst (λ wraps. Contains wraps (wrap_by depth epoch batches v child)) (sym (node_wraps-is depth epoch batches))
      (of_falling (is_fresh depth before after) (wraps_by depth epoch batches before) v (wrap_by depth epoch batches v child) renewed
      (one_of_two (some_leaf_below depth (kept_leaves before after)) (wrap_by depth epoch batches v) (2 * v) (2 * v + 1) child two stays)
      (halved_positive (suc steps) depth leaf up (omega arith)) (2 ^ depth - 1) (omega (arith, halved_inner steps depth leaf to)))

  -- who stays is given its way
  pub way_is_given : (leaf steps : ℕ) (m : Name) → IsValid depth batches → epoch < length batches → place_in depth before m ≡ Some leaf
      → is_member after m ≡ true → steps < depth → IsGivenAbove steps leaf
  way_is_given leaf steps m valid early place member up =
      let leaf_before = had laws depth epoch batches valid early m member leaf place in
      subst (IsGivenAbove steps) (sym leaf_before.is)
      (given leaf_before.index steps leaf_before.low (kept_there laws depth epoch batches valid early m member leaf place) up)

  -- where somebody stayed the root is given
  pub root_is_given : 1 ≤ depth → stayed_at depth batches (epoch + 1) ≡ true
      → (wrap : Wrap) × Contains (node_wraps depth batches (epoch + 1)) wrap × (wrap.gives ≡ Node 1 (epoch + 1))
  root_is_given deep stayed =
      let same : epoch + 1 - 1 ≡ epoch = omega arith in
      let found = Any-from_list_any (is_kept before) after (subst (λ at. list_any (is_kept (holders_at depth batches at)) after ≡ true) same stayed) in
      let i = found.0 in
      let low : i < 2 ^ depth = omega (arith, found.2, laws.each_leaf depth (take (epoch + 1) batches)) in
      let kept : get_or (kept_leaves before after) i false ≡ true =
      kept-at laws depth epoch batches i low ∙ ap (is_kept before) (sym (get_or_read after i found.1 found.2 (sym found.3) None)) ∙ found.4 in
      let leaf = 2 ^ depth + i in
      let steps = depth - 1 in
      let whole : suc steps ≡ depth = omega arith in
      let top : halved (suc steps) leaf ≡ 1 = ap (λ k. halved k leaf) whole ∙ halved_root depth leaf (omega arith) (omega (arith, low, pow_more 2 depth)) in (
        wrap_by depth epoch batches (halved (suc steps) leaf) (halved steps leaf),
        given i steps low kept (omega (arith, deep)) (subst (IsRenewed depth batches epoch) (sym top) refl),
        ap (λ v. Node v (epoch + 1)) top,
      )
