-- The lowest marked leaf from a leaf on: up as far as nothing is marked to the right, and down again.
use Rattle.std.proofs.Common.{◌≡◌, ℕ, suc, ◌+◌, ◌-◌, ◌*◌, ◌/◌, ◌%◌, ◌^◌, ◌<◌, ◌≤◌, Bool, true, false, cond, eqb, ◌||◌, ◌&&◌, List, None, Some, length, sym, ap, subst, ◌∙◌, arith, inl, inr}
use Rattle.std.proofs.Math.Pow.{pow_mono}
use Rattle.std.proofs.lemmas.Bool.{cases_Bool, cases_eq, cases_lt, eq-eqb}
use Rattle.std.proofs.lemmas.Grind.{pow_more}
use Rattle.std.proofs.lemmas.List.{get_or_past}
use Rattle.group_terms.specs.Positions.{halved, some_leaf_below}
use Rattle.group_terms.proofs.BelowLemmas.{halved-suc, pow_pos}
use Rattle.group_terms.proofs.MarkLemmas.{children_marked}
use Rattle.key_tree.specs.Private.Lowest.{IsLowestBelow, IsLowestFrom}
use Rattle.key_tree.proofs.LeafLemmas.{all_leaves, halved_mono, halved_within, leaf, leaf_mark, unmarked}

module _ (depth : ℕ) (leaves : List Bool) where
  -- going down, with so many levels left: no leaf below the first position is marked before those below the present one
  pub record IsGoingDown (height top steps v : ℕ) : Type 0 where
    pub few : steps ≤ depth
    pub rest : steps ≤ height
    pub from : 2 ^ (depth - steps) ≤ v
    pub to : v < 2 ^ (depth - steps + 1)
    pub below : halved (height - steps) v ≡ top
    pub marked : some_leaf_below depth leaves v ≡ true
    pub before : (i : ℕ) → halved steps (2 ^ depth + i) < v → halved height (2 ^ depth + i) ≡ top → leaf depth leaves i ≡ false

  -- going up, so many levels: no leaf from that one on is marked below the position
  pub record IsGoingUp (from height v : ℕ) : Type 0 where
    pub at : v ≡ halved height (2 ^ depth + from)
    pub none : (i : ℕ) → from ≤ i → halved height (2 ^ depth + i) ≡ v → leaf depth leaves i ≡ false

module _ (depth : ℕ) (leaves : List Bool) (long : length leaves ≡ 2 ^ depth) where
  pub down_first : (height top : ℕ) → height ≤ depth → 2 ^ (depth - height) ≤ top → top < 2 ^ (depth - height + 1) → some_leaf_below depth leaves top ≡ true
      → IsGoingDown depth leaves height top height top
  down_first height top few from to marked = let none : height - height ≡ 0 = omega arith in record {
    few = few;
    rest = omega arith;
    from = from;
    to = to;
    below = ap (λ n. halved n top) none;
    marked = marked;
    before = λ i less same. absurd (omega (arith, less, same));
  }

  pub down_inner : (height top steps v : ℕ) → 0 < steps → IsGoingDown depth leaves height top steps v → (0 < v) × (v < 2 ^ depth)
  down_inner height top steps v some h = (
    omega (arith, h.from, pow_pos (depth - steps)),
    omega (arith, h.to, pow_mono {i = depth - steps + 1} {j = depth} (omega (arith, some, h.few))),
  )

  pub down_more : (height top steps v : ℕ) (left : Bool) → left ≡ some_leaf_below depth leaves (2 * v) → IsGoingDown depth leaves height top (suc steps) v
      → IsGoingDown depth leaves height top steps (cond left (2 * v) (2 * v + 1))
  down_more height top steps v left is h =
      let inner = down_inner height top (suc steps) v (omega arith) h in
      let level : depth - steps ≡ depth - suc steps + 1 = omega (arith, h.few) in
      let size : 2 ^ (depth - steps) ≡ 2 ^ (depth - suc steps) * 2 = ap (λ n. 2 ^ n) level ∙ pow_more 2 (depth - suc steps) in
      let from : 2 ^ (depth - steps) ≤ 2 * v = omega (arith, size, h.from) in
      let to : 2 * v + 1 < 2 ^ (depth - steps + 1) = omega (arith, size, h.to, pow_more 2 (depth - steps), pow_more 2 (depth - suc steps)) in
      let gone : height - steps ≡ suc (height - suc steps) = omega (arith, h.rest) in
      let child : some_leaf_below depth leaves v ≡ (some_leaf_below depth leaves (2 * v) || some_leaf_below depth leaves (2 * v + 1)) =
      children_marked depth (2 ^ depth) leaves v inner.0 inner.1 (omega arith) (all_leaves depth leaves long) in
      let earlier : (i : ℕ) → halved steps (2 ^ depth + i) < 2 * v → halved height (2 ^ depth + i) ≡ top → leaf depth leaves i ≡ false =
      λ i less same. h.before i (omega (arith, less, halved-suc steps (2 ^ depth + i))) same in
      elim (cases_Bool left) [
        | inl marked ↦ subst (λ b. IsGoingDown depth leaves height top steps (cond b (2 * v) (2 * v + 1))) (sym marked) (record {
          few = omega (arith, h.few);
          rest = omega (arith, h.rest);
          from = from;
          to = omega (arith, to);
          below = ap (λ n. halved n (2 * v)) gone ∙ ap (halved (height - suc steps)) (omega arith) ∙ h.below;
          marked = sym is ∙ marked;
          before = earlier;
        })
        | inr none ↦ subst (λ b. IsGoingDown depth leaves height top steps (cond b (2 * v) (2 * v + 1))) (sym none) (record {
          few = omega (arith, h.few);
          rest = omega (arith, h.rest);
          from = omega (arith, from);
          to = to;
          below = ap (λ n. halved n (2 * v + 1)) gone ∙ ap (halved (height - suc steps)) (omega arith) ∙ h.below;
          marked = sym (child ∙ ap (λ b. b || some_leaf_below depth leaves (2 * v + 1)) (sym is ∙ none)) ∙ h.marked;
          before = λ i less same. elim (cases_lt (halved steps (2 ^ depth + i)) (2 * v)) [
            | inl low ↦ earlier i low same
            | inr high ↦ unmarked depth leaves long steps (2 * v) i (omega (arith, inner.0)) (sym is ∙ none) (omega (arith, less, high))
          ];
        })
      ]

  pub down_last : (height top v place : ℕ) → place + 2 ^ depth ≡ v → IsGoingDown depth leaves height top 0 v → IsLowestBelow depth leaves height top place
  down_last height top v place is h =
      let at : 2 ^ depth + place ≡ v = omega (arith, is) in
      let none : depth - 0 ≡ depth = omega arith in
      let to : v < 2 ^ (depth + 1) = subst (λ n. v < 2 ^ (n + 1)) none h.to in
      let all : height - 0 ≡ height = omega arith in
      record {
        below = (λ i. halved (sym all i) (at i)) ∙ h.below;
        marked = sym (leaf_mark depth leaves long place (omega (arith, at, to, pow_more 2 depth))) ∙ ap (some_leaf_below depth leaves) at ∙ h.marked;
        before = λ i less same. h.before i (omega (arith, less, at)) same;
      }

  pub up_first : (from v : ℕ) → from < 2 ^ depth → v ≡ 2 ^ depth + from → some_leaf_below depth leaves v ≡ false → IsGoingUp depth leaves from 0 v
  up_first from v low is unmarked = record {
    at = is;
    none = λ i later same. ap (leaf depth leaves) (omega (arith, same, is)) ∙ sym (leaf_mark depth leaves long from low) ∙ ap (some_leaf_below depth leaves) (sym is) ∙ unmarked;
  }

  module _ (from height v : ℕ) (low : from < 2 ^ depth) (h : IsGoingUp depth leaves from height v) where
    pub up_within : height ≤ depth → (2 ^ (depth - height) ≤ v) × (v < 2 ^ (depth - height + 1))
    up_within few =
        let whole : depth - height + height ≡ depth = omega (arith, few) in
        let x : ℕ = 2 ^ depth + from in
        let at = halved_within height (depth - height) x (subst (λ n. 2 ^ n ≤ x) (sym whole) (omega arith))
        (subst (λ n. x < 2 ^ (n + 1)) (sym whole) (omega (arith, low, pow_more 2 depth))) in
        (omega (arith, at.0, h.at), omega (arith, at.1, h.at))

    -- the position to the right has the same one above it only where this one is its left child
    to_the_right : (w : ℕ) → v ≤ w → w / 2 ≡ v / 2 → (w ≡ v → ⊥) → (w ≡ v + 1) × (v % 2 ≡ 0)
    to_the_right w later same other = (omega (arith, later, same, other), omega (arith, later, same, other))

    pub up_more : height < depth → (eqb (v % 2) 0 && some_leaf_below depth leaves (v + 1)) ≡ false → IsGoingUp depth leaves from (suc height) (v / 2)
    up_more few right = record {
      at = ap (λ n. n / 2) h.at ∙ sym (halved-suc height (2 ^ depth + from));
      none = λ i later same.
          let w : ℕ = halved height (2 ^ depth + i) in
          let half : w / 2 ≡ v / 2 = sym (halved-suc height (2 ^ depth + i)) ∙ same in
          let order : v ≤ w = omega (arith, h.at, halved_mono height (2 ^ depth + from) (2 ^ depth + i) (omega (arith, later))) in
          elim (cases_eq w v) [
            | inl here ↦ h.none i later here
            | inr other ↦ (
                let beside = to_the_right w order half other in
                let none : some_leaf_below depth leaves (v + 1) ≡ false = sym (ap (λ b. b && some_leaf_below depth leaves (v + 1)) (eq-eqb (v % 2) 0 beside.1)) ∙ right in
                unmarked depth leaves long height (v + 1) i (omega arith) none beside.0
                )
          ];
    }

    -- the right sibling may have it
    pub up_found : (place : ℕ) → IsLowestBelow depth leaves height (v + 1) place → IsLowestFrom (leaf depth leaves) from (Some place)
    up_found place lowest =
        let later : from ≤ place = elim (cases_lt place from) [
          | inl before ↦ absurd (omega (arith, h.at, lowest.below, halved_mono height (2 ^ depth + place) (2 ^ depth + from) (omega (arith, before))))
          | inr after ↦ after
        ] in (
          later,
          lowest.marked,
          λ i from_it before.
              let w : ℕ = halved height (2 ^ depth + i) in
              let low_side : v ≤ w = omega (arith, h.at, halved_mono height (2 ^ depth + from) (2 ^ depth + i) (omega (arith, from_it))) in
              let high_side : w ≤ v + 1 = omega (arith, lowest.below, halved_mono height (2 ^ depth + i) (2 ^ depth + place) (omega (arith, before))) in
              elim (cases_eq w v) [
                | inl here ↦ h.none i from_it here
                | inr other ↦ lowest.before i before (omega (arith, low_side, high_side, other))
              ],
        )

  pub up_last : (from v : ℕ) → from < 2 ^ depth → IsGoingUp depth leaves from depth v → IsLowestFrom (leaf depth leaves) from None
  up_last from v low h i later = elim (cases_lt i (length leaves)) [
    | inr past ↦ get_or_past leaves i false past
    | inl few ↦ (
        let none : depth - depth ≡ 0 = omega arith in
        let one = up_within from depth v low h (omega arith) in
        let root : v ≡ 1 = omega (arith, subst (λ n. 2 ^ n ≤ v) none one.0, subst (λ n. v < 2 ^ (n + 1)) none one.1) in
        let x : ℕ = 2 ^ depth + i in
        let whole : depth ≡ 0 + depth = omega arith in
        let top = halved_within depth 0 x (subst (λ n. 2 ^ n ≤ x) whole (omega arith)) (subst (λ n. x < 2 ^ (n + 1)) whole (omega (arith, few, long, pow_more 2 depth))) in
        h.none i later (omega (arith, top.0, top.1, root))
        )
  ]
