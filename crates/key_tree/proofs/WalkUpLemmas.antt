-- The walk from the leaves that change hands up to the root gives all positions that a batch renews.
use Rattle.std.proofs.Common.{◌≡◌, ℕ, zero, suc, ◌+◌, ◌-◌, ◌*◌, ◌/◌, ◌^◌, ◌<◌, ◌≤◌, Bool, true, false, cond, eqb, ◌||◌, List, [], ◌∷◌, ◌++◌, None, map, refl, sym, ap, ◌∙◌, arith, append_assoc, inl, inr}
use Rattle.std.specs.Prelude.{reverse}
use Rattle.std.specs.List.{filter, range_with_len}
use Rattle.std.proofs.lemmas.Bool.{cases_Bool, ne_eqb, or_left, or_right}
use Rattle.std.proofs.Math.Pow.{pow_mono}
use Rattle.std.proofs.lemmas.Grind.{pow_more}
use Rattle.std.proofs.lemmas.List.{append-nil, map-append, reverse-append, reverse-reverse}
use Rattle.std.proofs.lemmas.List.Elements.{filter-append}
use Rattle.group_terms.specs.LeafMarks.{Marked as LeafMarked}
use Rattle.key_tree.specs.declared.marks.Renewed.{Renewed}
use Rattle.key_tree.specs.Private.Levels.{above, joined, left_alone, levels, sibling, top}
use Rattle.key_tree.proofs.PathLemmas.{some_power, twice}
use Rattle.key_tree.proofs.LevelLemmas.{HeadBelow, above_alone, above_both, joined_flip, sibling_left, sibling_right}

range_more : (count first : ℕ) → range_with_len first (suc count) ≡ range_with_len first count ++ (first + count) ∷ []
range_more zero first = ap (λ n. n ∷ []) (omega arith)
range_more (suc count) first =
    let next : first + 1 + count ≡ first + suc count = omega arith in
    ap (λ ns. first ∷ ns) (range_more count (first + 1)) ∙ ap (λ n. first ∷ range_with_len (first + 1) count ++ n ∷ []) next

module _ (held : LeafMarked) where
  -- of what is found out of each position, and of those that are renewed
  module _ (depth : ℕ) (of : ℕ → Renewed) (p : ℕ → Bool)
      (ids : (v : ℕ) → (of v).id ≡ v)
      (stale : (v : ℕ) → p v ≡ false → of v ≡ left_alone held v)
      (marks : (v : ℕ) → 0 < v → v < 2 ^ depth → p v ≡ (p (2 * v) || p (2 * v + 1)))
      (heirs : (v : ℕ) → 0 < v → v < 2 ^ depth → of v ≡ joined (of (2 * v + 1)) (of (2 * v))) where
    -- those of a range that are renewed, by falling position
    abbrev falling : ℕ → ℕ → List Renewed
    falling first zero = []
    falling first (suc count) = cond (p (first + count)) (of (first + count) ∷ falling first count) (falling first count)

    head_falling : (count first bound : ℕ) → first + count ≤ bound → HeadBelow bound (falling first count)
    head_falling zero first bound within = tt
    head_falling (suc count) first bound within =
        elim (p (first + count)) as (λ b. HeadBelow bound (cond b (of (first + count) ∷ falling first count) (falling first count))) [
          | true ↦ omega (arith, ids (first + count), within)
          | false ↦ head_falling count first bound (omega (arith, within))
        ]

    -- two positions and the one above them
    one_above : (u right left : ℕ) (rest above_rest : List Renewed) → right ≡ 2 * u + 1 → left ≡ 2 * u → 0 < u → u < 2 ^ depth → HeadBelow (2 * u) rest
        → above held None rest ≡ above_rest
        → above held None (cond (p right) (of right ∷ cond (p left) (of left ∷ rest) rest) (cond (p left) (of left ∷ rest) rest)) ≡ cond (p u) (of u ∷ above_rest) above_rest
    one_above u right left rest above_rest right_is left_is some inner less later =
        let marked : p u ≡ (p left || p right) = marks u some inner ∙ (λ i. p (sym left_is i) || p (sym right_is i)) in
        let heir : joined (of right) (of left) ≡ of u = sym (heirs u some inner ∙ (λ i. joined (of (sym right_is i)) (of (sym left_is i)))) in
        let right_half : (of right).id / 2 ≡ u = omega (arith, ids right, right_is) in
        let left_half : (of left).id / 2 ≡ u = omega (arith, ids left, left_is) in
        elim (cases_Bool (p right)) [
          | inl has_right ↦ elim (cases_Bool (p left)) [
            | inl has_left ↦
                (λ i. above held None (cond (has_right i) (of right ∷ cond (has_left i) (of left ∷ rest) rest) (cond (has_left i) (of left ∷ rest) rest)))
                ∙ above_both held (of right) (of left) rest (right_half ∙ sym left_half)
                ∙ (λ i. heir i ∷ later i)
                ∙ sym (ap (λ b. cond b (of u ∷ above_rest) above_rest) (marked ∙ or_left (p left) (p right) has_left))
            | inr no_left ↦
                (λ i. above held None (cond (has_right i) (of right ∷ cond (no_left i) (of left ∷ rest) rest) (cond (no_left i) (of left ∷ rest) rest)))
                ∙ above_alone held (of right) rest u less right_half
                ∙ (λ i. joined (of right) (left_alone held ((ap sibling (ids right) ∙ sibling_right right u right_is ∙ sym left_is) i)) ∷ later i)
                ∙ (λ i. joined (of right) (sym (stale left no_left) i) ∷ above_rest)
                ∙ (λ i. heir i ∷ above_rest)
                ∙ sym (ap (λ b. cond b (of u ∷ above_rest) above_rest) (marked ∙ or_right (p left) (p right) has_right))
          ]
          | inr no_right ↦ elim (cases_Bool (p left)) [
            | inl has_left ↦
                (λ i. above held None (cond (no_right i) (of right ∷ cond (has_left i) (of left ∷ rest) rest) (cond (has_left i) (of left ∷ rest) rest)))
                ∙ above_alone held (of left) rest u less left_half
                ∙ (λ i. joined (of left) (left_alone held ((ap sibling (ids left) ∙ sibling_left left u left_is ∙ sym right_is) i)) ∷ later i)
                ∙ (λ i. joined (of left) (sym (stale right no_right) i) ∷ above_rest)
                ∙ (λ i. (joined_flip (of left) (of right) (left_half ∙ sym right_half) ∙ heir) i ∷ above_rest)
                ∙ sym (ap (λ b. cond b (of u ∷ above_rest) above_rest) (marked ∙ or_left (p left) (p right) has_left))
            | inr no_left ↦
                (λ i. above held None (cond (no_right i) (of right ∷ cond (no_left i) (of left ∷ rest) rest) (cond (no_left i) (of left ∷ rest) rest)))
                ∙ later
                ∙ sym (ap (λ b. cond b (of u ∷ above_rest) above_rest) (marked ∙ (λ i. no_left i || no_right i)))
          ]
        ]

    -- the level above is that of the halves
    level_above : (count first : ℕ) → 0 < first → first + count ≤ 2 ^ depth → above held None (falling (2 * first) (2 * count)) ≡ falling first count
    level_above zero first some few = refl
    level_above (suc count) first some few =
        let both : 2 * suc count ≡ suc (suc (2 * count)) = omega arith in
        ap (λ n. above held None (falling (2 * first) n)) both
        ∙ one_above (first + count) (2 * first + suc (2 * count)) (2 * first + 2 * count) (falling (2 * first) (2 * count)) (falling first count)
        (omega arith) (omega arith) (omega (arith, some)) (omega (arith, few))
        (head_falling (2 * count) (2 * first) (2 * (first + count)) (omega arith))
        (level_above count first some (omega (arith, few)))

    falling_apart : (more count first : ℕ) → falling first (count + more) ≡ falling (first + count) more ++ falling first count
    falling_apart zero count first = ap (falling first) (omega arith)
    falling_apart (suc more) count first =
        let one : count + suc more ≡ suc (count + more) = omega arith in
        let here : first + (count + more) ≡ first + count + more = omega arith in
        ap (falling first) one
        ∙ (λ i. cond (p (here i)) (of (here i) ∷ falling_apart more count first i) (falling_apart more count first i))
        ∙ (elim (p (first + count + more)) as (λ b. cond b (of (first + count + more) ∷ (falling (first + count) more ++ falling first count)) (falling (first + count) more ++ falling first count)
        ≡ cond b (of (first + count + more) ∷ falling (first + count) more) (falling (first + count) more) ++ falling first count) [
          | true ↦ refl
          | false ↦ refl
        ])

    top_is : top held (falling 1 1) ≡ of 1
    top_is = elim (cases_Bool (p 1)) [
      | inl fresh ↦ ap (λ b. top held (cond b (of 1 ∷ []) [])) fresh
      | inr none ↦ ap (λ b. top held (cond b (of 1 ∷ []) [])) none ∙ sym (stale 1 none)
    ]

    levels_are : (steps : ℕ) → steps ≤ depth → (level : List Renewed) → level ≡ falling (2 ^ steps) (2 ^ steps) → levels held steps level ≡ falling 2 (2 ^ (steps + 1) - 2) ++ of 1 ∷ []
    levels_are zero few level is = ap (λ l. top held l ∷ []) is ∙ ap (λ root. root ∷ []) top_is
    levels_are (suc steps) few level is =
        let half : ℕ = 2 ^ steps in
        let whole : 2 ^ suc steps ≡ 2 * half = twice steps ∙ omega arith in
        let size : 2 ^ (steps + 1) ≡ 2 * half = pow_more 2 steps ∙ omega arith in
        let some : 0 < half = some_power steps in
        let inner : half + half ≤ 2 ^ depth = omega (arith, size, pow_mono {i = steps + 1} {j = depth} (omega (arith, few))) in
        let next : above held None level ≡ falling half half =
        ap (above held None) is ∙ (λ i. above held None (falling (whole i) (whole i))) ∙ level_above half half some inner in
        let rest : ℕ = 2 ^ (steps + 1) - 2 in
        let from : 2 + rest ≡ 2 ^ suc steps = omega (arith, size, whole, some) in
        let all : rest + 2 ^ suc steps ≡ 2 ^ (suc steps + 1) - 2 = omega (arith, size, whole, some, pow_more 2 (suc steps)) in
        (λ i. is i ++ levels_are steps (omega (arith, few)) (above held None level) next i)
        ∙ sym (append_assoc (falling (2 ^ suc steps) (2 ^ suc steps)) (falling 2 rest) (of 1 ∷ []))
        ∙ ap (λ n. (falling n (2 ^ suc steps) ++ falling 2 rest) ++ of 1 ∷ []) (sym from)
        ∙ ap (λ l. l ++ of 1 ∷ []) (sym (falling_apart (2 ^ suc steps) rest 2) ∙ ap (falling 2) all)

    turned_round : (count first : ℕ) → reverse (falling first count) ≡ map of (filter p (range_with_len first count))
    turned_round zero first = refl
    turned_round (suc count) first =
        (elim (cases_Bool (p (first + count))) [
          | inl fresh ↦ ap (λ b. reverse (cond b (of (first + count) ∷ falling first count) (falling first count))) fresh
              ∙ reverse-append (of (first + count) ∷ []) (falling first count)
              ∙ ap (λ l. l ++ of (first + count) ∷ []) (turned_round count first)
              ∙ sym (map-append of (filter p (range_with_len first count)) ((first + count) ∷ []))
              ∙ ap (λ b. map of (filter p (range_with_len first count) ++ cond b ((first + count) ∷ []) [])) (sym fresh)
          | inr none ↦ ap (λ b. reverse (cond b (of (first + count) ∷ falling first count) (falling first count))) none
              ∙ turned_round count first
              ∙ ap (map of) (sym (append-nil (filter p (range_with_len first count))))
              ∙ ap (λ b. map of (filter p (range_with_len first count) ++ cond b ((first + count) ∷ []) [])) (sym none)
        ])
        ∙ ap (map of) (sym (filter-append p (range_with_len first count) ((first + count) ∷ [])))
        ∙ ap (λ ns. map of (filter p ns)) (sym (range_more count first))

    same_beyond : (count first : ℕ) → 1 < first → filter p (range_with_len first count) ≡ filter (λ v. eqb v 1 || p v) (range_with_len first count)
    same_beyond zero first more = refl
    same_beyond (suc count) first more =
        let same : (eqb first 1 || p first) ≡ p first = ap (λ b. b || p first) (ne_eqb first 1 (λ e. absurd (omega (arith, e, more)))) in
        λ i. cond (sym same i) (first ∷ same_beyond count (first + 1) (omega arith) i) (same_beyond count (first + 1) (omega arith) i)

    -- from the leaves that change hands
    pub walked : (leaves : List Renewed) → leaves ≡ reverse (map of (filter p (range_with_len (2 ^ depth) (2 ^ depth))))
        → reverse (levels held depth leaves) ≡ map of (filter (λ v. eqb v 1 || p v) (range_with_len 1 (2 ^ (depth + 1) - 1)))
    walked leaves is =
        let size : ℕ = 2 ^ depth in
        let level : leaves ≡ falling size size = is ∙ ap reverse (sym (turned_round size size)) ∙ reverse-reverse (falling size size) in
        let rest : ℕ = 2 ^ (depth + 1) - 2 in
        let all : 2 ^ (depth + 1) - 1 ≡ suc rest = omega (arith, pow_more 2 depth, some_power depth) in
        ap reverse (levels_are depth (omega arith) leaves level)
        ∙ reverse-append (falling 2 rest) (of 1 ∷ [])
        ∙ ap (λ l. of 1 ∷ l) (turned_round rest 2)
        ∙ ap (λ ns. of 1 ∷ map of ns) (same_beyond rest 2 (omega arith))
        ∙ ap (λ n. map of (filter (λ v. eqb v 1 || p v) (range_with_len 1 n))) (sym all)
