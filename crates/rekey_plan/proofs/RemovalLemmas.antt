-- Where one leaf changes hands and somebody stays at each other one, two keys are sent for each position above that leaf, but one for the lowest.
use Rattle.std.proofs.Common.{◌≡◌, ℕ, zero, suc, ◌+◌, ◌-◌, ◌*◌, ◌/◌, ◌^◌, ◌<◌, ◌≤◌, Bool, true, false, cond, not, eqb, ◌&&◌, ◌||◌, List, [], ◌∷◌}
use Rattle.std.proofs.Common.{length, map, get_or, refl, sym, ap, ◌∙◌, subst, arith, inl, inr}
use Rattle.std.specs.List.{enumerate_from, filter, flat_map, list_any}
use Rattle.std.proofs.lemmas.Bool.{and_from, cases_Bool, cases_eq, cases_lt, eq-eqb, eqb-true, false_from_ne_true, false≢true, ne_eqb, or_cases}
use Rattle.std.proofs.lemmas.Bool.{or_left, or_right}
use Rattle.std.proofs.lemmas.List.{get_or_past, length-append, length-map}
use Rattle.std.proofs.lemmas.List.Folds.{list_any_at}
use Rattle.std.proofs.lemmas.List.FromFn.{length-enumerate_from, get_or-enumerate_from}
use Rattle.group_terms.specs.Positions.{is_below, some_leaf_below}
use Rattle.group_terms.specs.declared.keys.Wrap.{Wrap}
use Rattle.group_model.specs.Wraps.{falling}
use Rattle.key_tree.proofs.DrawLemmas.{pow_some}
use Rattle.key_tree.proofs.FewLemmas.{marked_way}
use Rattle.rekey_plan.proofs.FreshLemmas.{Falls, Falls-halves, Falls-weaker, below_is, filter_falling, halves, length-halves, past_all, root_above}
use Rattle.group_model.proofs.PathLemmas.{twice}

-- where two are sent for each
two_for_each : (f : ℕ → List Wrap) (bound : ℕ) → ((v : ℕ) → 0 < v → v ≤ bound → length (f v) ≡ 2) → (xs : List ℕ) → Falls bound xs
    → length (flat_map f xs) ≡ 2 * length xs
two_for_each f bound each [] h = refl
two_for_each f bound each (x ∷ xs) h =
    let later : length (flat_map f xs) ≡ 2 * length xs = two_for_each f bound each xs (Falls-weaker (x - 1) bound xs (omega (arith, h.1)) h.2) in
    omega (arith, length-append (f x) (flat_map f xs), each x h.0 h.1, later)

pub two_pass : (p : ℕ → Bool) (f : ℕ → Wrap) (a b : ℕ) → length (map f (filter p (a ∷ b ∷ []))) ≡ cond (p a) 1 0 + cond (p b) 1 0
two_pass p f a b = length-map (filter p (a ∷ b ∷ [])) f ∙ by (p a) (p b)
  where
    by : (first second : Bool) → length (cond first (a ∷ cond second (b ∷ []) []) (cond second (b ∷ []) [])) ≡ cond first 1 0 + cond second 1 0
    by true true = refl
    by true false = refl
    by false true = refl
    by false false = refl

-- a leaf that is marked marks what is above it
marked : (depth : ℕ) (leaves : List Bool) (v i : ℕ) → i < length leaves → get_or leaves i false ≡ true → is_below depth v (2 ^ depth + i) ≡ true
    → some_leaf_below depth leaves v ≡ true
marked depth leaves v i low mark below =
    list_any_at (λ (leaf : ℕ × Bool). leaf.1 && is_below depth v leaf.0) (enumerate_from (2 ^ depth) leaves) i (0, false)
    (omega (arith, low, length-enumerate_from (2 ^ depth) leaves))
    (ap (λ (leaf : ℕ × Bool). leaf.1 && is_below depth v leaf.0) (get_or-enumerate_from (2 ^ depth) leaves i (0, false) low)
    ∙ and_from (get_or leaves i false) (is_below depth v (2 ^ depth + i)) mark below)

-- One leaf changed hands, and at each other one somebody stayed.
pub record IsAlone (depth place : ℕ) (changed kept : List Bool) : Type 0 where
  pub low : place < 2 ^ depth
  pub long_changed : length changed ≡ 2 ^ depth
  pub long_kept : length kept ≡ 2 ^ depth
  pub changes : (i : ℕ) → i < 2 ^ depth → get_or changed i false ≡ eqb i place
  pub keeps : (i : ℕ) → i < 2 ^ depth → get_or kept i false ≡ not (eqb i place)

-- An inner position is above a marked leaf where one of its children is.
abbrev pub ByChildren : ℕ → Type 0
ByChildren depth =
    (leaves : List Bool) (v : ℕ) → length leaves ≡ 2 ^ depth → 0 < v → v < 2 ^ depth
    → some_leaf_below depth leaves v ≡ (some_leaf_below depth leaves (2 * v) || some_leaf_below depth leaves (2 * v + 1))

-- and then somebody stayed
pub somebody_else : (steps place : ℕ) (changed kept : List Bool) → IsAlone (suc steps) place changed kept → list_any (λ mark. mark) kept ≡ true
somebody_else steps place changed kept alone = elim (cases_eq place 0) [
  | inl first ↦ at 1 (λ e. absurd (omega (arith, e, first))) (omega (arith, twice steps, pow_some steps))
  | inr later ↦ at 0 (λ e. absurd (omega (arith, e, later))) (pow_some (suc steps))
]
  where
    at : (i : ℕ) → (i ≡ place → ⊥) → i < 2 ^ suc steps → list_any (λ mark. mark) kept ≡ true
    at i other low = list_any_at (λ mark. mark) kept i false (omega (arith, low, alone.long_kept)) (alone.keeps i low ∙ ap not (ne_eqb i place other))

module _ (steps place : ℕ) (changed kept : List Bool) (alone : IsAlone (suc steps) place changed kept) where
  abbrev depth : ℕ
  depth = suc steps

  abbrev leaf : ℕ
  leaf = 2 ^ depth + place

  leaf_low : leaf < 2 ^ suc depth
  leaf_low = omega (arith, alone.low, twice depth)

  only_change : (i : ℕ) → get_or changed i false ≡ true → i ≡ place
  only_change i mark = elim (cases_lt i (2 ^ depth)) [
    | inl low ↦ eqb-true i place (sym (alone.changes i low) ∙ mark)
    | inr past ↦ absurd (false≢true (sym (get_or_past changed i false (omega (arith, past, alone.long_changed))) ∙ mark))
  ]

  above_if_fresh : (v : ℕ) → v ≤ 2 ^ depth - 1 → (eqb v 1 || some_leaf_below depth changed v) ≡ true → list_any (eqb v) (halves depth leaf) ≡ true
  above_if_fresh v inner fresh = elim (or_cases (eqb v 1) (some_leaf_below depth changed v) fresh) [
    | inl root ↦ subst (λ w. list_any (eqb w) (halves depth leaf) ≡ true) (sym (eqb-true v 1 root)) (root_above steps leaf (omega arith) leaf_low)
    | inr below ↦ marked_way depth v (2 ^ depth) changed (halves depth leaf) (λ i mark at.
        ap (λ b. b || list_any (eqb v) (halves depth leaf)) (sym (ne_eqb leaf v (λ e. absurd (omega (arith, e, inner, pow_some depth)))))
        ∙ sym (below_is depth v leaf) ∙ subst (λ k. is_below depth v (2 ^ depth + k) ≡ true) (only_change i mark) at) below
  ]

  -- the fresh positions are those above the leaf
  fresh_are : filter (λ v. eqb v 1 || some_leaf_below depth changed v) (falling (2 ^ depth - 1)) ≡ halves depth leaf
  fresh_are =
      filter_falling (λ v. eqb v 1 || some_leaf_below depth changed v) (2 ^ depth - 1) (halves depth leaf) (Falls-halves depth leaf (omega arith) leaf_low)
      (λ v _ inner. elim (cases_Bool (list_any (eqb v) (halves depth leaf))) [
        | inl above ↦ or_right _ _ (marked depth changed v place (omega (arith, alone.low, alone.long_changed))
            (alone.changes place alone.low ∙ eq-eqb place place refl) (below_is depth v leaf ∙ or_right _ _ above)) ∙ sym above
        | inr none ↦ false_from_ne_true _ (λ fresh. false≢true (sym none ∙ above_if_fresh v inner fresh)) ∙ sym none
      ])

  abbrev stays : ℕ → Bool
  stays = some_leaf_below depth kept

  leaf_stays : (x : ℕ) → 2 ^ depth ≤ x → x < 2 ^ suc depth → (x ≡ leaf → ⊥) → stays x ≡ true
  leaf_stays x from to other =
      let i : ℕ = x - 2 ^ depth in
      let same : 2 ^ depth + i ≡ x = omega (arith, from) in
      let low : i < 2 ^ depth = omega (arith, from, to, twice depth) in
      marked depth kept x i (omega (arith, low, alone.long_kept)) (alone.keeps i low ∙ ap not (ne_eqb i place (λ e. other (omega (arith, e, same)))))
      (subst (λ y. is_below depth x y ≡ true) (sym same) (below_is depth x x ∙ or_left _ _ (eq-eqb x x refl)))

  leaf_goes : stays leaf ≡ false
  leaf_goes = false_from_ne_true (stays leaf) (λ mark. false≢true (marked_way depth leaf (2 ^ depth) kept [] none mark))
    where
      none : (i : ℕ) → get_or kept i false ≡ true → is_below depth leaf (2 ^ depth + i) ≡ true → false ≡ true
      none i mark at = elim (cases_lt i (2 ^ depth)) [
        | inr past ↦ sym (get_or_past kept i false (omega (arith, past, alone.long_kept))) ∙ mark
        | inl low ↦ elim (or_cases (eqb (2 ^ depth + i) leaf) (list_any (eqb leaf) (halves depth (2 ^ depth + i)))
            (sym (below_is depth leaf (2 ^ depth + i)) ∙ at)) [
              | inl here ↦ (
                  let same : i ≡ place = omega (arith, eqb-true (2 ^ depth + i) leaf here) in
                  sym (ap not (eq-eqb i place same)) ∙ sym (alone.keeps i low) ∙ mark
                  )
              | inr above ↦
                  sym (past_all (2 ^ depth - 1) leaf (halves depth (2 ^ depth + i)) (omega (arith, pow_some depth))
                  (Falls-halves depth (2 ^ depth + i) (omega arith) (omega (arith, low, twice depth)))) ∙ above
            ]
      ]

  module _ (child : ByChildren (suc steps)) (wrap : ℕ → ℕ → Wrap) where
    -- below an inner position somebody stayed, since there are two leaves at least
    inner_stays : (more v : ℕ) → 0 < v → v < 2 ^ depth → 2 ^ depth ≤ v + more → stays v ≡ true
    inner_stays zero v some inner enough = absurd (omega (arith, inner, enough))
    inner_stays (suc more) v some inner enough = child kept v alone.long_kept some inner ∙ elim (cases_lt (2 * v) (2 ^ depth)) [
      | inl left ↦ or_left _ _ (inner_stays more (2 * v) (omega (arith, some)) left (omega (arith, some, enough)))
      | inr past ↦ elim (cases_eq (2 * v) leaf) [
        | inr other ↦ or_left _ _ (leaf_stays (2 * v) past (omega (arith, inner, twice depth)) other)
        | inl here ↦ or_right _ _ (leaf_stays (2 * v + 1) (omega (arith, past)) (omega (arith, inner, twice depth)) (λ e. absurd (omega (arith, e, here))))
      ]
    ]

    abbrev sent_from : ℕ → List Wrap
    sent_from v = map (wrap v) (filter stays (2 * v ∷ (2 * v + 1) ∷ []))

    by_children : (v : ℕ) (left right : Bool) → stays (2 * v) ≡ left → stays (2 * v + 1) ≡ right → length (sent_from v) ≡ cond left 1 0 + cond right 1 0
    by_children v left right first second = two_pass stays (wrap v) (2 * v) (2 * v + 1) ∙ (λ i. cond {A = ℕ} (first i) 1 0 + cond {A = ℕ} (second i) 1 0)

    one_lowest : length (sent_from (leaf / 2)) ≡ 1
    one_lowest =
        let v : ℕ = leaf / 2 in
        let low : v < 2 ^ depth = omega (arith, leaf_low, twice depth) in
        let high : 2 ^ steps ≤ v = omega (arith, twice steps) in
        elim (cases_eq leaf (2 * v)) [
          | inl left ↦ by_children v false true (ap stays (sym left) ∙ leaf_goes)
              (leaf_stays (2 * v + 1) (omega (arith, high, twice steps)) (omega (arith, low, twice depth)) (λ e. absurd (omega (arith, e, left))))
          | inr other ↦ (
              let right : leaf ≡ 2 * v + 1 = omega (arith, other) in
              by_children v true false
              (leaf_stays (2 * v) (omega (arith, high, twice steps)) (omega (arith, low, twice depth)) (λ e. other (sym e)))
              (ap stays (sym right) ∙ leaf_goes)
              )
        ]

    two_above : (v : ℕ) → 0 < v → v ≤ 2 ^ steps - 1 → length (sent_from v) ≡ 2
    two_above v some high =
        by_children v true true (inner_stays (2 ^ depth) (2 * v) (omega (arith, some)) (omega (arith, some, high, twice steps)) (omega arith))
        (inner_stays (2 ^ depth) (2 * v + 1) (omega arith) (omega (arith, some, high, twice steps)) (omega arith))

    pub sent_alone : length (flat_map sent_from (filter (λ v. eqb v 1 || some_leaf_below depth changed v) (falling (2 ^ depth - 1)))) ≡ 2 * suc steps - 1
    sent_alone =
        let rest : List ℕ = halves steps (leaf / 2) in
        let falls : Falls (2 ^ steps - 1) rest = Falls-halves steps (leaf / 2) (omega (arith, twice steps)) (omega (arith, leaf_low, twice depth)) in
        let all : length (flat_map sent_from (halves depth leaf)) ≡ length (sent_from (leaf / 2)) + length (flat_map sent_from rest) =
        length-append (sent_from (leaf / 2)) (flat_map sent_from rest) in
        ap (λ vs. length (flat_map sent_from vs)) fresh_are
        ∙ omega (arith, all, one_lowest, two_for_each sent_from (2 ^ steps - 1) two_above rest falls, length-halves steps (leaf / 2))
