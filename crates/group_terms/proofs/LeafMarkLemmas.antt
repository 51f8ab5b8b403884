-- Marks after the mark of one leaf changed.
-- `MarkedBut v`: the marks above v alone are still wrong. `Climbs v`: marks of lower numbers, and those not above v, are as they were. Where a mark does not
-- change, those above it are as they were, and the way up may end there (`MarkedBut-settled`).
use Rattle.std.proofs.Common.{◌≡◌, ℕ, zero, suc, ◌+◌, ◌-◌, ◌*◌, ◌/◌, ◌^◌, ◌<◌, ◌≤◌, Bool, true, false, cond, eqb, ltb, None, Some, ◌||◌, ◌&&◌, List, [], ◌∷◌, ◌++◌, length, take, drop, replicate, get_or, set, sym, refl, ap, subst, ◌∙◌, arith, inl, inr}
use Rattle.std.specs.List.{count_by, list_any, position, position_or_len}
use Rattle.std.proofs.Math.Bool.{beq}
use Rattle.std.proofs.Math.Pow.{pow_mono}
use Rattle.std.proofs.lemmas.Bool.{and_right, or_cases, or_parts, or_left, or_right, eq-eqb, ne_eqb, cases_Bool, cases_eq, cases_lt, cond-true, eqb-true, lt-ltb, ltb-true, false≢true, false_from_ne_true}
use Rattle.std.proofs.lemmas.Grind.{pow_more}
use Rattle.std.proofs.lemmas.List.Folds.{list_any_at}
use Rattle.std.proofs.lemmas.List.Sums.{position_or_len_is, passes_at_first, sum_by-cons}
use Rattle.std.proofs.lemmas.List.{length-set, take_all, drop_all, append-nil, length-drop, length-replicate, get_or-drop, get_or-replicate, get_or-set_same, get_or-set_other}
use Rattle.std.proofs.lemmas.List.FromFn.{fill_by_all, get_or-map-range_with_len, length-map-range_with_len}
use Rattle.group_terms.specs.Lends.{overwritten}
use Rattle.group_terms.specs.Positions.{is_below, some_leaf_below, marks_of}
use Rattle.group_terms.proofs.BelowLemmas.{pow_pos, pow_suc, or_none, half_below, greater_not_above}
use Rattle.group_terms.proofs.MarkLemmas.{marked_below, zero_unmarked, children_marked, leaf_marked}

-- what is found below in so many steps is found in one more
below_later : (n v x : ℕ) → is_below n v x ≡ true → is_below (suc n) v x ≡ true
below_later zero v x h = or_left (eqb x v) (is_below zero v (x / 2)) h
below_later (suc n) v x h = elim (or_cases (eqb x v) (is_below n v (x / 2)) h) [
  | inl same ↦ or_left (eqb x v) (is_below (suc n) v (x / 2)) same
  | inr more ↦ or_right (eqb x v) (is_below (suc n) v (x / 2)) (below_later n v (x / 2) more)
]

-- what is neither here nor below the position above is not below at all
not_above : (n v x : ℕ) → (v ≡ x → ⊥) → is_below n v (x / 2) ≡ false → is_below n v x ≡ false
not_above zero v x other none = ne_eqb x v (λ e. other (sym e))
not_above (suc n) v x other none =
    or_none (eqb x v) (is_below n v (x / 2)) (ne_eqb x v (λ e. other (sym e)))
    (false_from_ne_true (is_below n v (x / 2)) (λ h. absurd (cc (none, below_later n v (x / 2) h))))

module _ (depth : ℕ) where
  -- a position that the changed leaf is not below has the mark that it had
  set_apart : (first : ℕ) (passes : List Bool) (i v : ℕ) (mark : Bool) → is_below depth v (first + i) ≡ false
      → marked_below depth first (set passes i mark) v ≡ marked_below depth first passes v
  set_apart first [] i v mark none = refl
  set_apart first (pass ∷ passes) zero v mark none =
      let here : is_below depth v first ≡ false = ap (is_below depth v) (omega arith) ∙ none in
      rw (and_right mark (is_below depth v first) here, and_right pass (is_below depth v first) here) refl
  set_apart first (pass ∷ passes) (suc i) v mark none =
      ap (λ more. (pass && is_below depth v first) || more)
      (set_apart (first + 1) passes i v mark (ap (is_below depth v) (omega arith) ∙ none))

-- All marks are right but those above a position.
pub record MarkedBut (depth : ℕ) (leaves : List Bool) (v : ℕ) (marks : List Bool) : Type 0 where
  pub whole : length marks ≡ 2 ^ (depth + 1)
  pub none : get_or marks 0 false ≡ false
  pub positive : 0 < v
  pub within : v < 2 ^ (depth + 1)
  pub right : (k : ℕ) → 0 < k → k < 2 ^ (depth + 1) → is_below depth k (v / 2) ≡ false → get_or marks k false ≡ some_leaf_below depth leaves k

pub get_or-marks_of : (depth : ℕ) (leaves : List Bool) (k : ℕ) → k < 2 ^ (depth + 1) → get_or (marks_of depth leaves) k false ≡ some_leaf_below depth leaves k
get_or-marks_of depth leaves k less = get_or-map-range_with_len (some_leaf_below depth leaves) 0 (2 ^ (depth + 1)) k k false less (omega arith)

pub MarkedBut-leaf : (depth : ℕ) (leaves marks : List Bool) (i : ℕ) (mark : Bool) → length leaves ≡ 2 ^ depth → i < 2 ^ depth → marks ≡ marks_of depth leaves
    → MarkedBut depth (set leaves i mark) (2 ^ depth + i) (set marks (2 ^ depth + i) mark)
MarkedBut-leaf depth leaves marks i mark same low is = record {
  whole = length-set marks (2 ^ depth + i) mark ∙ ap length is ∙ length-map-range_with_len (some_leaf_below depth leaves) 0 (2 ^ (depth + 1));
  none = get_or-set_other marks (2 ^ depth + i) 0 mark false (λ e. absurd (omega (arith, e, pow_pos depth))) ∙ ap (λ (l : List Bool). get_or l 0 false) is
      ∙ get_or-marks_of depth leaves 0 (pow_pos (depth + 1)) ∙ zero_unmarked depth (2 ^ depth) leaves (omega arith);
  positive = omega (arith, pow_pos depth);
  within = omega (arith, low, pow_more 2 depth);
  right = λ k some less apart. elim (cases_eq k (2 ^ depth + i)) [
    | inl here ↦ rw here (get_or-set_same marks (2 ^ depth + i) mark false (omega (arith, low, long, pow_more 2 depth))
        ∙ sym (get_or-set_same leaves i mark false (omega (arith, low, same)))
        ∙ sym (leaf_marked depth (2 ^ depth) (set leaves i mark) i (omega arith) (omega (arith, same, length-set leaves i mark, pow_more 2 depth)) (omega (arith, low, same, length-set leaves i mark))))
    | inr other ↦ get_or-set_other marks (2 ^ depth + i) k mark false other ∙ ap (λ (l : List Bool). get_or l k false) is ∙ get_or-marks_of depth leaves k less
        ∙ sym (set_apart depth (2 ^ depth) leaves i k mark (not_above depth k (2 ^ depth + i) other apart))
  ];
}
  where
    long : length marks ≡ 2 ^ (depth + 1)
    long = ap length is ∙ length-map-range_with_len (some_leaf_below depth leaves) 0 (2 ^ (depth + 1))

pub MarkedBut-up : (depth : ℕ) (leaves marks : List Bool) (v : ℕ) (left right : Bool) → length leaves ≡ 2 ^ depth → 1 < v
    → left ≡ get_or marks (2 * (v / 2)) false → right ≡ get_or marks (2 * (v / 2) + 1) false
    → MarkedBut depth leaves v marks → MarkedBut depth leaves (v / 2) (set marks (v / 2) (left || right))
MarkedBut-up depth leaves marks v left right same more at_left at_right h = record {
  whole = length-set marks (v / 2) (left || right) ∙ h.whole;
  none = get_or-set_other marks (v / 2) 0 (left || right) false (λ e. absurd (omega (arith, e, more))) ∙ h.none;
  positive = omega (arith, more);
  within = omega (arith, h.within);
  right = λ k some less apart. elim (cases_eq k (v / 2)) [
    | inl here ↦ rw here (get_or-set_same marks (v / 2) (left || right) false (omega (arith, h.within, h.whole))
        ∙ ap (λ b. b || right) (at_left ∙ h.right (2 * (v / 2)) (omega (arith, more)) (omega (arith, h.within, pow_more 2 depth)) (greater_not_above depth (2 * (v / 2)) (v / 2) (omega (arith, more))))
        ∙ ap (λ b. some_leaf_below depth leaves (2 * (v / 2)) || b) (at_right ∙ h.right (2 * (v / 2) + 1) (omega (arith, more)) (omega (arith, h.within, pow_more 2 depth)) (greater_not_above depth (2 * (v / 2) + 1) (v / 2) (omega (arith, more))))
        ∙ sym (children_marked depth (2 ^ depth) leaves (v / 2) (omega (arith, more)) (omega (arith, h.within, pow_more 2 depth)) (omega arith) (omega (arith, same, pow_more 2 depth))))
    | inr other ↦ get_or-set_other marks (v / 2) k (left || right) false other ∙ h.right k some less (not_above depth k (v / 2) other apart)
  ];
}

pub MarkedBut-root : (depth : ℕ) (leaves marks : List Bool) (v : ℕ) → v ≤ 1 → MarkedBut depth leaves v marks → marks ≡ marks_of depth leaves
MarkedBut-root depth leaves marks v top h =
    let nothing : v / 2 ≡ 0 = omega (arith, top) in
    fill_by_all (some_leaf_below depth leaves) marks (2 ^ (depth + 1)) false h.whole (λ k less. elim (cases_eq k 0) [
      | inl number ↦ rw number (h.none ∙ sym (zero_unmarked depth (2 ^ depth) leaves (omega arith)))
      | inr other ↦ h.right k (omega (arith, other)) less (ap (is_below depth k) nothing ∙ greater_not_above depth k 0 (omega (arith, other)))
    ])

-- On the way up from a leaf that changed: the marks of lower numbers are those of before, and what is not above a position is not above the leaf.
pub record Climbs (depth : ℕ) (before : List Bool) (leaf v : ℕ) (marks : List Bool) : Type 0 where
  pub old : (k : ℕ) → k < v → get_or marks k false ≡ some_leaf_below depth before k
  pub down : (s : ℕ) → s < 2 * v → is_below depth s v ≡ false → is_below depth s leaf ≡ false

pub Climbs-leaf : (depth : ℕ) (before marks : List Bool) (i : ℕ) (mark : Bool) → i < 2 ^ depth → marks ≡ marks_of depth before
    → Climbs depth before (2 ^ depth + i) (2 ^ depth + i) (set marks (2 ^ depth + i) mark)
Climbs-leaf depth before marks i mark low is = record {
  old = λ k less. get_or-set_other marks (2 ^ depth + i) k mark false (λ e. absurd (omega (arith, e, less))) ∙ ap (λ (l : List Bool). get_or l k false) is
      ∙ get_or-marks_of depth before k (omega (arith, less, low, pow_more 2 depth));
  down = λ s less none. none;
}

pub Climbs-up : (depth : ℕ) (before marks : List Bool) (leaf v : ℕ) (mark : Bool) → 1 < v → Climbs depth before leaf v marks
    → Climbs depth before leaf (v / 2) (set marks (v / 2) mark)
Climbs-up depth before marks leaf v mark more h = record {
  old = λ k less. get_or-set_other marks (v / 2) k mark false (λ e. absurd (omega (arith, e, less))) ∙ h.old k (omega (arith, less));
  down = λ s less none. h.down s (omega (arith, less)) (not_above depth s v (λ e. absurd (omega (arith, e, less))) none);
}

-- where one position has the mark that it had, those above it have theirs
module _ (depth : ℕ) (before : List Bool) (i : ℕ) (mark : Bool) (long : length before ≡ 2 ^ depth) where
  abbrev after : List Bool
  after = set before i mark

  same_child : (v s : ℕ) → s < 2 * v → v / 2 < s → ((s : ℕ) → s < 2 * v → is_below depth s v ≡ false → is_below depth s (2 ^ depth + i) ≡ false)
      → some_leaf_below depth after v ≡ some_leaf_below depth before v → some_leaf_below depth after s ≡ some_leaf_below depth before s
  same_child v s less from down same = elim (cases_eq s v) [
    | inl here ↦ rw here same
    | inr other ↦ set_apart depth (2 ^ depth) before i s mark (down s less (not_above depth s v other (greater_not_above depth s (v / 2) from)))
  ]

  same_above : (n v u : ℕ) → 0 < u → 0 < v → v < 2 ^ (depth + 1) → ((s : ℕ) → s < 2 * v → is_below depth s v ≡ false → is_below depth s (2 ^ depth + i) ≡ false)
      → some_leaf_below depth after v ≡ some_leaf_below depth before v → is_below n u v ≡ true → some_leaf_below depth after u ≡ some_leaf_below depth before u
  same_above zero v u some positive within down same below = let here : v ≡ u = eqb-true v u below in subst (λ w. some_leaf_below depth after w ≡ some_leaf_below depth before w) here same
  same_above (suc n) v u some positive within down same below = elim (cases_eq v u) [
    | inl here ↦ subst (λ w. some_leaf_below depth after w ≡ some_leaf_below depth before w) here same
    | inr other ↦
        let later : is_below n u (v / 2) ≡ true = elim (or_cases (eqb v u) (is_below n u (v / 2)) below) [ inl h ↦ absurd (other (eqb-true v u h)) | inr h ↦ h ] in
        elim (cases_lt 1 v) [
          | inr root ↦
              let top : v / 2 ≡ 0 = omega (arith, root) in
              absurd (false≢true (sym (ap (is_below n u) top ∙ greater_not_above n u 0 some) ∙ later))
          | inl more ↦
              let p : ℕ = v / 2 in
              let left : some_leaf_below depth after (2 * p) ≡ some_leaf_below depth before (2 * p) = same_child v (2 * p) (omega (arith, more)) (omega (arith, more)) down same in
              let right : some_leaf_below depth after (2 * p + 1) ≡ some_leaf_below depth before (2 * p + 1) = same_child v (2 * p + 1) (omega (arith, more)) (omega (arith, more)) down same in
              let inner : p < 2 ^ depth = omega (arith, within, pow_more 2 depth) in
              let here : some_leaf_below depth after p ≡ some_leaf_below depth before p =
              children_marked depth (2 ^ depth) after p (omega (arith, more)) inner (omega arith) (omega (arith, long, length-set before i mark, pow_more 2 depth))
              ∙ (λ j. left j || right j)
              ∙ sym (children_marked depth (2 ^ depth) before p (omega (arith, more)) inner (omega arith) (omega (arith, long, pow_more 2 depth))) in
              same_above n p u some (omega (arith, more)) (omega (arith, within))
              (λ s less none. down s (omega (arith, less)) (not_above depth s v (λ e. absurd (omega (arith, e, less))) none)) here later
        ]
  ]

  -- no mark above a position changes where that of the position above it does not
  pub MarkedBut-settled : (marks : List Bool) (v : ℕ) → 1 < v → MarkedBut depth after v marks → Climbs depth before (2 ^ depth + i) v marks
      → get_or marks (v / 2) false ≡ (get_or marks (2 * (v / 2)) false || get_or marks (2 * (v / 2) + 1) false) → marks ≡ marks_of depth after
  MarkedBut-settled marks v more h climbs settled =
      let p : ℕ = v / 2 in
      let mark_here : Bool = get_or marks (2 * p) false || get_or marks (2 * p + 1) false in
      let up : MarkedBut depth after p (set marks p mark_here) =
      MarkedBut-up depth after marks v (get_or marks (2 * p) false) (get_or marks (2 * p + 1) false) (length-set before i mark ∙ long) more refl refl h in
      let above : Climbs depth before (2 ^ depth + i) p (set marks p mark_here) = Climbs-up depth before marks (2 ^ depth + i) v mark_here more climbs in
      let low : p < length marks = omega (arith, h.within, h.whole) in
      let kept : (k : ℕ) → get_or (set marks p mark_here) k false ≡ get_or marks k false = λ k. elim (cases_eq k p) [
        | inl here ↦ rw here (get_or-set_same marks p mark_here false low ∙ sym settled)
        | inr other ↦ get_or-set_other marks p k mark_here false other
      ] in
      let same : some_leaf_below depth after p ≡ some_leaf_below depth before p =
      sym (up.right p up.positive up.within (greater_not_above depth p (p / 2) (omega (arith, up.positive)))) ∙ kept p ∙ climbs.old p (omega (arith, more)) in
      fill_by_all (some_leaf_below depth after) marks (2 ^ (depth + 1)) false h.whole (λ k less. elim (cases_eq k 0) [
        | inl number ↦ rw number (h.none ∙ sym (zero_unmarked depth (2 ^ depth) after (omega arith)))
        | inr other ↦
            let some : 0 < k = omega (arith, other) in
            elim (cases_Bool (is_below depth k (p / 2))) [
              | inr apart ↦ sym (kept k) ∙ up.right k some less apart
              | inl below ↦
                  let is_above : is_below (suc depth) k p ≡ true = or_right (eqb p k) (is_below depth k (p / 2)) below in
                  let lower : k < v = elim (cases_lt k v) [ inl l ↦ l | inr past ↦ absurd (false≢true (sym (greater_not_above depth k (p / 2) (omega (arith, past, more))) ∙ below)) ] in
                  climbs.old k lower ∙ sym (same_above (suc depth) p k some up.positive up.within above.down same is_above)
            ]
      ])

-- the marks of the leaves are those that are kept for their positions
pub leaves-marks_of : (depth : ℕ) (leaves : List Bool) → length leaves ≡ 2 ^ depth → drop (2 ^ depth) (marks_of depth leaves) ≡ leaves
leaves-marks_of depth leaves same =
    let marks = marks_of depth leaves in
    let long : length marks ≡ 2 ^ (depth + 1) = length-map-range_with_len (some_leaf_below depth leaves) 0 (2 ^ (depth + 1)) in
    let of_leaf : ℕ → Bool = λ k. some_leaf_below depth leaves (2 ^ depth + k) in
    fill_by_all of_leaf (drop (2 ^ depth) marks) (2 ^ depth) false (length-drop (2 ^ depth) marks ∙ omega (arith, long, pow_more 2 depth))
    (λ k less. get_or-drop (2 ^ depth) marks k false ∙ get_or-marks_of depth leaves (2 ^ depth + k) (omega (arith, less, pow_more 2 depth)))
    ∙ sym (fill_by_all of_leaf leaves (2 ^ depth) false same
    (λ k less. sym (leaf_marked depth (2 ^ depth) leaves k (omega arith) (omega (arith, same, pow_more 2 depth)) (omega (arith, same, less)))))

-- each position is below the root
below_root : (n x : ℕ) → 0 < x → x < 2 ^ (n + 1) → is_below n 1 x ≡ true
below_root zero x some less = eq-eqb x 1 (omega (arith, some, less))
below_root (suc n) x some less = elim (cases_eq x 1) [
  | inl root ↦ or_left (eqb x 1) (is_below n 1 (x / 2)) (eq-eqb x 1 root)
  | inr other ↦ or_right (eqb x 1) (is_below n 1 (x / 2)) (below_root n (x / 2) (omega (arith, some, other)) (half_below n x less))
]

pub any-marked : (depth first : ℕ) (passes : List Bool) → 0 < first → first + length passes ≤ 2 ^ (depth + 1) → marked_below depth first passes 1 ≡ list_any (λ mark. mark) passes
any-marked depth first [] some few = refl
any-marked depth first (pass ∷ passes) some few =
    rw (below_root depth first some (omega arith), any-marked depth (first + 1) passes (omega arith) (omega arith)) (passes_alone pass (list_any (λ mark. mark) passes))
  where
    passes_alone : (a more : Bool) → ((a && true) || more) ≡ (a || more)
    passes_alone true more = refl
    passes_alone false more = refl

pub long_marks : (depth : ℕ) (marks leaves : List Bool) → marks ≡ marks_of depth leaves → length marks ≡ 2 ^ (depth + 1)
long_marks depth marks leaves is = ap length is ∙ length-map-range_with_len (some_leaf_below depth leaves) 0 (2 ^ (depth + 1))

pub long_leaves : (depth : ℕ) (marks leaves : List Bool) → marks ≡ marks_of depth leaves → length (drop (2 ^ depth) marks) ≡ 2 ^ depth
long_leaves depth marks leaves is = length-drop (2 ^ depth) marks ∙ omega (arith, long_marks depth marks leaves is, pow_more 2 depth)

-- where no leaf is marked, no position is
none_below : (depth first n v : ℕ) → marked_below depth first (replicate n false) v ≡ false
none_below depth first zero v = refl
none_below depth first (suc n) v = none_below depth (first + 1) n v

pub none_marked : (depth : ℕ) (marks : List Bool) → marks ≡ replicate (2 ^ (depth + 1)) false
    → (drop (2 ^ depth) marks ≡ replicate (2 ^ depth) false) × (marks ≡ marks_of depth (drop (2 ^ depth) marks))
none_marked depth marks is =
    let none : List Bool = replicate (2 ^ depth) false in
    let all : marks ≡ marks_of depth none =
    fill_by_all (some_leaf_below depth none) marks (2 ^ (depth + 1)) false (ap length is ∙ length-replicate (2 ^ (depth + 1)) false)
    (λ k less. ap (λ (l : List Bool). get_or l k false) is ∙ get_or-replicate (2 ^ (depth + 1)) k false false less ∙ sym (none_below depth (2 ^ depth) (2 ^ depth) k)) in
    let leaves : drop (2 ^ depth) marks ≡ none = ap (drop (2 ^ depth)) all ∙ leaves-marks_of depth none (length-replicate (2 ^ depth) false) in
    (leaves, all ∙ ap (marks_of depth) (sym leaves))

-- the marks after all of them were written over
pub overwritten_whole : (depth : ℕ) (old new before after : List Bool) → old ≡ marks_of depth before → new ≡ marks_of depth after → overwritten old new ≡ marks_of depth after
overwritten_whole depth old new before after was is =
    let same : length new ≡ length old = long_marks depth new after is ∙ sym (long_marks depth old before was) in
    let nothing : drop (length new) old ≡ [] = drop_all (length new) old (omega (arith, same)) in
    ap (λ rest. take (length old) (new ++ rest)) nothing ∙ ap (take (length old)) (append-nil new) ∙ take_all (length old) new (omega (arith, same)) ∙ is

-- where no leaf below a position is marked, none of them is
unmarked_below : (depth first : ℕ) (passes : List Bool) (v i : ℕ) → marked_below depth first passes v ≡ false → is_below depth v (first + i) ≡ true → get_or passes i false ≡ false
unmarked_below depth first [] v i none below = refl
unmarked_below depth first (pass ∷ passes) v zero none below =
    let parts = or_parts (pass && is_below depth v first) (marked_below depth (first + 1) passes v) none in
    let here : is_below depth v first ≡ true = ap (is_below depth v) (omega arith) ∙ below in
    sym (and_pass pass) ∙ ap (λ b. pass && b) (sym here) ∙ parts.0
  where
    and_pass : (pass : Bool) → (pass && true) ≡ pass
    and_pass true = refl
    and_pass false = refl
unmarked_below depth first (pass ∷ passes) v (suc i) none below =
    let parts = or_parts (pass && is_below depth v first) (marked_below depth (first + 1) passes v) none in
    unmarked_below depth (first + 1) passes v i parts.1 (ap (is_below depth v) (omega arith) ∙ below)

-- the first position so many levels below v
abbrev start : ℕ → ℕ → ℕ
start zero v = v
start (suc steps) v = 2 * start steps v

start-left : (steps v : ℕ) → start steps (2 * v) ≡ start (suc steps) v
start-left zero v = refl
start-left (suc steps) v = ap (λ n. 2 * n) (start-left steps v)

start-next : (steps v : ℕ) → start steps (v + 1) ≡ start steps v + 2 ^ steps
start-next zero v = refl
start-next (suc steps) v = omega (arith, start-next steps v, pow_suc steps)

-- all from there to the first below the next position are below v
below_from_start : (steps n v x : ℕ) → steps ≤ n → start steps v ≤ x → x < start steps v + 2 ^ steps → is_below n v x ≡ true
below_from_start zero zero v x few from to = eq-eqb x v (omega (arith, from, to))
below_from_start zero (suc n) v x few from to = or_left (eqb x v) (is_below n v (x / 2)) (eq-eqb x v (omega (arith, from, to)))
below_from_start (suc steps) zero v x few from to = absurd (omega (arith, few))
below_from_start (suc steps) (suc n) v x few from to =
    or_right (eqb x v) (is_below n v (x / 2)) (below_from_start steps n v (x / 2) (omega (arith, few)) (omega (arith, from)) (omega (arith, to, pow_suc steps)))

-- the lowest marked leaf is below a position, so many levels below the root
pub record IsAbove (depth : ℕ) (leaves : List Bool) (level v : ℕ) : Type 0 where
  pub from : 2 ^ level ≤ v
  pub to : v < 2 ^ (level + 1)
  pub some : some_leaf_below depth leaves v ≡ true
  pub before : (i : ℕ) → 2 ^ depth + i < start (depth - level) v → get_or leaves i false ≡ false

start-one : (steps : ℕ) → start steps 1 ≡ 2 ^ steps
start-one zero = refl
start-one (suc steps) = omega (arith, start-one steps, pow_suc steps)

pub IsAbove-root : (depth : ℕ) (leaves : List Bool) → some_leaf_below depth leaves 1 ≡ true → IsAbove depth leaves 0 1
IsAbove-root depth leaves some =
    let all : depth - 0 ≡ depth = omega arith in
    let first : start (depth - 0) 1 ≡ 2 ^ depth = ap (λ steps. start steps 1) all ∙ start-one depth in
    record {
      from = omega arith;
      to = omega arith;
      some = some;
      before = λ i less. absurd (omega (arith, less, first));
    }

pub IsAbove-leaf : (depth : ℕ) (leaves : List Bool) (v : ℕ) → length leaves ≡ 2 ^ depth → IsAbove depth leaves depth v → Some (v - 2 ^ depth) ≡ position (λ mark. mark) leaves
IsAbove-leaf depth leaves v same h =
    let none : depth - depth ≡ 0 = omega arith in
    let first : start (depth - depth) v ≡ v = ap (λ steps. start steps v) none in
    let here : get_or leaves (v - 2 ^ depth) false ≡ true =
    sym (leaf_marked depth (2 ^ depth) leaves (v - 2 ^ depth) (omega arith) (omega (arith, same, pow_more 2 depth)) (omega (arith, same, h.from, h.to, pow_more 2 depth)))
    ∙ ap (some_leaf_below depth leaves) (omega (arith, h.from)) ∙ h.some in
    let place : position_or_len (λ mark. mark) leaves ≡ v - 2 ^ depth =
    position_or_len_is (λ mark. mark) leaves (v - 2 ^ depth) false (omega (arith, same, h.from, h.to, pow_more 2 depth))
    (λ i less. h.before i (omega (arith, first, less, h.from))) (λ _. here) in
    ap Some (sym place)
    ∙ sym (cond-true (ltb (position_or_len (λ mark. mark) leaves) (length leaves)) (Some (position_or_len (λ mark. mark) leaves)) None
    (lt-ltb (position_or_len (λ mark. mark) leaves) (length leaves) (omega (arith, place, same, h.from, h.to, pow_more 2 depth))))

pub IsAbove-lower : (depth : ℕ) (leaves : List Bool) (level v : ℕ) (left : Bool) → length leaves ≡ 2 ^ depth → level < depth
    → left ≡ some_leaf_below depth leaves (2 * v) → IsAbove depth leaves level v → IsAbove depth leaves (level + 1) (cond left (2 * v) (2 * v + 1))
IsAbove-lower depth leaves level v true same less is h =
    let more : depth - level ≡ suc (depth - (level + 1)) = omega (arith, less) in
    let first : start (depth - (level + 1)) (2 * v) ≡ start (depth - level) v = start-left (depth - (level + 1)) v ∙ ap (λ steps. start steps v) (sym more) in
    record {
      from = omega (arith, h.from, pow_more 2 level);
      to = omega (arith, h.to, pow_more 2 (level + 1));
      some = sym is;
      before = λ i low. h.before i (omega (arith, low, first));
    }
IsAbove-lower depth leaves level v false same less is h =
    let steps = depth - (level + 1) in
    let more : depth - level ≡ suc steps = omega (arith, less) in
    let first : start steps (2 * v) ≡ start (depth - level) v = start-left steps v ∙ ap (λ n. start n v) (sym more) in
    let inner : v < 2 ^ depth = omega (arith, h.to, pow_mono {i = level + 1} {j = depth} (omega (arith, less))) in
    record {
      from = omega (arith, h.from, pow_more 2 level);
      to = omega (arith, h.to, pow_more 2 (level + 1));
      some = ap (λ b. b || some_leaf_below depth leaves (2 * v + 1)) is
          ∙ sym (children_marked depth (2 ^ depth) leaves v (omega (arith, h.from, pow_pos level)) inner (omega arith) (omega (arith, same, pow_more 2 depth))) ∙ h.some;
      before = λ i low. elim (cases_lt (2 ^ depth + i) (start steps (2 * v))) [
        | inl earlier ↦ h.before i (omega (arith, earlier, first))
        | inr from ↦ unmarked_below depth (2 ^ depth) leaves (2 * v) i (sym is) (below_from_start steps depth (2 * v) (2 ^ depth + i) (omega arith) from (omega (arith, low, start-next steps (2 * v))))
      ];
    }

counted_first : (leaf : Bool) (leaves : List Bool) → count_by (λ b. b) (leaf ∷ leaves) ≡ cond {A = ℕ} leaf 1 0 + count_by (λ b. b) leaves
counted_first leaf leaves = sum_by-cons (λ b. cond {A = ℕ} b 1 0) leaf leaves

pub count_by-set : (leaves : List Bool) (i : ℕ) (mark : Bool) → i < length leaves
    → count_by (λ b. b) (set leaves i mark) + cond {A = ℕ} (get_or leaves i false) 1 0 ≡ count_by (λ b. b) leaves + cond {A = ℕ} mark 1 0
count_by-set [] i mark low = absurd (omega (arith, low))
count_by-set (leaf ∷ leaves) zero mark low = omega (arith, counted_first leaf leaves, counted_first mark leaves)
count_by-set (leaf ∷ leaves) (suc i) mark low =
    omega (arith, counted_first leaf leaves, counted_first leaf (set leaves i mark), count_by-set leaves i mark (omega (arith, low)))

pub none_counted : (n : ℕ) → count_by (λ b. b) (replicate n false) ≡ 0
none_counted zero = refl
none_counted (suc n) = omega (arith, counted_first false (replicate n false), none_counted n)

pub some_counted : (leaves : List Bool) (i : ℕ) → i < length leaves → get_or leaves i false ≡ true → 0 < count_by (λ b. b) leaves
some_counted leaves i low here =
    let one : cond {A = ℕ} (get_or leaves i false) 1 0 ≡ 1 = ap (λ b. cond {A = ℕ} b 1 0) here in
    omega (arith, count_by-set leaves i false low, one)

-- where no leaf is marked, none is the lowest
pub none_lowest : (leaves : List Bool) → list_any (λ mark. mark) leaves ≡ false → position (λ mark. mark) leaves ≡ None
none_lowest leaves none = elim (cases_Bool (ltb (position_or_len (λ mark. mark) leaves) (length leaves))) [
  | inr past ↦ ap (λ b. cond b (Some (position_or_len (λ mark. mark) leaves)) None) past
  | inl found ↦ (
      let low : position_or_len (λ mark. mark) leaves < length leaves = ltb-true (position_or_len (λ mark. mark) leaves) (length leaves) found in
      absurd (false≢true (sym none ∙ list_any_at (λ mark. mark) leaves (position_or_len (λ mark. mark) leaves) false low (passes_at_first (λ mark. mark) leaves false low)))
      )
]

pub few_leaves : (depth : ℕ) → depth ≤ 9 → 2 ^ depth ≤ 512
few_leaves depth low = pow_mono {i = depth} {j = 9} low

pub root_any : (depth : ℕ) (marks : List Bool) → marks ≡ marks_of depth (drop (2 ^ depth) marks) → get_or marks 1 false ≡ list_any (λ mark. mark) (drop (2 ^ depth) marks)
root_any depth marks is =
    let leaves : List Bool = drop (2 ^ depth) marks in
    ap (λ (l : List Bool). get_or l 1 false) is ∙ get_or-marks_of depth leaves 1 (omega (arith, pow_more 2 depth, pow_pos depth))
    ∙ any-marked depth (2 ^ depth) leaves (pow_pos depth) (omega (arith, long_leaves depth marks leaves is, pow_more 2 depth))

pub beq-same : (a b : Bool) → beq a b ≡ true → a ≡ b
beq-same true true h = refl
beq-same true false h = absurd (false≢true h)
beq-same false true h = absurd (false≢true h)
beq-same false false h = refl
