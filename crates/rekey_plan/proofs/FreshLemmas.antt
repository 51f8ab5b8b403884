-- A batch renews the root, and at most the positions between it and one leaf for each change.
use Rattle.std.proofs.Common.{◌≡◌, ℕ, zero, suc, ◌+◌, ◌-◌, ◌*◌, ◌/◌, ◌^◌, ◌<◌, ◌≤◌, Bool, true, false, cond, eqb, ltb, ◌||◌, List, [], ◌∷◌}
use Rattle.std.proofs.Common.{Some, None, length, set, refl, sym, ap, ◌∙◌, subst, arith, inl, inr}
use Rattle.std.specs.Prelude.{is_none}
use Rattle.std.specs.List.{AllByRecursion, IsDistinct, cons_option, filter, fold, list_any, position_or_len}
use Rattle.std.specs.Option.{option_map}
use Rattle.std.proofs.Math.Bool.{or-false}
use Rattle.std.proofs.Math.Nat.{mul-le-mul_left}
use Rattle.std.proofs.lemmas.Bool.{cases_Bool, cases_eq, eq-eqb, eqb-true, false≢true, ltb-false, ne_eqb, or_cases, or_from}
use Rattle.std.proofs.lemmas.Bool.{or_left, or_right}
use Rattle.std.proofs.lemmas.Cmp.{nat_eq_equiv}
use Rattle.std.proofs.lemmas.List.{set_past}
use Rattle.std.proofs.lemmas.List.Sums.{fold-append}
use Rattle.std.proofs.lemmas.Map.Made.{length-le_from_is_member}
use Rattle.group_terms.specs.Changes.{leavers, joiners}
use Rattle.group_terms.specs.Names.{Name}
use Rattle.group_terms.specs.Positions.{is_below, some_leaf_below}
use Rattle.group_terms.specs.declared.changes.Change.{Change}
use Rattle.key_tree.specs.declared.marks.Seat.{Seat}
use Rattle.group_model.specs.Fresh.{changed_leaves, is_fresh}
use Rattle.group_model.specs.Places.{Holders, holders_after, placed}
use Rattle.key_tree.specs.Private.Seats.{placements, seats_of, vacancies}
use Rattle.group_model.specs.Indexes.{AreOnce}
use Rattle.key_tree.specs.Marks.{seated}
use Rattle.group_model.specs.Wraps.{falling}
use Rattle.key_tree.proofs.DrawLemmas.{pow_some}
use Rattle.key_tree.proofs.FewLemmas.{changed_way, length-ways, marked_way, seats_few, ways}
use Rattle.group_model.proofs.PathLemmas.{twice}
use Rattle.key_tree.proofs.SeatLemmas.{vacated_all}

-- the positions above x, so many
abbrev pub halves : ℕ → ℕ → List ℕ
halves zero x = []
halves (suc steps) x = x / 2 ∷ halves steps (x / 2)

pub length-halves : (steps x : ℕ) → length (halves steps x) ≡ steps
length-halves zero x = refl
length-halves (suc steps) x = omega (arith, length-halves steps (x / 2))

-- x stands below v where it is v, or v is one of those above it
pub below_is : (steps v x : ℕ) → is_below steps v x ≡ (eqb x v || list_any (eqb v) (halves steps x))
below_is zero v x = sym (or-false (eqb x v))
below_is (suc steps) v x =
    ap (λ b. eqb x v || b) (below_is steps v (x / 2) ∙ ap (λ b. b || list_any (eqb v) (halves steps (x / 2))) (nat_eq_equiv.symm (x / 2) v))

-- the last of them is the root
below_root : (steps v x : ℕ) → 1 < v → x < 2 ^ suc (suc steps) → list_any (eqb v) (halves (suc steps) x) ≡ true → list_any (eqb v) (halves steps x) ≡ true
below_root zero v x more low h = elim (or_cases (eqb v (x / 2)) false h) [
  | inl here ↦ (let same : v ≡ x / 2 = eqb-true v (x / 2) here in absurd (omega (arith, same, more, low)))
  | inr none ↦ absurd (false≢true none)
]
below_root (suc steps) v x more low h = elim (or_cases (eqb v (x / 2)) (list_any (eqb v) (halves (suc steps) (x / 2))) h) [
  | inl here ↦ or_left _ _ here
  | inr above ↦ or_right _ _ (below_root steps v (x / 2) more (omega (arith, low, twice (suc (suc steps)))) above)
]

-- positions that fall, none above a bound
abbrev pub Falls : ℕ → List ℕ → Type 0
Falls bound [] = Unit {0}
Falls bound (x ∷ xs) = (0 < x) × (x ≤ bound) × Falls (x - 1) xs

pub Falls-weaker : (low high : ℕ) (xs : List ℕ) → low ≤ high → Falls low xs → Falls high xs
Falls-weaker low high [] less h = tt
Falls-weaker low high (x ∷ xs) less h = (h.0, omega (arith, h.1, less), h.2)

pub past_all : (bound v : ℕ) (xs : List ℕ) → bound < v → Falls bound xs → list_any (eqb v) xs ≡ false
past_all bound v [] past h = refl
past_all bound v (x ∷ xs) past h =
    or_from _ _ (ne_eqb v x (λ e. absurd (omega (arith, e, h.1, past)))) (past_all (x - 1) v xs (omega (arith, h.1, past)) h.2)

pub Falls-halves : (steps x : ℕ) → 2 ^ steps ≤ x → x < 2 ^ suc steps → Falls (2 ^ steps - 1) (halves steps x)
Falls-halves zero x from to = tt
Falls-halves (suc steps) x from to =
    let low : 2 ^ steps ≤ x / 2 = omega (arith, from, twice steps) in
    let high : x / 2 < 2 ^ suc steps = omega (arith, to, twice (suc steps)) in
    let rest = Falls-weaker (2 ^ steps - 1) (x / 2 - 1) (halves steps (x / 2)) (omega (arith, low)) (Falls-halves steps (x / 2) low high) in
    (omega (arith, low, pow_some steps), omega (arith, high), rest)

pub root_above : (steps x : ℕ) → 2 ^ suc steps ≤ x → x < 2 ^ suc (suc steps) → list_any (eqb 1) (halves (suc steps) x) ≡ true
root_above zero x from to = or_left _ _ (eq-eqb 1 (x / 2) (omega (arith, from, to)))
root_above (suc steps) x from to =
    or_right _ _ (root_above steps (x / 2) (omega (arith, from, twice (suc steps))) (omega (arith, to, twice (suc (suc steps)))))

-- of the numbers down from n those pass that are among some that fall: they are these
pub filter_falling : (p : ℕ → Bool) (n : ℕ) (xs : List ℕ) → Falls n xs → ((v : ℕ) → 0 < v → v ≤ n → p v ≡ list_any (eqb v) xs)
    → filter p (falling n) ≡ xs
filter_falling p zero [] falls same = refl
filter_falling p zero (x ∷ xs) falls same = absurd (omega (arith, falls.0, falls.1))
filter_falling p (suc n) [] falls same =
    ap (λ b. cond b (suc n ∷ filter p (falling n)) (filter p (falling n))) (same (suc n) (omega arith) (omega arith))
    ∙ filter_falling p n [] tt (λ v some low. same v some (omega (arith, low)))
filter_falling p (suc n) (x ∷ xs) falls same = elim (cases_eq (suc n) x) [
  | inl here ↦ (
      let rest : filter p (falling n) ≡ xs =
      filter_falling p n xs (Falls-weaker (x - 1) n xs (omega (arith, here)) falls.2)
      (λ v some low. same v some (omega (arith, low)) ∙ ap (λ b. b || list_any (eqb v) xs) (ne_eqb v x (λ e. absurd (omega (arith, e, here, low))))) in
      ap (λ b. cond b (suc n ∷ filter p (falling n)) (filter p (falling n)))
      (same (suc n) (omega arith) (omega arith) ∙ or_left _ _ (eq-eqb (suc n) x here))
      ∙ (λ i. here i ∷ rest i)
      )
  | inr other ↦ (
      let lower : Falls n (x ∷ xs) = (falls.0, omega (arith, other, falls.1), falls.2) in
      ap (λ b. cond b (suc n ∷ filter p (falling n)) (filter p (falling n)))
      (same (suc n) (omega arith) (omega arith) ∙ past_all n (suc n) (x ∷ xs) (omega arith) lower)
      ∙ filter_falling p n (x ∷ xs) lower (λ v some low. same v some (omega (arith, low)))
      )
]

-- of the numbers down from n no one that passes comes twice
module _ (p : ℕ → Bool) where
  -- those from n + 1 down, where it is known of that number whether it passes
  abbrev down : Bool → ℕ → List ℕ
  down first n = cond first (suc n ∷ filter p (falling n)) (filter p (falling n))

  none_lower : (n v : ℕ) → n < v → AllByRecursion (λ w. eqb v w ≡ false) (filter p (falling n))
  none_lower zero v less = tt
  none_lower (suc n) v less = elim (p (suc n)) as (λ b. AllByRecursion (λ w. eqb v w ≡ false) (down b n)) [
    | true ↦ (ne_eqb v (suc n) (λ e. absurd (omega (arith, e, less))), none_lower n v (omega (arith, less)))
    | false ↦ none_lower n v (omega (arith, less))
  ]

  distinct_down : (n : ℕ) → IsDistinct eqb (filter p (falling n))
  unfolding IsDistinct
  distinct_down zero = tt
  distinct_down (suc n) = elim (p (suc n)) as (λ b. IsDistinct eqb (down b n)) [
    | true ↦ (none_lower n (suc n) (omega arith), distinct_down n)
    | false ↦ distinct_down n
  ]

  passes_down : (n v : ℕ) → list_any (eqb v) (filter p (falling n)) ≡ true → (0 < v) × (v ≤ n) × (p v ≡ true)
  passes_down zero v h = absurd (false≢true h)
  passes_down (suc n) v h = elim (cases_Bool (p (suc n))) [
    | inl passes ↦ elim (or_cases (eqb v (suc n)) (list_any (eqb v) (filter p (falling n))) (subst (λ b. list_any (eqb v) (down b n) ≡ true) passes h)) [
      | inl here ↦ (let same : v ≡ suc n = eqb-true v (suc n) here in (omega (arith, same), omega (arith, same), ap p same ∙ passes))
      | inr lower ↦ (let found = passes_down n v lower in (found.0, omega (arith, found.1), found.2))
    ]
    | inr fails ↦ (
        let found = passes_down n v (subst (λ b. list_any (eqb v) (down b n) ≡ true) fails h) in
        (found.0, omega (arith, found.1), found.2)
        )
  ]

-- the leaves that names get one after the other, seat by seat
seated_placements : (now : Holders) (names : List Name) → seated now (placements now names) ≡ fold placed now names
seated_placements now [] = refl
seated_placements now (m ∷ names) =
    let place : ℕ = position_or_len is_none now in
    let rest : List Seat = placements (placed now m) names in
    let later : seated (placed now m) rest ≡ fold placed (placed now m) names = seated_placements (placed now m) names in
    elim (cases_Bool (ltb place (length now))) [
      | inl found ↦ ap (λ b. seated now (cons_option (option_map (λ i. record { place = i; holder = Some m }) (cond b (Some place) None)) rest)) found ∙ later
      | inr none ↦ ap (λ b. seated now (cons_option (option_map (λ i. record { place = i; holder = Some m }) (cond b (Some place) None)) rest)) none
          ∙ ap (λ start. seated start rest) (sym (set_past now place (Some m) (ltb-false place (length now) none))) ∙ later
    ]

seated_batch : (before : Holders) (batch : List Change) → AreOnce before → seated before (seats_of before batch) ≡ holders_after before batch
unfolding holders_after
seated_batch before batch once =
    let left : List Seat = vacancies before (leavers batch) in
    fold-append (λ now (seat : Seat). set now seat.place seat.holder) before left (placements (seated before left) (joiners batch))
    ∙ seated_placements (seated before left) (joiners batch)
    ∙ ap (λ now. fold placed now (joiners batch)) (vacated_all before once (leavers batch))

-- a batch renews the root, and for each change at most the positions between it and a leaf
few_seated : (depth : ℕ) (before : Holders) (batch : List Change) (seats : List Seat) → seats ≡ seats_of before batch → length before ≡ 2 ^ depth
    → length (filter (is_fresh depth before (seated before seats)) (falling (2 ^ depth - 1))) ≤ (depth - 1) * length batch + 1
few_seated zero before batch seats is long = omega arith
few_seated (suc steps) before batch seats is long =
    let depth : ℕ = suc steps in
    let leaves : List Bool = changed_leaves before (seated before seats) in
    let renewed : List ℕ = filter (is_fresh depth before (seated before seats)) (falling (2 ^ depth - 1)) in
    let between : List ℕ = ways (halves steps) depth seats in
    let up : (v : ℕ) → 1 < v → v ≤ 2 ^ depth - 1 → (i : ℕ) → i < 2 ^ depth → is_below depth v (2 ^ depth + i) ≡ true
    → list_any (eqb v) (halves steps (2 ^ depth + i)) ≡ true = λ v more inner i low below.
    below_root steps v (2 ^ depth + i) more (omega (arith, low, twice depth))
    (ap (λ b. b || list_any (eqb v) (halves depth (2 ^ depth + i))) (sym (ne_eqb (2 ^ depth + i) v (λ e. absurd (omega (arith, e, inner, more)))))
    ∙ sym (below_is depth v (2 ^ depth + i)) ∙ below) in
    let among : (v : ℕ) → list_any (eqb v) renewed ≡ true → list_any (eqb v) (1 ∷ between) ≡ true = λ v h.
    let found = passes_down (is_fresh depth before (seated before seats)) (2 ^ depth - 1) v h in
    elim (cases_eq v 1) [
      | inl root ↦ or_left _ _ (eq-eqb v 1 root)
      | inr other ↦ elim (or_cases (eqb v 1) (some_leaf_below depth leaves v) found.2) [
        | inl root ↦ or_left _ _ root
        | inr below ↦ or_right _ _ (marked_way depth v (2 ^ depth) leaves between
            (changed_way depth v (2 ^ depth) (halves steps) (up v (omega (arith, other, found.0)) found.1) before seats long) below)
      ]
    ] in
    let within : length renewed ≤ length (1 ∷ between) =
    length-le_from_is_member nat_eq_equiv renewed (1 ∷ between) (distinct_down (is_fresh depth before (seated before seats)) (2 ^ depth - 1)) among in
    let few : length seats ≤ length batch = omega (arith, ap length is, seats_few before batch) in
    let same : depth - 1 ≡ steps = omega arith in
    omega (arith, within, length-ways (halves steps) steps depth (length-halves steps) seats, mul-le-mul_left steps few, ap (λ n. n * length batch) same)

pub fresh_few : (depth : ℕ) (before : Holders) (batch : List Change) → AreOnce before → length before ≡ 2 ^ depth
    → length (filter (is_fresh depth before (holders_after before batch)) (falling (2 ^ depth - 1))) ≤ (depth - 1) * length batch + 1
fresh_few depth before batch once long =
    subst (λ after. length (filter (is_fresh depth before after) (falling (2 ^ depth - 1))) ≤ (depth - 1) * length batch + 1) (seated_batch before batch once)
    (few_seated depth before batch (seats_of before batch) refl long)
