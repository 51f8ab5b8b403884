-- A batch renews no more positions than a path for each change, and the root.
use Rattle.std.proofs.Common.{◌≡◌, ◌⊎◌, ℕ, zero, suc, ◌+◌, ◌*◌, ◌/◌, ◌^◌, ◌<◌, ◌≤◌, Bool, true, false, cond, not, eqb, ◌&&◌, List, [], ◌∷◌, Option, None, Some, length, get_or, set, refl, sym, ap, ◌∙◌, subst, arith, inl, inr}
use Rattle.std.specs.List.{AllByRecursion, IsDistinct, cons_option, enumerate_from, filter, flat_map, list_any, position, range_with_len, zip}
use Rattle.std.specs.Option.{option_map}
use Rattle.std.proofs.Math.Nat.{mul-le-mul_left}
use Rattle.std.proofs.lemmas.Bool.{and_parts, cases_Bool, cases_eq, cases_lt, false≢true, ne_eqb, or_cases, or_left, or_right}
use Rattle.std.proofs.lemmas.Bool.Decides.{Decides-eqb}
use Rattle.std.proofs.lemmas.Cmp.{nat_eq_equiv}
use Rattle.std.proofs.lemmas.List.{get_or_past, get_or-map, get_or-set_other, length-append, length-map}
use Rattle.std.proofs.lemmas.List.Folds.{list_any-append}
use Rattle.std.proofs.lemmas.Map.Made.{length-le_from_is_member}
use Rattle.std.proofs.lemmas.Slice.Zip.{length-zip, get_or-zip}
use Rattle.group_terms.specs.Changes.{leavers, joiners}
use Rattle.group_terms.specs.Names.{Name}
use Rattle.group_terms.specs.Positions.{is_below, some_leaf_below}
use Rattle.group_terms.specs.declared.changes.Change.{Change}
use Rattle.key_tree.specs.declared.marks.Seat.{Seat}
use Rattle.group_model.specs.Fresh.{changed_leaves, is_same_holder, upwards}
use Rattle.group_model.specs.Places.{Holders, is_held_by, placed}
use Rattle.key_tree.specs.Private.Draws.{is_renewed, renewed_from}
use Rattle.key_tree.specs.Private.Seats.{vacancies, placement, placements, seats_of}
use Rattle.key_tree.specs.Marks.{seated}
use Rattle.group_model.proofs.QueueLemmas.{length-changes}
use Rattle.key_tree.proofs.SeatLemmas.{length-seated, same_as_itself}

-- of a range no number that passes comes twice
module _ (p : ℕ → Bool) where
  later : (count first v : ℕ) → v < first → AllByRecursion (λ w. eqb v w ≡ false) (filter p (range_with_len first count))
  later zero first v less = tt
  later (suc count) first v less = elim (p first) as (λ b. AllByRecursion (λ w. eqb v w ≡ false) (cond b (first ∷ filter p (range_with_len (first + 1) count)) (filter p (range_with_len (first + 1) count)))) [
    | true ↦ (ne_eqb v first (λ e. absurd (omega (arith, e, less))), later count (first + 1) v (omega (arith, less)))
    | false ↦ later count (first + 1) v (omega (arith, less))
  ]

  distinct : (count first : ℕ) → IsDistinct eqb (filter p (range_with_len first count))
  unfolding IsDistinct
  distinct zero first = tt
  distinct (suc count) first = elim (p first) as (λ b. IsDistinct eqb (cond b (first ∷ filter p (range_with_len (first + 1) count)) (filter p (range_with_len (first + 1) count)))) [
    | true ↦ (later count (first + 1) first (omega arith), distinct count (first + 1))
    | false ↦ distinct count (first + 1)
  ]

  -- what is in a filtered list passes
  passes_in : (v : ℕ) (xs : List ℕ) → list_any (eqb v) (filter p xs) ≡ true → p v ≡ true
  passes_in v [] h = absurd (false≢true h)
  passes_in v (x ∷ xs) h = elim (cases_Bool (p x)) [
    | inl passes ↦ elim (or_cases (eqb v x) (list_any (eqb v) (filter p xs)) (subst (λ b. list_any (eqb v) (cond b (x ∷ filter p xs) (filter p xs)) ≡ true) passes h)) [
      | inl here ↦ ap p ((Decides-eqb v x).0 here) ∙ passes
      | inr there ↦ passes_in v xs there
    ]
    | inr fails ↦ passes_in v xs (subst (λ b. list_any (eqb v) (cond b (x ∷ filter p xs) (filter p xs)) ≡ true) fails h)
  ]

-- a position that x is at or below is on the way up from x
on_the_way : (steps v x : ℕ) → is_below steps v x ≡ true → list_any (eqb v) (upwards steps x) ≡ true
on_the_way zero v x h = or_left _ _ (itself v x h)
  where
    itself : (v x : ℕ) → eqb x v ≡ true → eqb v x ≡ true
    itself v x h = nat_eq_equiv.symm v x ∙ h
on_the_way (suc steps) v x h = elim (or_cases (eqb x v) (is_below steps v (x / 2)) h) [
  | inl here ↦ or_left _ _ (nat_eq_equiv.symm v x ∙ here)
  | inr above ↦ or_right _ _ (on_the_way steps v (x / 2) above)
]

length-upwards : (steps v : ℕ) → length (upwards steps v) ≡ steps + 1
length-upwards zero v = refl
length-upwards (suc steps) v = omega (arith, length-upwards steps (v / 2))

-- the ways up from the leaves of these seats
abbrev pub ways : (ℕ → List ℕ) → ℕ → List Seat → List ℕ
ways way depth seats = flat_map (λ (seat : Seat). way (2 ^ depth + seat.place)) seats

-- where the way up from each leaf has v if the leaf is below v
module _ (depth v size : ℕ) (way : ℕ → List ℕ)
    (up : (i : ℕ) → i < size → is_below depth v (2 ^ depth + i) ≡ true → list_any (eqb v) (way (2 ^ depth + i)) ≡ true) where
  -- a leaf above which v is has the holder that it had, or v is on the way up from a seat
  held_or_way : (now : Holders) (seats : List Seat) (i : ℕ) → i < size → is_below depth v (2 ^ depth + i) ≡ true
      → (get_or (seated now seats) i None ≡ get_or now i None) ⊎ (list_any (eqb v) (ways way depth seats) ≡ true)
  held_or_way now [] i low below = inl refl
  held_or_way now (seat ∷ seats) i low below = elim (cases_eq i seat.place) [
    | inl here ↦ inr (list_any-append (eqb v) (way (2 ^ depth + seat.place)) (ways way depth seats)
        ∙ or_left _ _ (subst (λ place. list_any (eqb v) (way (2 ^ depth + place)) ≡ true) here (up i low below)))
    | inr other ↦ elim (held_or_way (set now seat.place seat.holder) seats i low below) [
      | inl same ↦ inl (same ∙ get_or-set_other now seat.place i seat.holder None other)
      | inr found ↦ inr (list_any-append (eqb v) (way (2 ^ depth + seat.place)) (ways way depth seats) ∙ or_right _ _ found)
    ]
  ]

  pub changed_way : (before : Holders) (seats : List Seat) → length before ≡ size → (i : ℕ)
      → get_or (changed_leaves before (seated before seats)) i false ≡ true → is_below depth v (2 ^ depth + i) ≡ true
      → list_any (eqb v) (ways way depth seats) ≡ true
  changed_way before seats long i changed below = elim (cases_lt i (length before)) [
    | inr past ↦ absurd (false≢true (sym (get_or_past (changed_leaves before (seated before seats)) i false (omega (arith, past, whole))) ∙ changed))
    | inl low ↦ elim (held_or_way before seats i (omega (arith, low, long)) below) [
      | inr found ↦ found
      | inl same ↦ absurd (false≢true (sym (unchanged low same) ∙ changed))
    ]
  ]
    where
      whole : length (changed_leaves before (seated before seats)) ≡ length before
      whole = length-map (zip before (seated before seats)) (λ (pair : Option Name × Option Name). not (is_same_holder pair.0 pair.1))
          ∙ length-zip before (seated before seats) ∙ omega (arith, length-seated before seats)

      unchanged : i < length before → get_or (seated before seats) i None ≡ get_or before i None
          → get_or (changed_leaves before (seated before seats)) i false ≡ false
      unchanged low same =
          get_or-map (λ (pair : Option Name × Option Name). not (is_same_holder pair.0 pair.1)) (zip before (seated before seats)) i (None, None) false
          (omega (arith, low, length-zip before (seated before seats), length-seated before seats))
          ∙ ap (λ (pair : Option Name × Option Name). not (is_same_holder pair.0 pair.1))
          (get_or-zip before (seated before seats) i (None, None) low (omega (arith, low, length-seated before seats)))
          ∙ ap (λ holder. not (is_same_holder (get_or before i None) holder)) same
          ∙ ap not (same_as_itself (get_or before i None))

-- what is so for v of each marked leaf below v is so for v where one is marked
module _ (depth v : ℕ) where
  pub marked_way : (first : ℕ) (leaves : List Bool) (list : List ℕ)
      → ((i : ℕ) → get_or leaves i false ≡ true → is_below depth v (first + i) ≡ true → list_any (eqb v) list ≡ true)
      → list_any (λ (leaf : ℕ × Bool). leaf.1 && is_below depth v leaf.0) (enumerate_from first leaves) ≡ true → list_any (eqb v) list ≡ true
  marked_way first [] list each h = absurd (false≢true h)
  marked_way first (leaf ∷ leaves) list each h =
      elim (or_cases (leaf && is_below depth v first) (list_any (λ (leaf : ℕ × Bool). leaf.1 && is_below depth v leaf.0) (enumerate_from (first + 1) leaves)) h) [
        | inl here ↦ (
            let parts = and_parts leaf (is_below depth v first) here in
            let same : first ≡ first + 0 = omega arith in
            each 0 parts.0 (subst (λ x. is_below depth v x ≡ true) same parts.1)
            )
        | inr there ↦ marked_way (first + 1) leaves list
            (λ i marked below.
            let next : first + 1 + i ≡ first + suc i = omega arith in
            each (suc i) marked (subst (λ x. is_below depth v x ≡ true) next below)) there
      ]

pub length-ways : (way : ℕ → List ℕ) (steps depth : ℕ) → ((x : ℕ) → length (way x) ≡ steps) → (seats : List Seat)
    → length (ways way depth seats) ≤ steps * length seats
length-ways way steps depth long [] = omega arith
length-ways way steps depth long (seat ∷ seats) =
    let more : steps * suc (length seats) ≡ steps * length seats + steps = omega arith in
    let first : List ℕ = way (2 ^ depth + seat.place) in
    omega (arith, more, length-append first (ways way depth seats), long (2 ^ depth + seat.place), length-ways way steps depth long seats)

length-cons_option : {A : Type 0} (r : Option A) (xs : List A) → length (cons_option r xs) ≤ length xs + 1
length-cons_option None xs = omega arith
length-cons_option (Some x) xs = omega arith

length-vacancies : (holders : Holders) (names : List Name) → length (vacancies holders names) ≤ length names
length-vacancies holders [] = omega arith
length-vacancies holders (m ∷ names) =
    omega (arith, length-cons_option (option_map (λ place. record { place = place; holder = None }) (position (is_held_by m) holders)) (vacancies holders names), length-vacancies holders names)

length-placements : (holders : Holders) (names : List Name) → length (placements holders names) ≤ length names
length-placements holders [] = omega arith
length-placements holders (m ∷ names) =
    omega (arith, length-cons_option (placement holders m) (placements (placed holders m) names), length-placements (placed holders m) names)

-- a batch makes one seat a change at the most
pub seats_few : (holders : Holders) (batch : List Change) → length (seats_of holders batch) ≤ length batch
seats_few holders batch =
    let left : List Seat = vacancies holders (leavers batch) in
    omega (
      arith,
      length-append left (placements (seated holders left) (joiners batch)),
      length-vacancies holders (leavers batch),
      length-placements (seated holders left) (joiners batch),
      length-changes batch,
    )

pub renewed_few : (depth count : ℕ) (before : Holders) (batch : List Change) (seats : List Seat) → seats ≡ seats_of before batch
    → length (renewed_from depth (changed_leaves before (seated before seats)) 1 count) ≤ (depth + 1) * length batch + 1
renewed_few depth count before batch seats is =
    let way : ℕ → List ℕ = upwards depth in
    let leaves : List Bool = changed_leaves before (seated before seats) in
    let p : ℕ → Bool = is_renewed depth leaves in
    let among : (v : ℕ) → list_any (eqb v) (renewed_from depth leaves 1 count) ≡ true → list_any (eqb v) (1 ∷ ways way depth seats) ≡ true = λ v h.
    elim (or_cases (eqb v 1) (some_leaf_below depth leaves v) (passes_in p v (range_with_len 1 count) h)) [
      | inl root ↦ or_left _ _ root
      | inr below ↦ or_right _ _ (marked_way depth v (2 ^ depth) leaves (ways way depth seats)
          (changed_way depth v (length before) way (λ i _ at. on_the_way depth v (2 ^ depth + i) at) before seats refl) below)
    ] in
    let within : length (renewed_from depth leaves 1 count) ≤ length (1 ∷ ways way depth seats) =
    length-le_from_is_member nat_eq_equiv (renewed_from depth leaves 1 count) (1 ∷ ways way depth seats) (distinct p count 1) among in
    let few : length seats ≤ length batch = omega (arith, ap length is, seats_few before batch) in
    omega (arith, within, length-ways way (depth + 1) depth (length-upwards depth) seats, mul-le-mul_left (depth + 1) few)
