-- Notes by rising number.
use Rattle.std.proofs.Common.{◌≡◌, ◌≢◌, ℕ, zero, suc, ◌+◌, ◌<◌, ◌≤◌, Bool, true, false, not, ltb, eqb, List, [], ◌∷◌, None, Some, cond, length, get_or, set, refl, sym, ap, ◌∙◌, subst, arith, inl, inr}
use Rattle.std.specs.List.{AllByRecursion, find, insert, position_or_len, slice_get}
use Rattle.std.specs.List.Sorted.{IsNonDecreasingBy, IsStrictlyIncreasing}
use Rattle.std.specs.Option.{option_map}
use Rattle.std.proofs.lemmas.Bool.{cases_Bool, cases_lt, cases_eq, false≢true, cond-true, cond-false, ltb-true, ltb-false, eq-eqb, ne_eqb}
use Rattle.std.proofs.lemmas.List.{get_or_default, get_or-map, length-map}
use Rattle.std.proofs.lemmas.List.Folds.{find_at}
use Rattle.std.proofs.lemmas.List.Kept.{AllPairs-from_increasing}
use Rattle.std.proofs.lemmas.List.Sums.{fails_before_first, passes_at_first}
use Rattle.std.proofs.lemmas.Option.{slice_get-get_or}
use Rattle.sent_pushes.specs.declared.notes.Note.{Note}
use Rattle.sent_pushes.specs.Notes.{Rises, is_after, noted, numbers_of, place_of}
use Rattle.sent_pushes.specs.Private.Searches.{is_from, no_note, number_at}

pub length-numbers : (notes : List Note) → length (numbers_of notes) ≡ length notes
length-numbers notes = length-map notes (λ (note : Note). note.number)

-- ---- the order

-- a later number is greater
pub rises_at : (notes : List Note) (i j : ℕ) → Rises notes → i < j → j < length notes → number_at notes i < number_at notes j
rises_at notes i j rises before low =
    let first = get_or-map (λ (note : Note). note.number) notes i no_note 0 (omega (arith, before, low)) in
    let second = get_or-map (λ (note : Note). note.number) notes j no_note 0 low in
    omega (arith, first, second, AllPairs-from_increasing (numbers_of notes) rises i j 0 before (omega (arith, low, length-numbers notes)))

pub rises_by : (notes : List Note) → Rises notes → IsNonDecreasingBy (λ (note : Note). note.number) notes
rises_by notes rises i j d le low =
    let first = ap (λ (note : Note). note.number) (get_or_default notes i d no_note (omega (arith, le, low))) in
    let second = ap (λ (note : Note). note.number) (get_or_default notes j d no_note low) in
    elim (cases_eq i j) [
      | inl same ↦ omega (arith, ap (λ k. (get_or notes k d).number) same)
      | inr other ↦ omega (arith, first, second, rises_at notes i j rises (omega (arith, le, other)) low)
    ]

-- the same note by note
abbrev Up : List Note → Type 0
Up [] = Unit {0}
Up (note ∷ notes) = AllByRecursion (λ (later : Note). note.number < later.number) notes × Up notes

all_from : (P : Note → Type 0) (notes : List Note) → ((k : ℕ) → k < length notes → P (get_or notes k no_note)) → AllByRecursion P notes
all_from P [] each = tt
all_from P (note ∷ notes) each = (each 0 (omega arith), all_from P notes (λ k low. each (suc k) (omega (arith, low))))

to_up : (notes : List Note) → ((i j : ℕ) → i < j → j < length notes → number_at notes i < number_at notes j) → Up notes
to_up [] rises = tt
to_up (note ∷ notes) rises = (
  all_from (λ (later : Note). note.number < later.number) notes (λ k low. rises 0 (suc k) (omega arith) (omega (arith, low))),
  to_up notes (λ i j before low. rises (suc i) (suc j) (omega (arith, before)) (omega (arith, low))),
)

from_up : (notes : List Note) → Up notes → IsStrictlyIncreasing (numbers_of notes)
from_up [] up k low = absurd (omega (arith, low))
from_up (note ∷ []) up k low = absurd (omega (arith, low))
from_up (note ∷ next ∷ notes) up zero low = up.0.0
from_up (note ∷ next ∷ notes) up (suc k) low =
    subst (λ n. get_or (numbers_of (next ∷ notes)) k 0 < get_or (numbers_of (note ∷ next ∷ notes)) n 0) {x = suc (k + 1)} {y = suc k + 1} (omega arith)
    (from_up (next ∷ notes) up.1 k (omega (arith, low)))

all_noted : (P : Note → Type 0) (notes : List Note) (number place : ℕ) → AllByRecursion P notes → P (record { number = number; place = place })
    → AllByRecursion P (noted notes number place)
all_noted P [] number place each one = (one, tt)
all_noted P (note ∷ notes) number place each one = elim (cases_Bool (ltb note.number number)) [
  | inl below ↦ subst (AllByRecursion P) (sym (cond-true (ltb note.number number) (note ∷ noted notes number place) _ below))
      (each.0, all_noted P notes number place each.1 one)
  | inr past ↦ subst (AllByRecursion P) (sym (cond-false (ltb note.number number) (note ∷ noted notes number place) _ past))
      (elim (eqb note.number number) as (λ b. AllByRecursion P (cond b (record { number = number; place = place } ∷ notes)
      (record { number = number; place = place } ∷ note ∷ notes))) [
        | true ↦ (one, each.1)
        | false ↦ (one, (each.0, each.1))
      ])
]

all_more : (low high : ℕ) (notes : List Note) → low < high → AllByRecursion (λ (note : Note). high < note.number) notes
    → AllByRecursion (λ (note : Note). low < note.number) notes
all_more low high [] less each = tt
all_more low high (note ∷ notes) less each = (omega (arith, less, each.0), all_more low high notes less each.1)

up_noted : (notes : List Note) (number place : ℕ) → Up notes → Up (noted notes number place)
up_noted [] number place up = (tt, tt)
up_noted (note ∷ notes) number place up = elim (cases_Bool (ltb note.number number)) [
  | inl below ↦ subst Up (sym (cond-true (ltb note.number number) (note ∷ noted notes number place) _ below))
      (all_noted (λ (later : Note). note.number < later.number) notes number place up.0 (ltb-true note.number number below), up_noted notes number place up.1)
  | inr past ↦ subst Up (sym (cond-false (ltb note.number number) (note ∷ noted notes number place) _ past))
      (elim (cases_eq note.number number) [
        | inl same ↦ subst Up (sym (cond-true (eqb note.number number) (record { number = number; place = place } ∷ notes)
            (record { number = number; place = place } ∷ note ∷ notes) (eq-eqb note.number number same)))
            (subst (λ n. AllByRecursion (λ (later : Note). n < later.number) notes) same up.0, up.1)
        | inr other ↦
            let less : number < note.number = omega (arith, ltb-false note.number number past, other) in
            subst Up (sym (cond-false (eqb note.number number) (record { number = number; place = place } ∷ notes)
            (record { number = number; place = place } ∷ note ∷ notes) (ne_eqb note.number number other)))
            ((less, all_more number note.number notes less up.0), (up.0, up.1))
      ])
]

pub rises_noted : (notes : List Note) (number place : ℕ) → Rises notes → Rises (noted notes number place)
rises_noted notes number place rises =
    from_up (noted notes number place) (up_noted notes number place (to_up notes (λ i j before low. rises_at notes i j rises before low)))

-- ---- where a note goes

pub noted_there : (notes : List Note) (number place i : ℕ) → position_or_len (is_from number) notes ≡ i → i < length notes → number_at notes i ≡ number
    → set notes i (record { number = number; place = place }) ≡ noted notes number place
noted_there [] number place i is low same = absurd (omega (arith, low))
noted_there (note ∷ notes) number place i is low same = elim (cases_Bool (ltb note.number number)) [
  | inl below ↦
      let rest = position_or_len (is_from number) notes in
      let next : suc rest ≡ i = sym (ap (λ b. cond (not (not b)) (1 + rest) 0) below ∙ omega arith) ∙ is in
      ap (λ n. set (note ∷ notes) n (record { number = number; place = place })) (sym next)
      ∙ (λ j. note ∷ noted_there notes number place rest refl (omega (arith, low, next)) (ap (λ n. number_at (note ∷ notes) n) next ∙ same) j)
      ∙ sym (cond-true (ltb note.number number) (note ∷ noted notes number place) _ below)
  | inr past ↦
      let here : 0 ≡ i = sym (ap (λ b. cond (not (not b)) (1 + position_or_len (is_from number) notes) 0) past) ∙ is in
      ap (λ n. set (note ∷ notes) n (record { number = number; place = place })) (sym here)
      ∙ sym (cond-true (eqb note.number number) (record { number = number; place = place } ∷ notes) (record { number = number; place = place } ∷ note ∷ notes)
      (eq-eqb note.number number (ap (λ n. number_at (note ∷ notes) n) here ∙ same)))
      ∙ sym (cond-false (ltb note.number number) (note ∷ noted notes number place) _ past)
]

pub noted_between : (notes : List Note) (number place i : ℕ) → position_or_len (is_from number) notes ≡ i → (i < length notes → number_at notes i ≢ number)
    → insert notes i (record { number = number; place = place }) ≡ noted notes number place
noted_between [] number place i is other = ap (λ n. insert [] n (record { number = number; place = place })) (sym is)
noted_between (note ∷ notes) number place i is other = elim (cases_Bool (ltb note.number number)) [
  | inl below ↦
      let rest = position_or_len (is_from number) notes in
      let next : suc rest ≡ i = sym (ap (λ b. cond (not (not b)) (1 + rest) 0) below ∙ omega arith) ∙ is in
      ap (λ n. insert (note ∷ notes) n (record { number = number; place = place })) (sym next)
      ∙ (λ j. note ∷ noted_between notes number place rest refl
      (λ low same. other (omega (arith, low, next)) (ap (λ n. number_at (note ∷ notes) n) (sym next) ∙ same)) j)
      ∙ sym (cond-true (ltb note.number number) (note ∷ noted notes number place) _ below)
  | inr past ↦
      let here : 0 ≡ i = sym (ap (λ b. cond (not (not b)) (1 + position_or_len (is_from number) notes) 0) past) ∙ is in
      ap (λ n. insert (note ∷ notes) n (record { number = number; place = place })) (sym here)
      ∙ sym (cond-false (eqb note.number number) (record { number = number; place = place } ∷ notes) (record { number = number; place = place } ∷ note ∷ notes)
      (ne_eqb note.number number (λ same. other (omega (arith, here)) (ap (λ n. number_at (note ∷ notes) n) (sym here) ∙ same))))
      ∙ sym (cond-false (ltb note.number number) (note ∷ noted notes number place) _ past)
]

-- ---- what is found

abbrev has_number : ℕ → Note → Bool
has_number number note = eqb note.number number

find_there : (notes : List Note) (number i : ℕ) → i < length notes → ((k : ℕ) → k < i → number_at notes k ≢ number) → number_at notes i ≡ number
    → find (has_number number) notes ≡ Some (get_or notes i no_note)
find_there [] number i low others same = absurd (omega (arith, low))
find_there (note ∷ notes) number zero low others same =
    cond-true (eqb note.number number) (Some note) (find (has_number number) notes) (eq-eqb note.number number same)
find_there (note ∷ notes) number (suc i) low others same =
    cond-false (eqb note.number number) (Some note) (find (has_number number) notes) (ne_eqb note.number number (others 0 (omega arith)))
    ∙ find_there notes number i (omega (arith, low)) (λ k before. others (suc k) (omega (arith, before))) same

find_none : (notes : List Note) (number : ℕ) → ((k : ℕ) → k < length notes → number_at notes k ≢ number) → find (has_number number) notes ≡ None
find_none [] number others = refl
find_none (note ∷ notes) number others =
    cond-false (eqb note.number number) (Some note) (find (has_number number) notes) (ne_eqb note.number number (others 0 (omega arith)))
    ∙ find_none notes number (λ k low. others (suc k) (omega (arith, low)))

-- the numbers before the first that is this or a greater one are less
less_before : (notes : List Note) (number i k : ℕ) → position_or_len (is_from number) notes ≡ i → k < i → number_at notes k < number
less_before notes number i k is before =
    ltb-true (number_at notes k) number (not_false (ltb (number_at notes k) number)
    (fails_before_first (is_from number) notes k no_note (omega (arith, is, before))))
  where
    not_false : (b : Bool) → not b ≡ false → b ≡ true
    not_false true is = refl
    not_false false is = absurd (false≢true (sym is))

not_less_at : (notes : List Note) (number i : ℕ) → position_or_len (is_from number) notes ≡ i → i < length notes → number ≤ number_at notes i
not_less_at notes number i is low =
    ltb-false (number_at notes i) number (not_true (ltb (number_at notes i) number)
    (subst (λ n. is_from number (get_or notes n no_note) ≡ true) is (passes_at_first (is_from number) notes no_note (omega (arith, is, low)))))
  where
    not_true : (b : Bool) → not b ≡ true → b ≡ false
    not_true true is = absurd (false≢true is)
    not_true false is = refl

pub place_there : (notes : List Note) (number i : ℕ) → position_or_len (is_from number) notes ≡ i → i < length notes → number_at notes i ≡ number
    → place_of notes number ≡ Some (get_or notes i no_note).place
place_there notes number i is low same = ap (option_map (λ (note : Note). note.place))
    (find_there notes number i low (λ k before equal. omega (arith, less_before notes number i k is before, equal)) same)

pub place_none : (notes : List Note) (number i : ℕ) → Rises notes → position_or_len (is_from number) notes ≡ i
    → (i < length notes → number_at notes i ≢ number) → place_of notes number ≡ None
place_none notes number i rises is other = ap (option_map (λ (note : Note). note.place)) (find_none notes number others)
  where
    others : (k : ℕ) → k < length notes → number_at notes k ≢ number
    others k low same = elim (cases_lt k i) [
      | inl before ↦ absurd (omega (arith, same, less_before notes number i k is before))
      | inr past ↦ elim (cases_eq k i) [
        | inl here ↦ absurd (other (omega (arith, here, low)) (ap (number_at notes) (sym here) ∙ same))
        | inr later ↦
            let at = not_less_at notes number i is (omega (arith, past, low)) in
            absurd (omega (arith, same, at, rises_at notes i k rises (omega (arith, past, later)) low))
      ]
    ]

-- ---- the next number

pub next_there : (notes : List Note) (number i : ℕ) → position_or_len (is_after number) notes ≡ i → i < length notes
    → option_map (λ (note : Note). note.number) (find (is_after number) notes) ≡ Some (number_at notes i)
next_there notes number i is low =
    ap (option_map (λ (note : Note). note.number)) (find_at (is_after number) notes ∙ ap (slice_get notes) is ∙ slice_get-get_or notes i no_note low)

pub next_none : (notes : List Note) (number i : ℕ) → position_or_len (is_after number) notes ≡ i → length notes ≤ i
    → option_map (λ (note : Note). note.number) (find (is_after number) notes) ≡ None
next_none notes number i is past =
    ap (option_map (λ (note : Note). note.number)) (find_at (is_after number) notes ∙ ap (slice_get notes) is ∙ slice_get_past notes i past)
  where
    slice_get_past : (notes : List Note) (i : ℕ) → length notes ≤ i → slice_get notes i ≡ None
    slice_get_past [] i past = refl
    slice_get_past (note ∷ notes) zero past = absurd (omega (arith, past))
    slice_get_past (note ∷ notes) (suc i) past = slice_get_past notes i (omega (arith, past))
