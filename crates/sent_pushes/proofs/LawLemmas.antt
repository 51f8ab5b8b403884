-- What is found among notes.
use Rattle.std.proofs.Common.{◌≡◌, ◌≢◌, ℕ, ◌<◌, ◌≤◌, true, false, ltb, eqb, List, [], ◌∷◌, Option, None, Some, cond, length, get_or, refl, sym, ap, ◌∙◌, arith, inl, inr, ◌⊎◌}
use Rattle.std.specs.List.{All, Contains, find, position_or_len}
use Rattle.std.specs.Option.{option_map}
use Rattle.std.proofs.lemmas.Bool.{cases_Bool, cases_lt, cases_eq, cond-true, cond-false, eq-eqb, ne_eqb, ltb-true, ltb-false}
use Rattle.std.proofs.lemmas.List.{get_or-map}
use Rattle.std.proofs.lemmas.List.Sums.{fails_before_first, passes_at_first}
use Rattle.std.proofs.lemmas.Option.{none-some}
use Rattle.sent_pushes.specs.declared.notes.Note.{Note}
use Rattle.sent_pushes.specs.Notes.{Rises, is_after, next_after, noted, numbers_of, place_of}
use Rattle.sent_pushes.specs.Private.Searches.{no_note, number_at}
use Rattle.sent_pushes.proofs.NoteLemmas.{length-numbers, next_none, next_there, rises_at}

-- ---- a note that was put in

place_first : (note : Note) (notes : List Note) (number : ℕ) → note.number ≡ number → place_of (note ∷ notes) number ≡ Some note.place
place_first note notes number same = ap (option_map (λ (note : Note). note.place))
    (cond-true (eqb note.number number) (Some note) (find (λ (note : Note). eqb note.number number) notes) (eq-eqb note.number number same))

place_later : (note : Note) (notes : List Note) (number : ℕ) → note.number ≢ number → place_of (note ∷ notes) number ≡ place_of notes number
place_later note notes number other = ap (option_map (λ (note : Note). note.place))
    (cond-false (eqb note.number number) (Some note) (find (λ (note : Note). eqb note.number number) notes) (ne_eqb note.number number other))

pub place_same : (notes : List Note) (number place : ℕ) → place_of (noted notes number place) number ≡ Some place
place_same [] number place = place_first (record { number = number; place = place }) [] number refl
place_same (note ∷ notes) number place =
    let new : Note = record { number = number; place = place } in
    elim (cases_Bool (ltb note.number number)) [
      | inl below ↦ ap (λ notes. place_of notes number) (cond-true (ltb note.number number) (note ∷ noted notes number place) _ below)
          ∙ place_later note (noted notes number place) number (λ same. omega (arith, same, ltb-true note.number number below))
          ∙ place_same notes number place
      | inr past ↦ ap (λ notes. place_of notes number) (cond-false (ltb note.number number) (note ∷ noted notes number place) _ past)
          ∙ (elim (eqb note.number number) as (λ b. place_of (cond b (new ∷ notes) (new ∷ note ∷ notes)) number ≡ Some place) [
            | true ↦ place_first new notes number refl
            | false ↦ place_first new (note ∷ notes) number refl
          ])
    ]

pub place_other : (notes : List Note) (number place other : ℕ) → other ≢ number → place_of (noted notes number place) other ≡ place_of notes other
place_other [] number place other apart = place_later (record { number = number; place = place }) [] other (λ same. apart (sym same))
place_other (note ∷ notes) number place other apart =
    let new : Note = record { number = number; place = place } in
    elim (cases_Bool (ltb note.number number)) [
      | inl below ↦ ap (λ notes. place_of notes other) (cond-true (ltb note.number number) (note ∷ noted notes number place) _ below)
          ∙ elim (cases_eq note.number other) [
            | inl here ↦ place_first note (noted notes number place) other here ∙ sym (place_first note notes other here)
            | inr later ↦ place_later note (noted notes number place) other later ∙ place_other notes number place other apart
                ∙ sym (place_later note notes other later)
          ]
      | inr past ↦ ap (λ notes. place_of notes other) (cond-false (ltb note.number number) (note ∷ noted notes number place) _ past)
          ∙ elim (cases_eq note.number number) [
            | inl same ↦ ap (λ notes. place_of notes other) (cond-true (eqb note.number number) (new ∷ notes) (new ∷ note ∷ notes) (eq-eqb note.number number same))
                ∙ place_later new notes other (λ is. apart (sym is)) ∙ sym (place_later note notes other (λ is. apart (sym is ∙ same)))
            | inr apart_from ↦ ap (λ notes. place_of notes other) (cond-false (eqb note.number number) (new ∷ notes) (new ∷ note ∷ notes) (ne_eqb note.number number apart_from))
                ∙ place_later new (note ∷ notes) other (λ is. apart (sym is))
          ]
    ]

pub place_noted : (notes : List Note) (number place other : ℕ)
    → place_of (noted notes number place) other ≡ cond (eqb other number) (Some place) (place_of notes other)
place_noted notes number place other = elim (cases_eq other number) [
  | inl same ↦ ap (place_of (noted notes number place)) same ∙ place_same notes number place
      ∙ sym (cond-true (eqb other number) (Some place) (place_of notes other) (eq-eqb other number same))
  | inr apart ↦ place_other notes number place other apart
      ∙ sym (cond-false (eqb other number) (Some place) (place_of notes other) (ne_eqb other number apart))
]

-- ---- the next number

record IsNext (notes : List Note) (number next : ℕ) : Type 0 where
  at : ℕ
  first : position_or_len (is_after number) notes ≡ at
  low : at < length notes
  is : number_at notes at ≡ next

or_zero : Option ℕ → ℕ
or_zero None = 0
or_zero (Some n) = n

next_is : (notes : List Note) (number next : ℕ) → next_after notes number ≡ Some next → IsNext notes number next
unfolding or_zero
next_is notes number next given = elim (cases_lt (position_or_len (is_after number) notes) (length notes)) [
  | inl low ↦ record {
    at = position_or_len (is_after number) notes;
    first = refl;
    low = low;
    is = ap or_zero (sym (next_there notes number (position_or_len (is_after number) notes) refl low) ∙ given);
  }
  | inr past ↦ absurd (none-some next (sym (next_none notes number (position_or_len (is_after number) notes) refl past) ∙ given))
]

number_in : (notes : List Note) (k d : ℕ) → k < length notes → get_or (numbers_of notes) k d ≡ number_at notes k
number_in notes k d low = get_or-map (λ (note : Note). note.number) notes k no_note d low

-- before the first that is greater none is
not_after : (notes : List Note) (number k : ℕ) → k < position_or_len (is_after number) notes → number_at notes k ≤ number
not_after notes number k before = ltb-false number (number_at notes k) (fails_before_first (is_after number) notes k no_note before)

pub next_greater : (notes : List Note) (number next : ℕ) → next_after notes number ≡ Some next → number < next
next_greater notes number next given =
    let found = next_is notes number next given in
    let more = ltb-true number (number_at notes (position_or_len (is_after number) notes))
    (passes_at_first (is_after number) notes no_note (omega (arith, found.first, found.low))) in
    omega (arith, more, ap (number_at notes) found.first, found.is)

pub next_noted : (notes : List Note) (number next : ℕ) → next_after notes number ≡ Some next → Contains (numbers_of notes) next
next_noted notes number next given =
    let found = next_is notes number next given in
    (found.at, omega (arith, found.low, length-numbers notes), number_in notes found.at next found.low ∙ found.is)

pub next_least : (notes : List Note) (number next : ℕ) → Rises notes → next_after notes number ≡ Some next
    → All (λ other. (other ≤ number) ⊎ (next ≤ other)) (numbers_of notes)
next_least notes number next rises given k d within =
    let found = next_is notes number next given in
    let low : k < length notes = omega (arith, within, length-numbers notes) in
    let is = number_in notes k d low in
    elim (cases_lt k found.at) [
      | inl before ↦ inl (omega (arith, is, not_after notes number k (omega (arith, before, found.first))))
      | inr past ↦ inr (elim (cases_eq found.at k) [
        | inl same ↦ omega (arith, is, found.is, ap (number_at notes) same)
        | inr later ↦ omega (arith, is, found.is, rises_at notes found.at k rises (omega (arith, past, later)) low)
      ])
    ]

pub none_next : (notes : List Note) (number : ℕ) → next_after notes number ≡ None → All (λ other. other ≤ number) (numbers_of notes)
none_next notes number none k d within =
    let low : k < length notes = omega (arith, within, length-numbers notes) in
    elim (cases_lt (position_or_len (is_after number) notes) (length notes)) [
      | inl before ↦ absurd (none-some (number_at notes (position_or_len (is_after number) notes))
          (sym none ∙ next_there notes number (position_or_len (is_after number) notes) refl before))
      | inr past ↦ omega (arith, number_in notes k d low, not_after notes number k (omega (arith, low, past)))
    ]
