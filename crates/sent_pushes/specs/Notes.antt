-- Notes of pushes that were sent: which entry of a history sent the last push of a sequence number (RFC 6407 section 5.7), by rising number.
use Rattle.std.specs.Prelude.{ℕ, ◌==◌, nat_lt, Bool, List, [], ◌∷◌, Option, map, if◌then◌else◌}
use Rattle.std.specs.List.{find}
use Rattle.std.specs.List.Sorted.{IsStrictlyIncreasing}
use Rattle.std.specs.Option.{option_map}
use Rattle.sent_pushes.specs.declared.notes.Note.{Note}

-- their numbers
abbrev pub numbers_of : List Note → List ℕ
numbers_of notes = map (λ (note : Note). note.number) notes

-- each has a greater number than the one before it
abbrev pub Rises : List Note → Type 0
Rises notes = IsStrictlyIncreasing (numbers_of notes)

-- with the place of the last push of a number: in place of the note of this number, or else before the first note of a greater one
abbrev pub noted : List Note → ℕ → ℕ → List Note
noted [] number place = record { number = number; place = place } ∷ []
noted (note ∷ notes) number place =
    if nat_lt note.number number then note ∷ noted notes number place
    else (if note.number == number then record { number = number; place = place } ∷ notes
    else record { number = number; place = place } ∷ note ∷ notes)

-- the place that was noted for a number, if one was
abbrev pub place_of : List Note → ℕ → Option ℕ
place_of notes number = option_map (λ (note : Note). note.place) (find (λ (note : Note). note.number == number) notes)

-- whether the number of a note is greater than this one
abbrev pub is_after : ℕ → Note → Bool
is_after number note = nat_lt number note.number

-- the least number of a note that is greater than this one, if one is
abbrev pub next_after : List Note → ℕ → Option ℕ
next_after notes number = option_map (λ (note : Note). note.number) (find (is_after number) notes)
