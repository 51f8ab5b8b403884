-- What is searched for.
use Rattle.std.specs.Prelude.{ℕ, nat_lt, not, Bool, List, slice_index_or}
use Rattle.sent_pushes.specs.declared.notes.Note.{Note}

-- whether the number of a note is this or a greater one
abbrev pub is_from : ℕ → Note → Bool
is_from number note = not (nat_lt note.number number)

-- what stands for a note where there is none
abbrev pub no_note : Note
no_note = record { number = 0; place = 0 }

-- the number of the note at a place
abbrev pub number_at : List Note → ℕ → ℕ
number_at notes at = (slice_index_or notes at no_note).number
