-- Which entry sent the last push of each number.
use Rattle.std.specs.Prelude.{◌≡◌, ℕ, ◌==◌, List, All, Option, Some, slice_get}
use Rattle.std.specs.List.{find}
use Rattle.std.specs.Option.{option_and_then}
use Rattle.group_model.specs.declared.entries.Entry.{Entry}
use Rattle.server_steps.specs.Sent.{SentPush, last_push, pushes_by}
use Rattle.sent_pushes.specs.Notes.{numbers_of, place_of}
use Rattle.sent_pushes.specs.declared.notes.Note.{Note}

-- the push of this number among some
abbrev pub push_in : ℕ → List SentPush → Option SentPush
push_in number pushes = find (λ (push : SentPush). push.number == number) pushes

-- that which the entry at a place sent
abbrev pub push_at : List Entry → ℕ → Option ℕ → Option SentPush
push_at entries number place =
    option_and_then (λ at. option_and_then (λ (entry : Entry). push_in number (pushes_by entry.answer)) (slice_get entries at)) place

-- for each number the entry that is noted sent the last push of that number
abbrev pub AreNoted : List Note → List Entry → Type 0
AreNoted notes entries = (number : ℕ) → push_at entries number (place_of notes number) ≡ last_push entries number

-- a push of each number that is noted was sent
abbrev pub WereSent : List Note → List Entry → Type 0
WereSent notes entries = All (λ number. (push : SentPush) × (last_push entries number ≡ Some push)) (numbers_of notes)
