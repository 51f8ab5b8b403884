-- What is at a place of a file.
use Rattle.std.specs.Prelude.{◌≡◌, ◌≢◌, ℕ, List, ◌∷◌, take, drop, Err}
use Rattle.tree_journal.specs.Records.{bodies_from, IsRecordAt}
use Rattle.tree_journal.specs.declared.reads.Found.{Found}
use Rattle.tree_journal.specs.declared.reads.Found.TheVariants.{Record, End, Nothing}
use Rattle.tree_journal.specs.declared.journals.Ahead.{Ahead}

-- a clear commit mark
abbrev pub IsShutAt : List ℕ → ℕ → Type 0
IsShutAt file at = (gate : ℕ) × (behind : List ℕ) × (drop at file ≡ gate ∷ behind) × (gate ≢ 1)

-- a record with this body, a clear commit mark, or neither
abbrev pub IsFound : List ℕ → ℕ → List ℕ → Found → Type 0
IsFound file at body Record = IsRecordAt file at body
IsFound file at body End = IsShutAt file at
IsFound file at body Nothing = bodies_from file at ≡ Err at

-- what some octets from there on show; nothing where they are too few
abbrev pub IsSeen : List ℕ → ℕ → List ℕ → Found → Type 0
IsSeen file at body Record = IsRecordAt file at body
IsSeen file at body End = IsShutAt file at
IsSeen file at body Nothing = Unit {0}

-- octets at the front of a room are those of a file that were read ahead
abbrev pub IsAhead : List ℕ → Ahead → List ℕ → Type 0
IsAhead room ahead file = take ahead.count room ≡ take ahead.count (drop ahead.at file)
