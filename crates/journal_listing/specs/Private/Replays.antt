-- A store on a disk in memory, whose batches are read one after the other.
use Rattle.std.specs.Prelude.{◌≡◌, ⊤, ℕ, ◌+◌, ◌<◌, ◌≤◌, ◌^◌, List, [], ◌∷◌, ◌++◌}
use Rattle.gd_disk.specs.Media.{Medium}
use Rattle.group_records.specs.declared.batches.Stored.{Stored}
use Rattle.journal_listing.specs.Listings.{EndsAfter, listed_as}
use Rattle.journal_listing.specs.declared.rows.JournalEnd.{JournalEnd}
use Rattle.journal_listing.specs.declared.rows.JournalEnd.TheVariants.{Whole, Begun, NotAJournal}
use Rattle.journal_listing.specs.declared.readings.Next.{Next}
use Rattle.journal_listing.specs.declared.readings.Next.TheVariants.{Batch, End}
use Rattle.tree_store.specs.Groups.{IsGroupTo}
use Rattle.tree_store.specs.Replays.{IsReplayOf}
use Rattle.tree_store.specs.Views.{ReadSoFar, View}

-- these batches were read
pub record IsReadTo (store : View Medium) (replay : ReadSoFar) (list : List Stored) : Type 0 where
  pub replayed : IsReplayOf store.head replay list
  pub read : IsGroupTo store.disk.image store.head list store.at

-- the next batch was read; or there is none, and this is how the file ends
abbrev pub GoesOn : List Stored → View Medium → View Medium → ReadSoFar → Next → Type 0
GoesOn list was now replay (Batch batch) = (stored : Stored) × (batch ≡ listed_as stored) × IsReadTo now replay (list ++ stored ∷ [])
GoesOn list was now replay (End end) = EndsAfter was.disk.image was.head list end

-- a batch that was read takes the store further
abbrev pub IsFurther : View Medium → View Medium → Next → Type 0
IsFurther was now (Batch batch) = (was.at < 2 ^ 62) × (was.at < now.at)
IsFurther was now (End end) = ⊤

-- octets of this size with a clear commit mark at this place end so
abbrev pub IsEndAt : ℕ → ℕ → JournalEnd → Type 0
IsEndAt at size Whole = size ≤ at + 1
IsEndAt at size (Begun place) = (place ≡ at) × (at + 1 < size)
IsEndAt at size (NotAJournal place) = ⊥
