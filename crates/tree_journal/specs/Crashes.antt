-- What is known of a journal on a disk, and what a crash leaves of it.
use Rattle.std.specs.Prelude.{◌≡◌, ◌⊎◌, ℕ, List, [], ◌∷◌, ◌++◌, Option, Some, Result, Ok, Err}
use Rattle.gd_disk.specs.Disks.{Torn, Cut}
use Rattle.gd_disk.specs.Moments.{LeavesOnly}
use Rattle.gd_disk.specs.declared.disks.Disk.{Ghosts}
use Rattle.tree_journal.specs.Records.{records}
use Rattle.tree_journal.specs.Views.{View}
use Rattle.tree_journal.specs.declared.refusals.FormatRefusal.{FormatRefusal}
use Rattle.tree_journal.specs.declared.refusals.JournalRefusal.TheVariants.{DiskFault}

-- a file that is shown is a journal with these bodies
abbrev pub Opens : Option (List ℕ) → List (List ℕ) → Type 0
Opens file bodies = (octets : List ℕ) × (file ≡ Some octets) × (records octets ≡ Ok bodies)

-- a file is a journal with these bodies, or with one more
abbrev pub IsBeforeOrAfter : List (List ℕ) → List ℕ → List ℕ → Type 0
IsBeforeOrAfter bodies body file = (records file ≡ Ok bodies) ⊎ (records file ≡ Ok (bodies ++ body ∷ []))

-- a file is one of these, cut in part and with any octet for its first
abbrev pub IsCutOf : (List ℕ → Type 0) → List ℕ → Type 0
IsCutOf old file = (was cut : List ℕ) × old was × Cut 0 was cut × Torn 0 1 cut file

-- a file is no journal from its beginning on, or one without a record
abbrev pub IsUnfilled : List ℕ → Type 0
IsUnfilled file = (records file ≡ Err 0) ⊎ (records file ≡ Ok [])

-- While a journal is made of a disk, a crash leaves the old file cut. From some moment on it leaves no journal, or one without a record, unless the
-- making ended before.
abbrev pub MakesJournal : {D : Type 0} → Ghosts D → D → D → Type 0
MakesJournal {D = D} g old new =
    LeavesOnly g old new (IsCutOf (g.may_leave old))
    ⊎ ((mid : D) × LeavesOnly g old mid (IsCutOf (g.may_leave old)) × LeavesOnly g mid new IsUnfilled)

-- the disk that an answer has, or gives back
abbrev pub disk_in : {D : Type 0} → Result (View D) (FormatRefusal D) → D
disk_in (Ok journal) = journal.disk
disk_in (Err refused) = refused.disk

-- an answer that is a fault of the disk
abbrev pub FoundFault : {T D : Type 0} → Result T (FormatRefusal D) → Type 0
FoundFault (Ok made) = ⊥
FoundFault (Err refused) = refused.why ≡ DiskFault
