-- Which group the journal on a disk has: its head, and its batches with the values of their keys.
use Rattle.std.specs.Prelude.{◌≡◌, ◌⊎◌, ℕ, ◌+◌, ◌≤◌, List, [], ◌∷◌, ◌++◌, length, map, true, Option, Some, Ok, Err}
use Rattle.group_terms.specs.declared.changes.Change.{Change}
use Rattle.group_values.specs.Values.{Made, ids_of}
use Rattle.group_model.specs.Drawn.{drawn_at}
use Rattle.group_model.specs.Places.{Fits, holders_of}
use Rattle.group_model.specs.Stayed.{sequence_at}
use Rattle.group_records.specs.declared.batches.Stored.{Stored}
use Rattle.group_records.specs.declared.heads.Head.{Head}
use Rattle.group_records.specs.Records.{Record, a_head, a_batch, IsReadAs, IsHeadOf}
use Rattle.gd_disk.specs.Moments.{LeavesOnly}
use Rattle.gd_disk.specs.declared.disks.Disk.{Ghosts}
use Rattle.tree_journal.specs.Crashes.{IsCutOf, IsUnfilled}
use Rattle.tree_journal.specs.Records.{records, bodies_from, is_named, AreRecordsFrom, IsRecordAt}

-- ---- which batch is due

-- a stored batch without its epoch and sequence number
abbrev pub made_of : Stored → Made
made_of stored = record { changes = stored.batch; values = stored.values }

-- the changes of batches that were stored
abbrev pub batches_of : List Stored → List (List Change)
batches_of stored = map (λ batch. batch.batch) stored

-- What a batch carries is due after these changes, in a tree of this depth: its changes fit, and its values are those of the positions for which it
-- draws some.
pub record CarriesDue (depth : ℕ) (before : List (List Change)) (made : Made) : Type 0 where
  pub fits : Fits (holders_of depth before) made.changes
  pub drawn : ids_of made.values.nodes ≡ drawn_at depth (before ++ made.changes ∷ []) (length before + 1)

-- A batch is due after these changes, in a tree of this depth, where no epoch and no sequence number is past the limit: it makes the next epoch, what
-- it carries is due in that, and its number is that of the last push after it.
pub record IsDueAfter (depth limit : ℕ) (before : List (List Change)) (stored : Stored) : Type 0 where
  pub epoch : stored.epoch ≡ length before + 1
  pub early : stored.epoch ≤ limit
  pub carried : CarriesDue depth before (made_of stored)
  pub sequence : stored.sequence ≡ sequence_at depth (before ++ stored.batch ∷ []) stored.epoch
  pub numbered : stored.sequence ≤ limit

-- a batch is due in the group of this head, after these batches
abbrev pub IsDue : Head → List Stored → Stored → Type 0
IsDue head before stored = IsDueAfter head.depth head.limit (batches_of before) stored

-- ---- which group a file has

-- what the batches are after one record more: a batch that is due is one more at their end, and a head comes first alone, never after them
abbrev pub IsAfter : Head → List Stored → Record → List Stored → Type 0
IsAfter head before (a_head other) after = ⊥
IsAfter head before (a_batch stored) after = IsDue head before stored × (after ≡ before ++ stored ∷ [])

-- what the batches are after all of these records, one after the other
abbrev pub AreRecordsOf : Head → List Stored → List (List ℕ) → List Stored → Type 0
AreRecordsOf head before [] list = list ≡ before
AreRecordsOf head before (body ∷ bodies) list =
    (next : Record) × (after : List Stored) × IsReadAs body next × IsAfter head before next after × AreRecordsOf head after bodies list

-- a file begins as the journal of a group with these batches: up to a place its records are that of the head and theirs
abbrev pub IsGroupTo : List ℕ → Head → List Stored → ℕ → Type 0
IsGroupTo file head list at =
    (first : List ℕ) × (bodies : List (List ℕ)) × (is_named file ≡ true) × AreRecordsFrom file 9 (first ∷ bodies) at × IsHeadOf first head
    × AreRecordsOf head [] bodies list

-- a file is the journal of a group with this head and these batches
abbrev pub IsGroup : List ℕ → Head → List Stored → Type 0
IsGroup file head list =
    (first : List ℕ) × (bodies : List (List ℕ)) × (records file ≡ Ok (first ∷ bodies)) × IsHeadOf first head × AreRecordsOf head [] bodies list

-- a record is none that may come after these batches
abbrev pub IsNoneAfter : Head → List Stored → List ℕ → Type 0
IsNoneAfter head before body = (next : Record) (after : List Stored) → IsReadAs body next → IsAfter head before next after → ⊥

-- at a place of a file there is neither a closed gate nor a record that may come after these batches
abbrev pub HasNoneAt : List ℕ → Head → List Stored → ℕ → Type 0
HasNoneAt file head before at =
    (bodies_from file at ≡ Err at) ⊎ ((body : List ℕ) × IsRecordAt file at body × IsNoneAfter head before body)

-- a file is a journal whose first record is not that of a head, or it has no whole record
abbrev pub HasNoHead : List ℕ → Type 0
HasNoHead file =
    (records file ≡ Ok []) ⊎ ((records file ≡ Err 9)
    ⊎ ((body : List ℕ) × (records file ≡ bodies_from file 9) × IsRecordAt file 9 body × ((head : Head) → IsHeadOf body head → ⊥)))

-- a file is the journal of no group, for a reason at this place: it does not begin as a journal, or not with a head, or there is no record that may
-- come after these batches
abbrev pub IsNoGroup : List ℕ → ℕ → Type 0
IsNoGroup file at =
    ((at ≡ 0) × (records file ≡ Err 0))
    ⊎ (((at ≡ 9) × HasNoHead file)
    ⊎ ((head : Head) × (list : List Stored) × IsGroupTo file head list at × HasNoneAt file head list at))

-- a file that is shown is the journal of this group
abbrev pub HasGroup : Option (List ℕ) → Head → List Stored → Type 0
HasGroup file head list = (octets : List ℕ) × (file ≡ Some octets) × IsGroup octets head list

-- a file is the journal of a group with these batches, or with one more
abbrev pub IsGroupBeforeOrAfter : Head → List Stored → Stored → List ℕ → Type 0
IsGroupBeforeOrAfter head list stored file = IsGroup file head list ⊎ IsGroup file head (list ++ stored ∷ [])

-- While a group is made of a disk, a crash leaves the old file cut. From some moment on it leaves no journal, or one without a record, or the group
-- without a batch, unless the making ended before.
abbrev pub MakesGroup : {D : Type 0} → Ghosts D → Head → D → D → Type 0
MakesGroup {D = D} g head old new =
    LeavesOnly g old new (IsCutOf (g.may_leave old))
    ⊎ ((mid : D) × LeavesOnly g old mid (IsCutOf (g.may_leave old)) × LeavesOnly g mid new (λ file. IsUnfilled file ⊎ IsGroup file head []))
