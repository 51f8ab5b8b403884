-- What a record of a group's journal is read as: a case for each kind of record.
use Rattle.std.specs.Prelude.{◌≡◌, ℕ, List, Ok}
use Rattle.gd_wire.specs.Readings.{from_start, value_of}
use Rattle.group_records.specs.declared.batches.Stored.{Stored}
use Rattle.group_records.specs.declared.heads.Head.{Head}
use Rattle.group_records.specs.Readings.{head_record, batch_record}

-- a record is read as this head
abbrev pub IsHeadOf : List ℕ → Head → Type 0
IsHeadOf body head = value_of (head_record (from_start 0 body)) ≡ Ok head

-- a record is read as this batch
abbrev pub IsBatchOf : List ℕ → Stored → Type 0
IsBatchOf body stored = value_of (batch_record (from_start 0 body)) ≡ Ok stored

-- a record, by its kind: a head, or a batch
pub data Record : Type 0 where
  a_head : (head : Head) → Record
  a_batch : (stored : Stored) → Record

-- the octets of a record are read as this
abbrev pub IsReadAs : List ℕ → Record → Type 0
IsReadAs body (a_head head) = IsHeadOf body head
IsReadAs body (a_batch stored) = IsBatchOf body stored
