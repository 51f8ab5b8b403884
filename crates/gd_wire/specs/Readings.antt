-- How the octets of a text are read: one field after the other. Each reading gives a value and the place where the next one goes on, or the
-- first fault. A grammar is a list of readings, each line of which goes on where the line before it ended.
use Rattle.std.specs.Prelude.{◌≡◌, ℕ, ◌+◌, ◌-◌, ◌==◌, nat_le, not, Bool, List, length, take, drop, slice_index_or, Option, None, Some, Result, Ok, Err}
use Rattle.std.specs.Prelude.{if◌then◌else◌}
use Rattle.std.specs.List.{list_any, position}
use Rattle.byteorder.specs.Endian.{big_from}
use Rattle.group_terms.specs.declared.wires.WireFault.{WireFault}
use Rattle.group_terms.specs.declared.wires.WireWhat.{WireWhat}
use Rattle.group_terms.specs.declared.wires.WireWhat.TheVariants.{Short, Length, Reserved, Padding, Kind}
use Rattle.gd_wire.specs.Faults.{fault_at}

-- What is left of a text: its place in the text, whose first octet has the place `base` in the datagram, and the octets from there on.
pub record Cursor : Type 0 where
  pub base : ℕ
  pub at : ℕ
  pub left : List ℕ

-- the whole of a text
abbrev pub from_start : ℕ → List ℕ → Cursor
from_start base text = record { base = base; at = 0; left = text }

-- the cursor after a number of octets
abbrev pub after : ℕ → Cursor → Cursor
after size cursor = record { base = cursor.base; at = cursor.at + size; left = drop size cursor.left }

-- A reading starts at a cursor, and gives a value and the cursor after what was read, or the first fault.
abbrev pub Reading : Type 0 → Type 0
Reading A = Cursor → Result (A × Cursor) WireFault

-- ---- readings one after the other

-- What was read is handed to the next reading, which starts where the first one ended; after a fault nothing more is read.
abbrev pub and_then : {A B : Type 0} → Result (A × Cursor) WireFault → (A → Reading B) → Result (B × Cursor) WireFault
and_then (Ok read) next = next read.0 read.1
and_then (Err fault) next = Err fault

infixl 10 ◌>>=◌
-- one reading after the other, where the second one uses the value that the first one gave
abbrev pub ◌>>=◌ : {A B : Type 0} → Reading A → (A → Reading B) → Reading B
(first >>= next) cursor = and_then (first cursor) next

infixl 10 ◌>>◌
-- one reading after the other, where the first one's value is left out
abbrev pub ◌>>◌ : {A B : Type 0} → Reading A → Reading B → Reading B
(first >> next) cursor = and_then (first cursor) (λ done. next)

-- the value of what was read, or the fault
abbrev pub value_of : {A : Type 0} → Result (A × Cursor) WireFault → Result A WireFault
value_of (Ok read) = Ok read.0
value_of (Err fault) = Err fault

-- ---- readings that take no octet

-- what the reading of a text of its own gave, or its fault
abbrev pub told : {A : Type 0} → Result A WireFault → Reading A
told (Ok value) cursor = Ok (value, cursor)
told (Err fault) cursor = Err fault

-- a value that is given without reading an octet
abbrev pub give : {A : Type 0} → A → Reading A
give value cursor = Ok (value, cursor)

-- the place in the text where reading goes on
abbrev pub place : Reading ℕ
place cursor = Ok (cursor.at, cursor)

-- the place in the datagram where reading goes on, which is where a fault is told
abbrev pub here : Reading ℕ
here cursor = Ok (cursor.base + cursor.at, cursor)

-- a fault instead of a value: this is wrong, at this place in the datagram
abbrev pub fail : {A : Type 0} → WireWhat → ℕ → Reading A
fail what at cursor = Err (fault_at what at)

-- what has to hold, else this is wrong at a place
abbrev pub check : Bool → WireWhat → ℕ → Reading (Unit {0})
check holds what at = if holds then give tt else fail what at

-- whether nothing is left of the text
abbrev pub ended : Reading Bool
ended cursor = Ok (length cursor.left == 0, cursor)

-- the end of the text; where octets are left they are too many, and the length is told as wrong where they begin
unfoldable pub end : Reading (Unit {0})
end = do
  at ← here
  nothing ← ended
  check nothing Length at

-- how many octets are left
abbrev pub octets_left : Reading ℕ
octets_left cursor = Ok (length cursor.left, cursor)

-- what was read of a text of its own, after which reading goes back to this cursor
abbrev pub back_to : {A : Type 0} → Cursor → Result (A × Cursor) WireFault → Result (A × Cursor) WireFault
back_to cursor (Ok read) = Ok (read.0, cursor)
back_to cursor (Err fault) = Err fault

-- a text of its own, which is read in this way; the text around it goes on where it was
abbrev pub inside : {A : Type 0} → Cursor → Reading A → Reading A
inside text reading cursor = back_to cursor (reading text)

-- ---- fields

-- a number of octets, which come next, as a text of their own; else this is wrong at a place
unfoldable pub part : ℕ → WireWhat → ℕ → Reading Cursor
part size what at cursor =
    if nat_le size (length cursor.left)
    then Ok (record { base = cursor.base; at = cursor.at; left = take size cursor.left }, after size cursor)
    else Err (fault_at what at)

-- A number of octets, which come next. A field that is not whole is missing: Short, where it would begin.
unfoldable pub octets : ℕ → Reading (List ℕ)
octets size = do
  at ← here
  field ← part size Short at
  give field.left

-- all octets that are left
abbrev pub rest : Reading (List ℕ)
rest cursor = Ok (cursor.left, after (length cursor.left) cursor)

-- the first octet that is no zero is wrong, where there is one
abbrev pub no_other : ℕ → Option ℕ → Reading (Unit {0})
no_other at None = give tt
no_other at (Some other) = fail Padding (at + other)

-- padding has zeros alone (RFC 2409 appendix B)
abbrev pub padding_end : Reading (Unit {0})
padding_end = do
  at ← here
  padding ← rest
  no_other at (position (λ octet. not (octet == 0)) padding)

-- an octet of a list, by its place
abbrev pub octet_at : List ℕ → ℕ → ℕ
octet_at octets at = slice_index_or octets at 0

-- a number in 1 octet
unfoldable pub octet : Reading ℕ
octet = do
  field ← octets 1
  give (octet_at field 0)

-- a number in 2 octets, the highest first
unfoldable pub number : Reading ℕ
number = do
  field ← octets 2
  give (big_from 0 2 field)

-- a number in 4 octets, the highest first
unfoldable pub long_number : Reading ℕ
long_number = do
  field ← octets 4
  give (big_from 0 4 field)

-- a number in 1 octet, where just one is due; else this is wrong, where the field begins
unfoldable pub due_octet : ℕ → WireWhat → Reading (Unit {0})
due_octet due what = do
  at ← here
  value ← octet
  check (value == due) what at

-- a number in 2 octets, where just one is due; else this is wrong, where the field begins
unfoldable pub due_number : ℕ → WireWhat → Reading (Unit {0})
due_number due what = do
  at ← here
  value ← number
  check (value == due) what at

-- a number in 4 octets, where just one is due; else this is wrong, where the field begins
unfoldable pub due_long_number : ℕ → WireWhat → Reading (Unit {0})
due_long_number due what = do
  at ← here
  value ← long_number
  check (value == due) what at

-- a kind in 1 octet, where some kinds are due; any other one is told, where the field begins
unfoldable pub due_kind : List ℕ → Reading ℕ
due_kind kinds = do
  at ← here
  kind ← octet
  check (list_any (λ due. due == kind) kinds) (Kind kind) at
  give kind

-- a kind in 2 octets, where some kinds are due; any other one is told, where the field begins
unfoldable pub due_long_kind : List ℕ → Reading ℕ
due_long_kind kinds = do
  at ← here
  kind ← number
  check (list_any (λ due. due == kind) kinds) (Kind kind) at
  give kind

-- A section of a payload's body is itself like a payload (RFC 2408 section 3.2): it has a header of four octets, with a kind, a reserved
-- octet, and the length of the whole in 2. So do the payloads of the policies of an SA (RFC 6407 section 5.2), whose header names the kind
-- of the next one, and by our reading the key packets of a key download (section 5.6), whose header names their own.
unfoldable pub section : List ℕ → Reading (ℕ × Cursor)
section kinds = do
  kind ← due_kind kinds
  due_octet 0 Reserved
  at ← here
  size ← number
  check (nat_le 4 size) Length at
  body ← part (size - 4) Length at
  give (kind, body)

-- ---- what a reader's call did

-- what a function makes of a value that was read
abbrev pub mapped : {A B : Type 0} → (A → B) → Result (A × Cursor) WireFault → Result (B × Cursor) WireFault
mapped make (Ok read) = Ok (make read.0, read.1)
mapped make (Err fault) = Err fault

-- A call that answered this, after which its reader is there, did what a reading does: it gave the value, or told the fault.
abbrev pub Gives : {A : Type 0} → Result A WireFault → Cursor → Result (A × Cursor) WireFault → Type 0
Gives (Ok value) now reading = reading ≡ Ok (value, now)
Gives (Err fault) now reading = reading ≡ Err fault

-- the same of a value that borrows, which is seen by `view`
abbrev pub Shows : {A B : Type 0} → (B → A) → Result B WireFault → Cursor → Result (A × Cursor) WireFault → Type 0
Shows view (Ok value) now reading = reading ≡ Ok (view value, now)
Shows view (Err fault) now reading = reading ≡ Err fault

-- what is left of a text from a place on
abbrev pub from_place : ℕ → ℕ → List ℕ → Cursor
from_place base at text = record { base = base; at = at; left = drop at text }

-- a call that answered this gave the value that a reading gives, seen by `view`, or told the fault; it does not say where reading goes on
abbrev pub Answers : {A B : Type 0} → (B → A) → Result B WireFault → Result (A × Cursor) WireFault → Type 0
Answers view (Ok value) reading = value_of reading ≡ Ok (view value)
Answers view (Err fault) reading = reading ≡ Err fault
