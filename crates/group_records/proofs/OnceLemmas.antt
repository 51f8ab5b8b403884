-- A record is read as one thing at the most.
-- A new kind of record is one case more of `kind_of`, `has_kind` and `once_of_kind`; its octets begin with its kind (`kind_in`).
use Rattle.std.proofs.Common.{◌≡◌, ◌∙◌, ℕ, List, take, slice_index_or, Result, Ok, Err, sym, ap, arith}
use Rattle.gd_wire.specs.Readings.{from_start, value_of}
use Rattle.gd_wire.proofs.FieldLemmas.{due_octet_then}
use Rattle.gd_wire.proofs.ReadingLemmas.{value_ok}
use Rattle.group_terms.specs.declared.wires.WireFault.{WireFault}
use Rattle.group_terms.specs.declared.wires.WireWhat.TheVariants.{Value}
use Rattle.group_records.specs.declared.batches.Stored.{Stored}
use Rattle.group_records.specs.declared.heads.Head.{Head}
use Rattle.group_records.specs.Readings.{head_record, batch_record}
use Rattle.group_records.specs.Records.{IsHeadOf, IsBatchOf, IsReadAs, Record, a_head, a_batch}
use Rattle.group_records.specs.Texts.{head_kind, batch_kind}

value_or : {A : Type 0} → A → Result A WireFault → A
value_or other (Ok value) = value
value_or other (Err fault) = other

value_once : {A : Type 0} (answer : Result A WireFault) (one other : A) → answer ≡ Ok one → answer ≡ Ok other → one ≡ other
unfolding value_or
value_once answer one other first second = ap (value_or one) (sym first ∙ second)

pub head_once : (body : List ℕ) (one other : Head) → IsHeadOf body one → IsHeadOf body other → one ≡ other
head_once body one other = value_once (value_of (head_record (from_start 0 body))) one other

pub batch_once : (body : List ℕ) (one other : Stored) → IsBatchOf body one → IsBatchOf body other → one ≡ other
batch_once body one other = value_once (value_of (batch_record (from_start 0 body))) one other

-- the kind of a record is its first octet
abbrev kind_in : List ℕ → ℕ
kind_in body = slice_index_or (take 1 body) 0 0

head_has_kind : (body : List ℕ) (head : Head) → IsHeadOf body head → kind_in body ≡ head_kind
unfolding head_record
head_has_kind body head is =
    let read = value_ok (head_record (from_start 0 body)) head is in
    (due_octet_then head_kind Value (from_start 0 body) _ (head, read.0) read.1).1

batch_has_kind : (body : List ℕ) (stored : Stored) → IsBatchOf body stored → kind_in body ≡ batch_kind
unfolding batch_record
batch_has_kind body stored is =
    let read = value_ok (batch_record (from_start 0 body)) stored is in
    (due_octet_then batch_kind Value (from_start 0 body) _ (stored, read.0) read.1).1

abbrev kind_of : Record → ℕ
kind_of (a_head head) = head_kind
kind_of (a_batch stored) = batch_kind

has_kind : (body : List ℕ) (said : Record) → IsReadAs body said → kind_in body ≡ kind_of said
has_kind body (a_head head) is = head_has_kind body head is
has_kind body (a_batch stored) is = batch_has_kind body stored is

once_of_kind : (body : List ℕ) (one other : Record) → kind_of one ≡ kind_of other → IsReadAs body one → IsReadAs body other → one ≡ other
once_of_kind body (a_head one) (a_head other) same is was = ap a_head (head_once body one other is was)
once_of_kind body (a_batch one) (a_batch other) same is was = ap a_batch (batch_once body one other is was)
once_of_kind body (a_head one) (a_batch other) same is was = absurd (omega (arith, same))
once_of_kind body (a_batch one) (a_head other) same is was = absurd (omega (arith, same))

pub read_once : (body : List ℕ) (one other : Record) → IsReadAs body one → IsReadAs body other → one ≡ other
read_once body one other is was = once_of_kind body one other (sym (has_kind body one is) ∙ has_kind body other was) is was
