-- The sizes of what was read of a header.
use Rattle.std.proofs.Common.{◌≡◌, ◌≤◌, ◌-◌, ◌∙◌, [], ◌∷◌, ℕ, List, length, leb, Option, Some, None, Ok, sym, ap, subst, arith}
use Rattle.std.proofs.lemmas.Bool.{leb-true}
use Rattle.std.proofs.lemmas.List.{length-drop, length-take-le}
use Rattle.std.proofs.lemmas.Slice.Eq.{bytes_eq-Decides}
use Rattle.std.specs.Str.{bytes_eq}
use Rattle.byteorder.specs.Endian.{big_from}
use Rattle.gd_wire.specs.declared.headers.Header.{Header}
use Rattle.gd_wire.specs.Headers.{header, header_fields, message_id, suits_exchange, told_length}
use Rattle.gd_wire.specs.Readings.{Cursor, ◌>>◌, give, due_kind, due_octet, from_start, octet, octets, part}
use Rattle.group_terms.specs.declared.phases.Phase1.{Phase1}
use Rattle.group_terms.specs.declared.wires.WireWhat.TheVariants.{Value, Version}
use Rattle.pull_msgs.specs.Pulls.{due_message, head, head_of}
use Rattle.pull_msgs.specs.Texts.{next_iv}
use Rattle.gd_wire.proofs.ReadingLemmas.{check_ok, same_value, there_ok}
use Rattle.pull_msgs.proofs.FrontLemmas.{both_ok, value_ok}

message_size : (exchange : ℕ) (cursor : Cursor) (found : List ℕ × Cursor) → message_id exchange cursor ≡ Ok found → length found.0 ≡ 4
unfolding message_id octets part
message_size exchange cursor found is =
    let message = both_ok (octets 4 cursor) _ found is in
    let there = there_ok (leb 4 (length cursor.left)) _ _ _ message.0 message.1 in
    let suits = check_ok (suits_exchange exchange (big_from 0 4 message.0.0)) _ _ _ _ found message.2 in
    let long = length-take-le 4 cursor.left (leb-true 4 (length cursor.left) there.0) in
    ap (λ (read : List ℕ × Cursor). length read.0) (sym (same_value _ _ suits.1))
    ∙ ap (λ (read : List ℕ × Cursor). length read.0) (sym (same_value _ _ there.1)) ∙ long

fields_size : (exchange size : ℕ) (cursor : Cursor) (found : Header × Cursor) → header_fields exchange size cursor ≡ Ok found → length found.0.message ≡ 4
unfolding header_fields
fields_size exchange size cursor found is =
    let cookies = both_ok (octets 16 cursor) _ found is in
    let next = both_ok (octet cookies.0.1) _ found cookies.2 in
    let version = both_ok (due_octet 16 Version next.0.1) _ found next.2 in
    let kind = both_ok (due_kind (exchange ∷ []) version.0.1) _ found version.2 in
    let flags = both_ok (due_octet 1 Value kind.0.1) _ found kind.2 in
    let message = both_ok (message_id exchange flags.0.1) _ found flags.2 in
    let told = both_ok (told_length size message.0.1) _ found message.2 in
    ap (λ (read : Header × Cursor). length read.0.message) (sym (same_value _ _ told.2)) ∙ message_size exchange flags.0.1 message.0 message.1

header_sizes : (exchange : ℕ) (datagram : List ℕ) (found : Header × Cursor) → header exchange (from_start 0 datagram) ≡ Ok found
    → (28 ≤ length datagram) × (length found.0.message ≡ 4)
unfolding header
header_sizes exchange datagram found is =
    let least = check_ok (leb 28 (length datagram)) _ _ _ _ found is in
    let most = check_ok (leb (length datagram) 65507) _ _ _ _ found least.1 in
    (leb-true 28 (length datagram) least.0, fields_size exchange (length datagram) (from_start 0 datagram) found most.1)

-- ---- the header of a message of a pull

-- the message id is the one that is known, where one is
abbrev pub HasId : Option (List ℕ) → List ℕ → Type 0
HasId None message = Unit {0}
HasId (Some known) message = message ≡ known

id_of : (known : Option (List ℕ)) (read : Header × Cursor) (found : Header × Cursor) → (due_message known read.0.message >> give read.0) read.1 ≡ Ok found
    → (read.0 ≡ found.0) × HasId known read.0.message
id_of None read found is = (ap (λ (read : Header × Cursor). read.0) (same_value _ _ is), tt)
id_of (Some known) read found is =
    let same = check_ok (bytes_eq read.0.message known) Value 20 read.1 (λ done. give read.0) found is in
    (ap (λ (read : Header × Cursor). read.0) (same_value _ _ same.1), (bytes_eq-Decides read.0.message known).0 same.0)

-- the sizes of a datagram and of the message id in its header
pub record HasSizes (known : Option (List ℕ)) (datagram : List ℕ) (found : Header) : Type 0 where
  pub least : 28 ≤ length datagram
  pub message : length found.message ≡ 4
  pub id : HasId known found.message

pub has_sizes : (phase : Phase1) (known : Option (List ℕ)) (datagram : List ℕ) (found : Header) → head_of phase known datagram ≡ Ok found
    → HasSizes known datagram found
unfolding head
has_sizes phase known datagram found is =
    let all = value_ok _ _ is in
    let read = both_ok (header 32 (from_start 0 datagram)) _ all.0 all.1 in
    let cookies = check_ok (bytes_eq read.0.0.cookies phase.cookies) _ _ _ _ all.0 read.2 in
    let same = id_of known read.0 all.0 cookies.1 in
    let sizes = header_sizes 32 datagram read.0 read.1 in
    let header_is : read.0.0 ≡ found = same.0 ∙ all.2 in
    record {
      least = sizes.0;
      message = subst (λ (header : Header). length header.message ≡ 4) header_is sizes.1;
      id = subst (λ (header : Header). HasId known header.message) header_is same.1;
    }

-- the last block of a datagram
pub next_iv_size : (datagram : List ℕ) → 16 ≤ length datagram → length (next_iv datagram) ≡ 16
next_iv_size datagram enough = omega (arith, length-drop (length datagram - 16) datagram)
