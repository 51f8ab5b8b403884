-- Headers: writing and reading undo each other.
use Rattle.std.proofs.Common.{◌≡◌, ℕ, ◌+◌, ◌-◌, ◌%◌, ◌<◌, ◌≤◌, true, List, ◌∷◌, ◌++◌, length, take, drop, slice_index_or}
use Rattle.std.proofs.Common.{leb, Ok, sym, refl, ap, ◌∙◌, subst, append_assoc, length-append, take-append-drop, arith}
use Rattle.std.proofs.lemmas.Bool.{le-leb, leb-true, lt-ltb, eq-eqb}
use Rattle.std.proofs.lemmas.Bool.Decides.{nat_tests}
use Rattle.std.proofs.lemmas.List.{length-take-le}
use Rattle.std.proofs.lemmas.List.Elements.{All-take, All-drop}
use Rattle.byteorder.specs.Endian.{big_from, big_bytes}
use Rattle.group_terms.specs.Octets.{IsOctet, AreOctets}
use Rattle.group_terms.specs.declared.wires.WireWhat.TheVariants.{Version, Value}
use Rattle.gd_wire.specs.declared.headers.Header.{Header}
use Rattle.gd_wire.specs.Readings.{Cursor, Reading, and_then, after, from_start, octets, long_number, due_octet, due_kind}
use Rattle.gd_wire.specs.Headers.{header_text, suits_exchange, is_due_length, message_id, told_length, header_fields, header, HeaderFits}
use Rattle.gd_wire.proofs.ReadingLemmas.{nested, check_ok, checked_ok, same_value}
use Rattle.gd_wire.proofs.FieldLemmas.{octets_then, octet_then, long_number_then, due_octet_then, due_kind_then, first_small, octet_text}
use Rattle.gd_wire.proofs.FieldLemmas.{long_number_text, octets_written, octet_written, long_number_written}

-- a header has 28 octets
pub header_long : (head : Header) → length head.cookies ≡ 16 → length head.message ≡ 4 → length (header_text head) ≡ 28
header_long head cookies message =
    let front : List ℕ = head.next ∷ 16 ∷ head.exchange ∷ 1 ∷ head.message in
    length-append (head.cookies ++ front) (big_bytes 4 head.length) ∙ omega (arith, cookies, length-append head.cookies front, message)

due : (told all : ℕ) → told ≡ all → 28 < all → (all - 28) % 16 ≡ 0 → is_due_length told all ≡ true
due told all same some whole =
    let first = eq-eqb told all same in
    let second = lt-ltb 28 all some in
    let third = eq-eqb ((all - 28) % 16) 0 whole in
    rw (first, second, third) refl

-- ---- a written header is read

pub header_written : (found : Header) (body : List ℕ) → HeaderFits found body
    → header found.exchange (from_start 0 (header_text found ++ body)) ≡ Ok (found, record { base = 0; at = 28; left = body })
unfolding header header_fields message_id told_length due_octet due_kind
header_written found body fits =
    let last : List ℕ = big_bytes 4 found.length ++ body in
    let later : List ℕ = found.next ∷ 16 ∷ found.exchange ∷ 1 ∷ (found.message ++ last) in
    let text : List ℕ = found.cookies ++ later in
    let one = length-append found.cookies later in
    let two = length-append found.message last in
    let long : length text ≡ 28 + length body = omega (arith, fits.cookies, fits.message) in
    let text_is : header_text found ++ body ≡ text =
    append_assoc (found.cookies ++ found.next ∷ 16 ∷ found.exchange ∷ 1 ∷ found.message) (big_bytes 4 found.length) body
    ∙ append_assoc found.cookies (found.next ∷ 16 ∷ found.exchange ∷ 1 ∷ found.message) last in
    let told : is_due_length found.length (length text) ≡ true =
    due found.length (length text) (fits.told ∙ sym long) (omega (arith, fits.some))
    (ap (λ n. (n - 28) % 16) long ∙ omega (arith, fits.blocks)) in
    rw (
      text_is,
      le-leb 28 (length text) (omega arith),
      le-leb (length text) 65507 (omega (arith, fits.small)),
      octets_written 16 0 0 found.cookies later (sym fits.cookies),
      octet_written 0 16 found.next (drop 1 later),
      octet_written 0 17 16 (drop 2 later),
      octet_written 0 18 found.exchange (drop 3 later),
      eq-eqb found.exchange found.exchange refl,
      octet_written 0 19 1 (found.message ++ last),
      octets_written 4 0 20 found.message last (sym fits.message),
      fits.suits,
      long_number_written 0 24 found.length body (omega (arith, fits.told, fits.small)),
      told,
    ) refl

-- ---- what is known of a header that was read

message_then : {B : Type 0} (exchange : ℕ) (cursor : Cursor) (next : List ℕ → Reading B) (all : B × Cursor)
    → and_then (message_id exchange cursor) next ≡ Ok all
    → (4 ≤ length cursor.left) × (suits_exchange exchange (big_from 0 4 (take 4 cursor.left)) ≡ true) ×
    (next (take 4 cursor.left) (after 4 cursor) ≡ Ok all)
unfolding message_id
message_then exchange cursor next all e =
    let message : List ℕ = take 4 cursor.left in
    let found = octets_then 4 cursor _ all (sym (nested (octets 4 cursor) _ next) ∙ e) in
    let same = checked_ok (suits_exchange exchange (big_from 0 4 message)) _ _ message (after 4 cursor) next all found.1 in
    (found.0, same.0, same.1)

told_then : {B : Type 0} (size : ℕ) (cursor : Cursor) (next : ℕ → Reading B) (all : B × Cursor)
    → and_then (told_length size cursor) next ≡ Ok all
    → (4 ≤ length cursor.left) × (is_due_length (big_from 0 4 (take 4 cursor.left)) size ≡ true) ×
    (next (big_from 0 4 (take 4 cursor.left)) (after 4 cursor) ≡ Ok all)
unfolding told_length
told_then size cursor next all e =
    let told : ℕ = big_from 0 4 (take 4 cursor.left) in
    let found = long_number_then cursor _ all (sym (nested (long_number cursor) _ next) ∙ e) in
    let same = checked_ok (is_due_length told size) _ _ told (after 4 cursor) next all found.1 in
    (found.0, same.0, same.1)

due_parts : (told all : ℕ) → is_due_length told all ≡ true → (told ≡ all) × (28 < all) × ((all - 28) % 16 ≡ 0)
due_parts told all is_due = (grind (arith, nat_tests), grind (arith, nat_tests), grind (arith, nat_tests))

-- a header that was read, in a datagram of octets: the text of its fields comes before what is left, which it suits
pub record IsHeader (datagram : List ℕ) (read : Header × Cursor) : Type 0 where
  pub text : datagram ≡ header_text read.0 ++ read.1.left
  pub fits : HeaderFits read.0 read.1.left

-- the fields of a header that was read, in any datagram; in one of octets it is a header
pub record IsFound (exchange : ℕ) (datagram : List ℕ) (read : Header × Cursor) : Type 0 where
  pub cookies : read.0.cookies ≡ take 16 datagram
  pub exchange_is : read.0.exchange ≡ exchange
  pub of_octets : AreOctets datagram → IsHeader datagram read

pub header_found : (exchange : ℕ) (datagram : List ℕ) (read : Header × Cursor) → header exchange (from_start 0 datagram) ≡ Ok read
    → IsFound exchange datagram read
unfolding header header_fields
header_found exchange datagram read e =
    let long = check_ok (leb 28 (length datagram)) _ _ _ _ read e in
    let few = check_ok (leb (length datagram) 65507) _ _ _ _ read long.1 in
    let start : Cursor = from_start 0 datagram in
    let cookies = octets_then 16 start _ read few.1 in
    let c16 : Cursor = after 16 start in
    let next = octet_then c16 _ read cookies.1 in
    let c17 : Cursor = after 1 c16 in
    let version = due_octet_then 16 Version c17 _ read next.1 in
    let c18 : Cursor = after 1 c17 in
    let kind = due_kind_then exchange c18 _ read version.2 in
    let c19 : Cursor = after 1 c18 in
    let flags = due_octet_then 1 Value c19 _ read kind.2 in
    let c20 : Cursor = after 1 c19 in
    let message = message_then exchange c20 _ read flags.2 in
    let c24 : Cursor = after 4 c20 in
    let told = told_then (length datagram) c24 _ read message.2 in
    let c28 : Cursor = after 4 c24 in
    subst (IsFound exchange datagram) (same_value _ _ told.2) (record {
      cookies = refl;
      exchange_is = kind.1;
      of_octets = λ small.
          let s16 = All-drop IsOctet 16 datagram small in
          let s17 = All-drop IsOctet 1 c16.left s16 in
          let s18 = All-drop IsOctet 1 c17.left s17 in
          let s19 = All-drop IsOctet 1 c18.left s18 in
          let s20 = All-drop IsOctet 1 c19.left s19 in
          let s24 = All-drop IsOctet 4 c20.left s20 in
          let first : ℕ = slice_index_or (take 1 c16.left) 0 0 in
          let exchange_is : ℕ = slice_index_or (take 1 c18.left) 0 0 in
          let size : List ℕ = big_bytes 4 (big_from 0 4 (take 4 c24.left)) in
          let middle : List ℕ = first ∷ 16 ∷ exchange_is ∷ 1 ∷ take 4 c20.left in
          let text : datagram ≡ take 16 datagram ++ (middle ++ (size ++ c28.left)) =
          sym (take-append-drop 16 datagram) ∙ ap (λ rest. take 16 datagram ++ rest) (
          octet_text c16.left next.0 ∙ ap (λ rest. first ∷ rest) (
          octet_text c17.left version.0 ∙ (λ i. version.1 i ∷ octet_text c18.left kind.0 i) ∙ ap (λ rest. 16 ∷ exchange_is ∷ rest) (
          octet_text c19.left flags.0 ∙ (λ i. flags.1 i ∷ sym (take-append-drop 4 c20.left) i)
          ∙ ap (λ rest. 1 ∷ (take 4 c20.left ++ rest)) (long_number_text c24.left s24 told.0)))) in
          let cookies_long : length (take 16 datagram) ≡ 16 = length-take-le 16 datagram cookies.0 in
          let message_long : length (take 4 c20.left) ≡ 4 = length-take-le 4 c20.left message.0 in
          let one = length-append (take 16 datagram) (middle ++ (size ++ c28.left)) in
          let two = length-append (take 4 c20.left) (size ++ c28.left) in
          let all : length datagram ≡ 28 + length c28.left = omega (arith, ap length text) in
          let parts = due_parts (big_from 0 4 (take 4 c24.left)) (length datagram) told.1 in
          record {
            text = text
                ∙ sym (append_assoc (take 16 datagram ++ middle) size c28.left ∙ append_assoc (take 16 datagram) middle (size ++ c28.left));
            fits = record {
              cookies = cookies_long;
              cookie_octets = All-take IsOctet 16 datagram small;
              next = first_small c16.left s16 next.0;
              exchange = first_small c18.left s18 kind.0;
              message = message_long;
              message_octets = All-take IsOctet 4 c20.left s20;
              suits = (λ i. suits_exchange (kind.1 i) (big_from 0 4 (take 4 c20.left))) ∙ message.1;
              told = parts.0 ∙ all;
              some = omega (arith, parts.1);
              blocks = sym (ap (λ n. (n - 28) % 16) all ∙ omega arith) ∙ parts.2;
              small = omega (arith, leb-true (length datagram) 65507 few.0);
            };
          };
    })

pub header_read : (exchange : ℕ) (datagram : List ℕ) (read : Header × Cursor) → AreOctets datagram
    → header exchange (from_start 0 datagram) ≡ Ok read → IsHeader datagram read
header_read exchange datagram read small is = (header_found exchange datagram read is).of_octets small
