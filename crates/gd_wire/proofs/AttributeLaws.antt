-- The one text of an attribute, and that attributes that were written are read.
use Rattle.std.proofs.Common.{◌≡◌, ℕ, ◌+◌, ◌%◌, ◌<◌, ◌≤◌, Bool, true, false, List, ◌++◌, length, take, drop, leb, Result, Ok, Err, IfOk}
use Rattle.std.proofs.Common.{if◌then◌else◌, refl, sym, ap, ◌∙◌, subst, length-append, length-take-le, length-drop, take-append-drop, arith}
use Rattle.std.proofs.lemmas.Bool.{leb-true, leb-false, le-leb, lt-leb}
use Rattle.std.proofs.lemmas.List.{drop-drop, take_at, drop_at}
use Rattle.std.proofs.lemmas.List.Elements.{All-take, All-drop}
use Rattle.byteorder.specs.Endian.{big_from, big_bytes}
use Rattle.group_terms.specs.Octets.{IsOctet, AreOctets}
use Rattle.group_terms.specs.declared.wires.WireWhat.TheVariants.{Short}
use Rattle.group_terms.specs.declared.wires.WireFault.{WireFault}
use Rattle.gd_wire.specs.declared.attributes.Attribute.{Attribute}
use Rattle.gd_wire.specs.declared.attributes.AttrValue.{AttrValue}
use Rattle.gd_wire.specs.declared.attributes.AttrValue.TheVariants as Values
use Rattle.gd_wire.specs.Readings.{Cursor, Reading, and_then, value_of, from_place, after, number, part}
use Rattle.gd_wire.specs.Attributes.{attribute_type, short_value, long_value, long_place, attribute}
use Rattle.gd_wire.specs.Attributes.{short_text, long_text, attribute_text}
use Rattle.gd_wire.proofs.NumberLemmas.{big_from-small}
use Rattle.gd_wire.proofs.ReadingLemmas.{nested, same_value}
use Rattle.gd_wire.proofs.FieldLemmas.{part_then, number_then, number_text, number_written}

-- an attribute is there whole, and reading goes on after it
pub record IsAttribute (cursor : Cursor) (read : Attribute × Cursor) : Type 0 where
  pub next : read.0.next ≡ read.1.at
  pub four : cursor.at + 4 ≤ read.1.at
  pub room : read.1.at + length read.1.left ≡ cursor.at + length cursor.left
  pub text : (whole : List ℕ) → AreOctets cursor.left → cursor.left ≡ drop cursor.at whole
      → cursor.left ≡ attribute_text whole read.0 ++ read.1.left

-- the numbers in its first four octets
module _ (cursor : Cursor) where
  abbrev type : ℕ
  type = big_from 0 2 (take 2 cursor.left)

  abbrev told : ℕ
  told = big_from 0 2 (take 2 (drop 2 cursor.left))

module _ (cursor : Cursor) (two : 2 ≤ length cursor.left) (four : 2 ≤ length (drop 2 cursor.left)) where
  abbrev rest : List ℕ
  rest = drop 2 (drop 2 cursor.left)

  length_is : length rest + 4 ≡ length cursor.left
  length_is = omega (arith, length-drop 2 (drop 2 cursor.left), length-drop 2 cursor.left)

  left_is : AreOctets cursor.left → cursor.left ≡ big_bytes 2 (type cursor) ++ (big_bytes 2 (told cursor) ++ rest)
  left_is octets = number_text cursor.left octets two
      ∙ ap (λ later. big_bytes 2 (type cursor) ++ later) (number_text (drop 2 cursor.left) (All-drop IsOctet 2 cursor.left octets) four)

  short_read : 32768 ≤ type cursor
      → IsAttribute cursor (
        record { kind = type cursor % 32768; value = Values.Short (told cursor); next = cursor.at + 2 + 2 },
        after 2 (after 2 cursor),
      )
  short_read bit = record {
    next = refl;
    four = omega arith;
    room = omega (arith, length_is);
    text = λ whole octets from.
        let small = big_from-small 0 2 (take 2 cursor.left) (All-take IsOctet 2 cursor.left octets) in
        let kind : type cursor ≡ 32768 + type cursor % 32768 = omega arith in
        left_is octets ∙ ap (λ number. big_bytes 2 number ++ (big_bytes 2 (told cursor) ++ rest)) kind;
  }

  long_read : type cursor < 32768 → told cursor ≤ length rest
      → IsAttribute cursor (
        record {
          kind = type cursor % 32768;
          value = Values.Long (cursor.at + 2 + 2) (length (take (told cursor) rest));
          next = cursor.at + 2 + 2 + told cursor;
        },
        after (told cursor) (after 2 (after 2 cursor)),
      )
  long_read low within =
      let size : length (take (told cursor) rest) ≡ told cursor = length-take-le (told cursor) rest within in
      record {
        next = refl;
        four = omega arith;
        room = omega (arith, length_is, length-drop (told cursor) rest);
        text = λ whole octets from.
            let kind : type cursor ≡ type cursor % 32768 = omega arith in
            let value : take (told cursor) rest ≡ take (length (take (told cursor) rest)) (drop (cursor.at + 2 + 2) whole) =
            (λ i. take (sym size i) (drop 2 (drop 2 (from i))))
            ∙ ap (λ octets. take (length (take (told cursor) rest)) (drop 2 octets)) (drop-drop 2 cursor.at whole)
            ∙ ap (take (length (take (told cursor) rest))) (drop-drop 2 (cursor.at + 2) whole) in
            let all : told cursor ≡ length (take (length (take (told cursor) rest)) (drop (cursor.at + 2 + 2) whole)) = sym size
            ∙ ap length value in
            left_is octets
            ∙ ap (λ later. big_bytes 2 (type cursor) ++ (big_bytes 2 (told cursor) ++ later))
            (sym (take-append-drop (told cursor) rest))
            ∙ (λ i. big_bytes 2 (kind i) ++ (big_bytes 2 (all i) ++ (value i ++ drop (told cursor) rest)));
      }

module _ (cursor : Cursor) (read : Attribute × Cursor) (two : 2 ≤ length cursor.left) where
  abbrev then_read : AttrValue → Reading Attribute
  then_read value now = Ok (record { kind = type cursor % 32768; value = value; next = now.at }, now)

  by_short : 32768 ≤ type cursor → and_then (short_value (after 2 cursor)) then_read ≡ Ok read → IsAttribute cursor read
  unfolding short_value
  by_short bit e =
      let found = number_then (after 2 cursor) _ read (sym (nested (number (after 2 cursor)) _ then_read) ∙ e) in
      subst (IsAttribute cursor) (same_value _ _ found.1) (short_read cursor two found.0 bit)

  by_long : type cursor < 32768 → and_then (long_place (after 2 cursor)) then_read ≡ Ok read → IsAttribute cursor read
  unfolding long_place long_value
  by_long low e =
      let one = sym (nested (long_value (after 2 cursor)) _ then_read) ∙ e in
      let found = number_then (after 2 cursor) _ read (sym (nested (number (after 2 cursor)) _ _) ∙ one) in
      let value = part_then (told cursor) Short _ (after 2 (after 2 cursor)) _ read found.1 in
      subst (IsAttribute cursor) (same_value _ _ value.1) (long_read cursor two found.0 low value.0)

pub attribute_read : (cursor : Cursor) (read : Attribute × Cursor) → attribute cursor ≡ Ok read → IsAttribute cursor read
unfolding attribute attribute_type
attribute_read cursor read e =
    let found = number_then cursor _ read (sym (nested (number cursor) _ _) ∙ e) in
    let by_form : (short : Bool) → leb 32768 (type cursor) ≡ short → and_then
    ((if short then short_value else long_place) (after 2 cursor)) (then_read cursor read found.0) ≡ Ok read → IsAttribute cursor read =
    λ short. elim short as (λ short. leb 32768 (type cursor) ≡ short → and_then
    ((if short then short_value else long_place) (after 2 cursor)) (then_read cursor read found.0) ≡ Ok read → IsAttribute cursor
    read) [
      | true ↦ λ bit e. by_short cursor read found.0 (leb-true 32768 (type cursor) bit) e
      | false ↦ λ low e. by_long cursor read found.0 (leb-false 32768 (type cursor) low) e
    ] in
    by_form (leb 32768 (type cursor)) refl found.1

-- so what is after it lies in the text
pub attribute_within : (text : List ℕ) (at base : ℕ) → at ≤ length text → (answer : Result Attribute WireFault)
    → answer ≡ value_of (attribute (from_place base at text))
    → IfOk answer (λ attribute. (at + 4 ≤ attribute.next) × (attribute.next ≤ length text))
attribute_within text at base within answer same =
    let Q : Result Attribute WireFault → Type 0 = λ answer. IfOk answer
    (λ attribute. (at + 4 ≤ attribute.next) × (attribute.next ≤ length text)) in
    subst Q (sym same) (elim (attribute (from_place base at text)) as (λ read. attribute (from_place base at text) ≡ read → Q
    (value_of read)) [
      | Ok read ↦ λ e. let is = attribute_read (from_place base at text) read e in
          (omega (arith, is.next, is.four), omega (arith, is.next, is.room, length-drop at text))
      | Err fault ↦ λ e. tt
    ] refl)

-- ---- what was written is read

pub short_written : (kind number base at : ℕ) (later : List ℕ) → kind < 32768 → number < 65536
    → attribute (record { base = base; at = at; left = short_text kind number ++ later })
    ≡ Ok (record { kind = kind; value = Values.Short number; next = at + 4 }, record { base = base; at = at + 4; left = later })
unfolding attribute attribute_type short_value
short_written kind number base at later kind_small small =
    let place : at + 2 + 2 ≡ at + 4 = omega arith in
    let low : (32768 + kind) % 32768 ≡ kind = omega arith in
    rw (
      number_written base at (32768 + kind) (big_bytes 2 number ++ later) (omega arith),
      le-leb 32768 (32768 + kind) (omega arith),
      low,
      number_written base (at + 2) number later small,
    )
    (λ i. Ok (record { kind = kind; value = Values.Short number; next = place i }, record { base = base; at = place i; left = later }))

pub long_written : (kind base at : ℕ) (value later : List ℕ) → kind < 32768 → length value < 65536
    → attribute (record { base = base; at = at; left = long_text kind value ++ later })
    ≡ Ok (
      record { kind = kind; value = Values.Long (at + 4) (length value); next = at + 4 + length value },
      record { base = base; at = at + 4 + length value; left = later },
    )
unfolding attribute attribute_type long_place long_value part
long_written kind base at value later kind_small small =
    let start : at + 2 + 2 ≡ at + 4 = omega arith in
    let low : kind % 32768 ≡ kind = omega arith in
    let there = le-leb (length value) (length (value ++ later)) (omega (arith, length-append value later)) in
    rw (
      number_written base at kind (big_bytes 2 (length value) ++ (value ++ later)) (omega arith),
      lt-leb 32768 kind kind_small,
      low,
      number_written base (at + 2) (length value) (value ++ later) small,
      there,
      take_at value later (length value) refl,
      drop_at value later (length value) refl,
    ) (λ i. Ok (
      record { kind = kind; value = Values.Long (start i) (length value); next = start i + length value },
      record { base = base; at = start i + length value; left = later },
    ))
