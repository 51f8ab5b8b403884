-- What is known of a payload that was read.
use Rattle.std.proofs.Common.{◌≡◌, ℕ, ◌+◌, ◌-◌, ◌<◌, ◌≤◌, List, [], ◌∷◌, ◌++◌, length, take, drop, leb, Ok, refl, sym, ap, ◌∙◌, subst, arith}
use Rattle.std.specs.Prelude.{◌==◌}
use Rattle.std.proofs.lemmas.Bool.{eqb-true, leb-true, le-leb}
use Rattle.std.proofs.lemmas.List.{take-append-drop, length-take, length-take-le}
use Rattle.std.proofs.lemmas.List.Elements.{All-head}
use Rattle.byteorder.specs.Endian.{big_from, big_bytes}
use Rattle.group_terms.specs.Octets.{IsOctet, AreOctets}
use Rattle.gd_wire.specs.declared.chains.Part.{Part}
use Rattle.gd_wire.specs.declared.chains.Named.{Named}
use Rattle.gd_wire.specs.Readings.{Cursor, from_start, number, octet, octets, part, due_octet}
use Rattle.gd_wire.specs.Chains.{PartFits, GoesThrough, body_of, payload, payload_text}
use Rattle.gd_wire.proofs.NumberLemmas.{big_from-small, big_bytes-big_from}
use Rattle.gd_wire.proofs.ReadingLemmas.{check_ok, there_ok, same_value}

-- a payload of this kind, which was named, is there whole, and reading goes on after it
pub record IsPayload (kind : ℕ) (named : Named) (cursor : Cursor) (read : (Part × Named) × Cursor) : Type 0 where
  pub same : named.kind ≡ kind
  pub kind_is : read.0.0.kind ≡ kind
  pub at : read.0.0.at ≡ cursor.base + cursor.at
  pub start : read.0.0.start ≡ cursor.at + 4
  pub fits : read.0.0.length + 4 ≤ length cursor.left
  pub base : read.1.base ≡ cursor.base
  pub place : read.1.at ≡ cursor.at + 4 + read.0.0.length
  pub left : read.1.left ≡ drop read.0.0.length (drop 4 cursor.left)
  pub small : AreOctets cursor.left → read.0.0.length ≤ 65531
  pub names : AreOctets cursor.left → read.0.1.kind < 256
  pub text : AreOctets cursor.left → cursor.left ≡ payload_text read.0.1.kind (take read.0.0.length (drop 4 cursor.left)) ++ read.1.left

pub payload_read : (kind : ℕ) (named : Named) (base at : ℕ) (left : List ℕ) (read : (Part × Named) × Cursor)
    → payload kind named (record { base = base; at = at; left = left }) ≡ Ok read
    → IsPayload kind named (record { base = base; at = at; left = left }) read
unfolding payload number octet octets part due_octet
payload_read kind named base at [] read e = let one = check_ok (named.kind == kind) _ _ _ _ _ e in absurd (cc)
payload_read kind named base at (next ∷ []) read e = let one = check_ok (named.kind == kind) _ _ _ _ _ e in absurd (cc)
payload_read kind named base at (next ∷ reserved ∷ []) read e = let one = check_ok (named.kind == kind) _ _ _ _ _ e in absurd (cc)
payload_read kind named base at (next ∷ reserved ∷ high ∷ []) read e = let one = check_ok (named.kind == kind) _ _ _ _ _ e in absurd (cc)
payload_read kind named base at (next ∷ reserved ∷ high ∷ low ∷ rest) read e =
    let size : ℕ = big_from 0 2 (high ∷ low ∷ []) in
    let one = check_ok (named.kind == kind) _ _ _ _ _ e in
    let four_there = le-leb 4 (length (next ∷ reserved ∷ high ∷ low ∷ rest)) (omega arith) in
    let one_there = le-leb 1 (length (next ∷ reserved ∷ high ∷ low ∷ rest)) (omega arith) in
    let next_there = le-leb 1 (length (reserved ∷ high ∷ low ∷ rest)) (omega arith) in
    let two_there = le-leb 2 (length (high ∷ low ∷ rest)) (omega arith) in
    let begun = rw (four_there, one_there, next_there) at one.1 in
    let two = check_ok (reserved == 0) _ _ _ _ _ begun in
    let told = rw two_there at two.1 in
    let three = check_ok (leb 4 size) _ _ _ _ _ told in
    let four = there_ok (leb (size - 4) (length rest)) _ _ _ _ three.1 in
    let least : 4 ≤ size = leb-true 4 size three.0 in
    let within : size - 4 ≤ length rest = leb-true (size - 4) (length rest) four.0 in
    let none : reserved ≡ 0 = eqb-true reserved 0 two.0 in
    let left : List ℕ = next ∷ reserved ∷ high ∷ low ∷ rest in
    let body : List ℕ = take (size - 4) rest in
    let long : length body ≡ size - 4 = length-take-le (size - 4) rest within in
    let sized : length body + 4 ≡ size = omega arith in
    subst (IsPayload kind named (record { base = base; at = at; left = left })) (same_value _ _ four.1) (record {
      same = eqb-true named.kind kind one.0;
      kind_is = refl;
      at = refl;
      start = omega arith;
      fits = omega arith;
      base = refl;
      place = omega arith;
      left = refl;
      small = λ octets. let small = big_from-small 2 2 left octets in omega arith;
      names = λ octets. All-head IsOctet next (reserved ∷ high ∷ low ∷ rest) octets;
      text = λ octets.
          let told : big_bytes 2 (length body + 4) ≡ high ∷ low ∷ [] = ap (big_bytes 2) sized
          ∙ big_bytes-big_from 2 2 left octets (omega arith) in
          λ i. next ∷ none i ∷ (sym told i ++ sym (take-append-drop (size - 4) rest) i);
    })

-- ---- payloads in the text of a datagram, after its header

-- the start of a text
pub at_start : (text : List ℕ) (base : ℕ) (cursor : Cursor) → cursor ≡ from_start base text → GoesThrough text base cursor
at_start text base cursor is = subst (GoesThrough text base) (sym is) (record { base_is = refl; within = omega arith; left = refl })

-- the place after a payload has 32 bits
pub part_small : (text : List ℕ) (part : Part) → 28 + length text ≤ 65507 → PartFits text 28 part → part.at + 4 + part.length ≤ 4294967295
part_small text part few fits = omega (arith, few, fits.within, fits.place)

pub body_small : (text body : List ℕ) (part : Part) → 28 + length text ≤ 65507 → PartFits text 28 part → body ≡ body_of text part → part.at + 4 + length body ≤ 4294967295
body_small text body part few fits is =
    let long = length-take part.length (drop part.start text) in
    omega (arith, few, fits.within, fits.place, ap length is, long)
