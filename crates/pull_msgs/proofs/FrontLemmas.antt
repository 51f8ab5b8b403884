-- What is known of a text of which a HASH was read as its first payload, and how reading goes on after that.
-- A text of which just the first block is another one than was written is again a HASH with the payloads that were written after it (`Front`), so what
-- is read of it is computed as that of a written text.
use Rattle.std.proofs.Common.{◌≡◌, ◌≤◌, ◌<◌, ◌+◌, ◌*◌, ◌-◌, ◌∙◌, ◌++◌, [], ◌∷◌, ℕ, List, length, take, drop, leb, Result, Ok, Err}
use Rattle.std.proofs.Common.{refl, ap, sym, arith}
use Rattle.std.proofs.lemmas.Bool.{eqb-true, leb-true, le-leb}
use Rattle.std.proofs.lemmas.List.{length-take-le, take-append-drop}
use Rattle.std.specs.Prelude.{◌==◌}
use Rattle.byteorder.specs.Endian.{big_bytes, big_from}
use Rattle.gd_wire.specs.declared.chains.Named.{Named}
use Rattle.gd_wire.specs.declared.chains.Part.{Part}
use Rattle.gd_wire.specs.Bodies as bodies
use Rattle.gd_wire.specs.Bodies.{body_cursor, length_place}
use Rattle.gd_wire.specs.Chains.{body_of, named_first, payload, payload_text}
use Rattle.gd_wire.specs.Readings.{Cursor, Reading, and_then, value_of, told, from_start, part, octets, octet, number, due_octet}
use Rattle.gd_wire.proofs.ReadingLemmas.{check_ok, same_value, there_ok}
use Rattle.group_terms.specs.declared.wires.WireFault.{WireFault}
use Rattle.pull_msgs.specs.Readings.{PullRead, FourthSaid, SecondSaid, hash_payload, second, fourth}

-- ---- a reading that gave a value

pub value_ok : {A : Type 0} (read : Result (A × Cursor) WireFault) (given : A) → value_of read ≡ Ok given
    → (all : A × Cursor) × (read ≡ Ok all) × (all.0 ≡ given)
value_ok (Ok all) given is = (all, refl, same_value all.0 given is)
value_ok (Err fault) given is = absurd (cc)

-- each of two readings did, one after the other
pub both_ok : {A B : Type 0} (read : Result (A × Cursor) WireFault) (next : A → Reading B) (all : B × Cursor) → and_then read next ≡ Ok all
    → (first : A × Cursor) × (read ≡ Ok first) × (next first.0 first.1 ≡ Ok all)
both_ok (Ok first) next all is = (first, refl, is)
both_ok (Err fault) next all is = absurd (cc)

pub told_ok : {A B : Type 0} (read : Result A WireFault) (cursor : Cursor) (next : A → Reading B) (all : B × Cursor)
    → and_then (told read cursor) next ≡ Ok all → (value : A) × (read ≡ Ok value) × (next value cursor ≡ Ok all)
told_ok (Ok value) cursor next all is = (value, refl, is)
told_ok (Err fault) cursor next all is = absurd (cc)

-- ---- the HASH

-- the first payload, which the header of the datagram named as a HASH: what it names as the next one, and the HASH
pub record Front (text : List ℕ) (first : ℕ) : Type 0 where
  pub named : first ≡ 8
  pub kind : ℕ
  pub digest : List ℕ
  pub long : length digest ≡ 32
  pub is_text : text ≡ payload_text kind digest ++ drop 36 text

-- a payload that was read at the start of a text of four octets and more
record IsFirstPart (reserved high low : ℕ) (rest : List ℕ) (first : ℕ) (part : Part) : Type 0 where
  named : first ≡ 8
  none : reserved ≡ 0
  least : 4 ≤ big_from 0 2 (high ∷ low ∷ [])
  within : big_from 0 2 (high ∷ low ∷ []) - 4 ≤ length rest
  start : part.start ≡ 4
  size : part.length ≡ big_from 0 2 (high ∷ low ∷ []) - 4

first_part : (kind reserved high low : ℕ) (rest : List ℕ) (first : ℕ) (read : (Part × Named) × Cursor)
    → payload 8 (named_first first) (from_start 28 (kind ∷ reserved ∷ high ∷ low ∷ rest)) ≡ Ok read
    → IsFirstPart reserved high low rest first read.0.0
unfolding payload number octet octets part due_octet
first_part kind reserved high low rest first read is =
    let size : ℕ = big_from 0 2 (high ∷ low ∷ []) in
    let one = check_ok (first == 8) _ _ _ _ _ is in
    let four_there = le-leb 4 (length (kind ∷ reserved ∷ high ∷ low ∷ rest)) (omega arith) in
    let one_there = le-leb 1 (length (kind ∷ reserved ∷ high ∷ low ∷ rest)) (omega arith) in
    let next_there = le-leb 1 (length (reserved ∷ high ∷ low ∷ rest)) (omega arith) in
    let two_there = le-leb 2 (length (high ∷ low ∷ rest)) (omega arith) in
    let begun = rw (four_there, one_there, next_there) at one.1 in
    let two = check_ok (reserved == 0) _ _ _ _ _ begun in
    let sized = rw two_there at two.1 in
    let three = check_ok (leb 4 size) _ _ _ _ _ sized in
    let four = there_ok (leb (size - 4) (length rest)) _ _ _ _ three.1 in
    let same = same_value _ _ four.1 in
    record {
      named = eqb-true first 8 one.0;
      none = eqb-true reserved 0 two.0;
      least = leb-true 4 size three.0;
      within = leb-true (size - 4) (length rest) four.0;
      start = sym (ap (λ (read : (Part × Named) × Cursor). read.0.0.start) same);
      size = sym (ap (λ (read : (Part × Named) × Cursor). read.0.0.length) same);
    }

-- there is none in a shorter text
payload_short : (text : List ℕ) (first : ℕ) (read : (Part × Named) × Cursor) → length text < 4
    → payload 8 (named_first first) (from_start 28 text) ≡ Ok read → ⊥
unfolding payload
payload_short text first read short is =
    let one = check_ok (first == 8) _ _ _ _ _ is in
    let two = check_ok (leb 4 (length text)) _ _ _ _ _ one.1 in
    let long = leb-true 4 (length text) two.0 in
    omega arith

-- a HASH has 32 octets
hash_sized : (base at : ℕ) (octets digest : List ℕ) → value_of (bodies.hash at (from_start base octets)) ≡ Ok digest → length octets ≡ 32
unfolding bodies.hash bodies.due_size
hash_sized base at octets digest is =
    let read = value_ok _ _ is in
    let sized = check_ok (length octets == 32) _ _ _ _ _ read.1 in
    eqb-true (length octets) 32 sized.0

-- two octets that tell the length of the payload of a HASH
high_is : (high low : ℕ) → high * 256 + low ≡ 36 → high ≡ 0
high_is high low is = omega arith

low_is : (high low : ℕ) → high * 256 + low ≡ 36 → low ≡ 36
low_is high low is = omega arith

abbrev hash_in : List ℕ → Part → Result (List ℕ) WireFault
hash_in text part = value_of (bodies.hash (length_place part) (body_cursor text part))

front_of : (kind reserved high low : ℕ) (rest digest : List ℕ) (first : ℕ) (part : Part) → IsFirstPart reserved high low rest first part
    → hash_in (kind ∷ reserved ∷ high ∷ low ∷ rest) part ≡ Ok digest → Front (kind ∷ reserved ∷ high ∷ low ∷ rest) first
front_of kind reserved high low rest digest first part is read =
    let text : List ℕ = kind ∷ reserved ∷ high ∷ low ∷ rest in
    let size : ℕ = big_from 0 2 (high ∷ low ∷ []) in
    let sized = hash_sized (part.at + 4) (length_place part) (body_of text part) digest read in
    let body : body_of text part ≡ take (size - 4) rest = λ i. take (is.size i) (drop (is.start i) text) in
    let least = is.least in
    let within = is.within in
    let whole : size ≡ 36 = omega (arith, sized, ap length body, length-take-le (size - 4) rest within, least) in
    let sum : high * 256 + low ≡ 36 = omega (arith, whole) in
    let none = is.none in
    let high_zero = high_is high low sum in
    let low_all = low_is high low sum in
    let long : length (take 32 rest) ≡ 32 = length-take-le 32 rest (omega (arith, within, whole)) in
    let told : big_bytes 2 (length (take 32 rest) + 4) ≡ high ∷ low ∷ [] = ap (λ n. big_bytes 2 (n + 4)) long ∙ (λ i. sym high_zero i ∷ sym low_all i ∷ []) in
    record {
      named = is.named;
      kind = kind;
      digest = take 32 rest;
      long = long;
      is_text = λ i. kind ∷ none i ∷ (sym told i ++ sym (take-append-drop 32 rest) i);
    }

pub hash_front : (text : List ℕ) (first : ℕ) (read : (List ℕ × ℕ × Named) × Cursor) → hash_payload text first (from_start 28 text) ≡ Ok read → Front text first
unfolding hash_payload
hash_front [] first read is =
    let found = both_ok (payload 8 (named_first first) (from_start 28 [])) _ _ is in
    absurd (payload_short [] first found.0 (omega arith) found.1)
hash_front (kind ∷ []) first read is =
    let found = both_ok (payload 8 (named_first first) (from_start 28 (kind ∷ []))) _ _ is in
    absurd (payload_short (kind ∷ []) first found.0 (omega arith) found.1)
hash_front (kind ∷ reserved ∷ []) first read is =
    let found = both_ok (payload 8 (named_first first) (from_start 28 (kind ∷ reserved ∷ []))) _ _ is in
    absurd (payload_short (kind ∷ reserved ∷ []) first found.0 (omega arith) found.1)
hash_front (kind ∷ reserved ∷ high ∷ []) first read is =
    let found = both_ok (payload 8 (named_first first) (from_start 28 (kind ∷ reserved ∷ high ∷ []))) _ _ is in
    absurd (payload_short (kind ∷ reserved ∷ high ∷ []) first found.0 (omega arith) found.1)
hash_front (kind ∷ reserved ∷ high ∷ low ∷ rest) first read is =
    let text : List ℕ = kind ∷ reserved ∷ high ∷ low ∷ rest in
    let found = both_ok (payload 8 (named_first first) (from_start 28 text)) _ _ is in
    let digest = told_ok (hash_in text found.0.0.0) found.0.1 _ _ found.2 in
    front_of kind reserved high low rest digest.0 first found.0.0.0 (first_part kind reserved high low rest first found.0 found.1) digest.1

-- what was read as a second message, or as a fourth, begins with a HASH
pub second_front : (text : List ℕ) (first : ℕ) (read : PullRead SecondSaid) → value_of (second text first (from_start 28 text)) ≡ Ok read → Front text first
unfolding second
second_front text first read is =
    let all = value_ok _ _ is in
    let hash = both_ok (hash_payload text first (from_start 28 text)) _ _ all.1 in
    hash_front text first hash.0 hash.1

pub fourth_front : (spi text : List ℕ) (first : ℕ) (read : PullRead FourthSaid) → value_of (fourth spi text first (from_start 28 text)) ≡ Ok read
    → Front text first
unfolding fourth
fourth_front spi text first read is =
    let all = value_ok _ _ is in
    let hash = both_ok (hash_payload text first (from_start 28 text)) _ _ all.1 in
    hash_front text first hash.0 hash.1
