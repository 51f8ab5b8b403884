-- Signature keys that are passed over are passed over again, wherever they are, and so the arrays that come after them are found.
use Rattle.std.proofs.Common.{◌≡◌, ℕ, ◌+◌, ◌%◌, ◌≤◌, Bool, true, false, List, [], ◌∷◌, ◌++◌, length, take, Result, Ok, Err, if◌then◌else◌}
use Rattle.std.proofs.Common.{refl, sym, ap, ◌∙◌, subst, append_assoc, length-append, arith}
use Rattle.std.specs.Prelude.{◌==◌, ◌&&◌, nat_le}
use Rattle.std.proofs.lemmas.Bool.{le-leb}
use Rattle.std.proofs.lemmas.List.{take-append-le}
use Rattle.byteorder.specs.Endian.{big_from}
use Rattle.byteorder.specs.Numbers.{big_from-take}
use Rattle.group_terms.specs.declared.wires.WireFault.{WireFault}
use Rattle.group_terms.specs.declared.wires.WireWhat.TheVariants.{Short}
use Rattle.gd_wire.specs.declared.attributes.Attribute.{Attribute}
use Rattle.gd_wire.specs.declared.attributes.AttrValue.{AttrValue}
use Rattle.gd_wire.specs.declared.attributes.AttrValue.TheVariants as Values
use Rattle.gd_wire.specs.declared.attributes.AttributeType.{AttributeType}
use Rattle.gd_wire.specs.Attributes.{attribute_type, short_value, long_value, long_place, attribute, next_has_kind}
use Rattle.gd_wire.specs.Readings.{Cursor, Reading, and_then, ◌>>=◌, ◌>>◌, give, here, place, ended, check, octets, part, number}
use Rattle.kd_wire.specs.declared.updates.UpdateArray.{UpdateArray}
use Rattle.kd_wire.specs.Arrays.{long_type, signature_keys_of, signature_keys, update_attribute, next_update}
use Rattle.gd_wire.proofs.ReadingLemmas.{same_value, and_then_ok}
use Rattle.gd_wire.proofs.ReadsLemmas.{cursor, part_read}
use Rattle.kd_wire.proofs.PlaceLemmas.{Passed, passed_both, Took, IsLocal, local_then, local_give, part_took, local_number}
use Rattle.kd_wire.proofs.ArrayPlaces.{Nothing, local_attribute_type}

-- ---- an attribute, whose value tells its place

-- the reading takes a text, and takes it wherever that is, though what it gives may differ
pub record Moves {A : Type 0} (reading : Reading A) (before after : Cursor) : Type 0 where
  pub text : List ℕ
  pub passed : Passed before after text
  pub again : (base at : ℕ) (rest : List ℕ) → (y : A) × (reading (cursor base at (text ++ rest))
      ≡ Ok (y, cursor base (at + length text) rest))

pub two_texts : (at : ℕ) (text more : List ℕ) → at + length text + length more ≡ at + length (text ++ more)
two_texts at text more = omega (arith, length-append text more)

of_took : {A : Type 0} (reading : Reading A) (before after : Cursor) (value : A) → Took (λ (e : Nothing). reading) before after value
    → Moves reading before after
of_took reading before after value took = record {
  text = took.text;
  passed = took.passed;
  again =
      λ base at rest. (value, (took.reads tt).reads base at rest);
}

long_moves : (before v mid : Cursor) → long_value before ≡ Ok (v, mid) → Moves long_value before mid
unfolding long_value
long_moves before v mid is =
    let sized = and_then_ok (number before) (λ (size : ℕ). here >>= λ at. part size Short at) v mid is in
    let num = local_number.took tt before sized.1 sized.0 sized.2 in
    let whole = part_took sized.0 Short (sized.1.base + sized.1.at) sized.1 v mid sized.3 in
    record {
      text = num.text ++ v.left;
      passed = passed_both before sized.1 mid num.text v.left num.passed whole.passed;
      again = λ base at rest.
          let at_2 : ℕ = at + length num.text in (
            cursor base at_2 v.left,
            ap (λ left. long_value (cursor base at left)) (append_assoc num.text v.left rest)
                ∙ ap (λ (read : Result (ℕ × Cursor) WireFault). and_then read (λ (size : ℕ). here >>= λ at. part size Short at))
                ((num.reads tt).reads base at (v.left ++ rest))
                ∙ ap (λ size. part size Short (base + at_2) (cursor base at_2 (v.left ++ rest))) (sym whole.long)
                ∙ part_read v.left Short (base + at_2) base at_2 rest
                ∙ ap (λ place. Ok (cursor base at_2 v.left, cursor base place rest)) (two_texts at num.text v.left),
          );
    }

-- what takes nothing comes after it
moves_made : {A B : Type 0} (first : Reading A) (next : A → Reading B) → ((x : A) (c : Cursor) → (y : B) × (next x c ≡ Ok (y, c)))
    → (before after : Cursor) (given : B)
    → ((x : A) (mid : Cursor) → first before ≡ Ok (x, mid) → Moves first before mid) → (first >>= next) before ≡ Ok (given, after)
    → Moves (first >>= next) before after
moves_made first next total before after given moves is =
    let read = and_then_ok (first before) next given after is in
    let one = moves read.0 read.1 read.2 in
    let made = total read.0 read.1 in
    let same = same_value (made.0, read.1) (given, after) (sym made.1 ∙ read.3) in
    record {
      text = one.text;
      passed = subst (λ after. Passed before after one.text) (ap (λ read. read.1) same) one.passed;
      again = λ base at rest.
          let again = one.again base at rest in
          let end = cursor base (at + length one.text) rest in
          ((total again.0 end).0, ap (λ (read : Result (_ × Cursor) WireFault). and_then read next) again.1 ∙ (total again.0 end).1);
    }

local_short : IsLocal (λ (e : Nothing). short_value)
unfolding short_value
local_short = local_then (λ (e : Nothing). number) (λ (value : ℕ) (e : Nothing). give (Values.Short value)) local_number
    (λ value. local_give (Values.Short value))

long_place_moves : (before after : Cursor) (value : AttrValue) → long_place before ≡ Ok (value, after) → Moves long_place before after
unfolding long_place
long_place_moves before after value is =
    moves_made long_value (λ (value : Cursor). give (Values.Long value.at (length value.left)))
    (λ value c. (Values.Long value.at (length value.left), refl)) before after value (long_moves before) is

value_moves : (short : Bool) (before after : Cursor) (value : AttrValue) → (if short then short_value else long_place) before
    ≡ Ok (value, after)
    → Moves (if short then short_value else long_place) before after
value_moves true before after value is = of_took short_value before after value (local_short.took tt before after value is)
value_moves false before after value is = long_place_moves before after value is

pub attribute_moves : (before after : Cursor) (given : Attribute) → attribute before ≡ Ok (given, after) → Moves attribute before after
unfolding attribute
attribute_moves before after given is =
    let made : ℕ → AttrValue → Reading Attribute = λ kind value. place >>= λ next. give
    (record { kind = kind; value = value; next = next }) in
    let valued : AttributeType → Reading Attribute = λ type. (if type.is_short then short_value else long_place) >>= made type.kind in
    let read = and_then_ok (attribute_type before) valued given after is in
    let type = local_attribute_type.took tt before read.1 read.0 read.2 in
    let more = moves_made (if read.0.is_short then short_value else long_place) (made read.0.kind)
    (λ value c. (record { kind = read.0.kind; value = value; next = c.at }, refl)) read.1 after given
    (λ value mid is. value_moves read.0.is_short read.1 mid value is) read.3 in
    record {
      text = type.text ++ more.text;
      passed = passed_both before read.1 after type.text more.text type.passed more.passed;
      again = λ base at rest.
          let again = more.again base (at + length type.text) rest in (
            again.0,
            ap (λ left. attribute (cursor base at left)) (append_assoc type.text more.text rest)
                ∙ ap (λ (read : Result (AttributeType × Cursor) WireFault). and_then read valued)
                ((type.reads tt).reads base at (more.text ++ rest))
                ∙ again.1
                ∙ ap (λ place. Ok (again.0, cursor base place rest)) (two_texts at type.text more.text),
          );
    }

pub two_at_least : (text : List ℕ) → ((base at : ℕ) (rest : List ℕ) → (y : Attribute)
    × (attribute (cursor base at (text ++ rest)) ≡ Ok (y, cursor base (at + length text) rest))) → 2 ≤ length text
unfolding attribute attribute_type number octets part
two_at_least [] again = let none = (again 0 0 []).1 in absurd (cc)
two_at_least (x ∷ []) again = let none = (again 0 0 []).1 in absurd (cc)
two_at_least (x ∷ y ∷ text) again = omega arith

-- ---- what the next two octets tell

abbrev pub has : List ℕ → Bool
has left = nat_le 2 (length left) && (big_from 0 2 left % 32768 == 3)

pub has_front : (text rest other : List ℕ) → 2 ≤ length text → has (text ++ rest) ≡ has (text ++ other)
has_front text rest other two =
    let one : big_from 0 2 (text ++ rest) ≡ big_from 0 2 (take 2 text) = sym (big_from-take 0 2 2 (text ++ rest) (omega arith))
    ∙ ap (big_from 0 2) (take-append-le 2 text rest two) in
    let second : big_from 0 2 (text ++ other) ≡ big_from 0 2 (take 2 text) = sym (big_from-take 0 2 2 (text ++ other) (omega arith))
    ∙ ap (big_from 0 2) (take-append-le 2 text other two) in
    let least : (left : List ℕ) → nat_le 2 (length (text ++ left)) ≡ true =
    λ left. le-leb 2 (length (text ++ left)) (omega (arith, length-append text left)) in
    λ i. (least rest ∙ sym (least other)) i && ((one ∙ sym second) i % 32768 == 3)

number_of : (fits : Bool) (field behind : Cursor) (fault : WireFault) (value : ℕ) (after : Cursor)
    → and_then (and_then (if◌then◌else◌ {A = Result (Cursor × Cursor) WireFault} fits (Ok (field, behind)) (Err fault))
    (λ (field : Cursor). give field.left)) (λ (field : List ℕ). give (big_from 0 2 field)) ≡ Ok (value, after)
    → big_from 0 2 field.left ≡ value
number_of true field behind fault value after is = ap (λ read. read.0) (same_value (big_from 0 2 field.left, behind) (value, after) is)
number_of false field behind fault value after is = absurd (cc)

pub number_is : (c after : Cursor) (value : ℕ) → number c ≡ Ok (value, after) → big_from 0 2 c.left ≡ value
unfolding number octets part
number_is c after value is =
    sym (big_from-take 0 2 2 c.left (omega arith))
    ∙ number_of (nat_le 2 (length c.left)) (cursor c.base c.at (take 2 c.left)) _ _ value after is

pub check_ok : {A : Type 0} (test : Bool) (fault : WireFault) (next : Reading A) (c after : Cursor) (x : A)
    → and_then (if◌then◌else◌ {A = Reading (Unit {0})} test (give tt) (λ c. Err fault) c) (λ done. next) ≡ Ok (x, after) → test ≡ true
check_ok true fault next c after x is = refl
check_ok false fault next c after x is = absurd (cc)
