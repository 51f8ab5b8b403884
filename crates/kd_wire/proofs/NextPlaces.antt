-- The next update array is found again, wherever it is and whatever comes after it.
use Rattle.std.proofs.Common.{◌≡◌, ℕ, zero, suc, ◌+◌, ◌%◌, ◌≤◌, Bool, true, false, List, [], ◌∷◌, ◌++◌, length, Option, None, Some, Result}
use Rattle.std.proofs.Common.{Ok, if◌then◌else◌, refl, sym, ap, ◌∙◌, subst, append_assoc, length-append, arith}
use Rattle.std.specs.Prelude.{◌==◌, ◌&&◌, nat_le, not}
use Rattle.std.specs.List.{list_any}
use Rattle.std.proofs.lemmas.Bool.{eqb-true, ne_eqb}
use Rattle.std.proofs.Math.Bool.{or-false}
use Rattle.byteorder.specs.Endian.{big_from}
use Rattle.group_terms.specs.declared.wires.WireFault.{WireFault}
use Rattle.group_terms.specs.declared.wires.WireWhat.TheVariants.{Kind}
use Rattle.gd_wire.specs.declared.attributes.Attribute.{Attribute}
use Rattle.gd_wire.specs.declared.attributes.AttributeType.{AttributeType}
use Rattle.gd_wire.specs.Attributes.{attribute_type, long_value, attribute, next_has_kind}
use Rattle.gd_wire.specs.Faults.{fault_at}
use Rattle.gd_wire.specs.Readings.{Cursor, Reading, and_then, ◌>>=◌, ◌>>◌, give, here, ended, check, octets, part, number, inside}
use Rattle.kd_wire.specs.declared.updates.UpdateArray.{UpdateArray}
use Rattle.kd_wire.specs.Arrays.{long_type, signature_keys_of, signature_keys, update_array, update_attribute, next_update}
use Rattle.gd_wire.proofs.ReadingLemmas.{same_value, and_then_ok}
use Rattle.gd_wire.proofs.ReadsLemmas.{cursor, Reads}
use Rattle.kd_wire.proofs.PlaceLemmas.{Passed, passed_none, passed_both}
use Rattle.kd_wire.proofs.ArrayPlaces.{local_attribute}
use Rattle.kd_wire.proofs.FormLemmas.{both_true}
use Rattle.kd_wire.proofs.SkipPlaces.{two_texts, attribute_moves, two_at_least, has, has_front, number_is, check_ok}
use Rattle.kd_wire.proofs.WrittenArrays.{none_of, and_false}

-- ---- signature keys

-- a number of them was passed over, and is again before what is no signature key
record KeysTook (before after : Cursor) : Type 0 where
  text : List ℕ
  passed : Passed before after text
  count : ℕ
  enough : count ≤ length text
  again : (left : List ℕ) → has left ≡ false → (more : ℕ) → count ≤ more → (base at : ℕ)
      → signature_keys_of more (cursor base at (text ++ left)) ≡ Ok (tt, cursor base (at + length text) left)

no_keys_took : (c after : Cursor) → c ≡ after → KeysTook c after
no_keys_took c after same = subst (KeysTook c) same (record {
  text = [];
  passed = passed_none c;
  count = 0;
  enough = omega arith;
  again = λ left ends more enough base at.
      none_of more (cursor base at left) (ap (λ (has : Bool). Ok (has, cursor base at left)) ends)
      ∙ (let place : at ≡ at + 0 = omega arith in ap (λ place. Ok (tt, cursor base place left)) place);
})

keys_again : (first rest left : List ℕ) (most count base at : ℕ) → suc count ≤ most
    → ((base at : ℕ) (rest : List ℕ) → (y : Attribute) × (attribute (cursor base at (first ++ rest))
    ≡ Ok (y, cursor base (at + length first) rest)))
    → ((more : ℕ) → count ≤ more → (base at : ℕ) → signature_keys_of more (cursor base at (rest ++ left))
    ≡ Ok (tt, cursor base (at + length rest) left))
    → has (first ++ (rest ++ left)) ≡ true → signature_keys_of most (cursor base at ((first ++ rest) ++ left))
    ≡ Ok (tt, cursor base (at + length (first ++ rest)) left)
keys_again first rest left zero count base at enough one later is = absurd (omega arith)
keys_again first rest left (suc more) count base at enough one later is =
    ap (λ left. signature_keys_of (suc more) (cursor base at left)) (append_assoc first rest left)
    ∙ ap (λ (is_one : Bool). (if is_one then (attribute >> signature_keys_of more) else give tt) (cursor base at (first ++ (rest ++ left))))
    is
    ∙ ap (λ (read : Result (Attribute × Cursor) WireFault). and_then read (λ (done : Attribute). signature_keys_of more))
    (one base at (rest ++ left)).1
    ∙ later more (omega arith) base (at + length first)
    ∙ ap (λ place. Ok (tt, cursor base place left)) (two_texts at first rest)

key_took : (more : ℕ) (c mid : Cursor) → ((c : Cursor) → signature_keys_of more c ≡ Ok (tt, mid) → KeysTook c mid) → (is_one : Bool)
    → has c.left ≡ is_one
    → (if is_one then (attribute >> signature_keys_of more) else give tt) c ≡ Ok (tt, mid) → KeysTook c mid
key_took more c mid later false none is = no_keys_took c mid (ap (λ read. read.1) (same_value (tt, c) (tt, mid) is))
key_took more c mid later true one is =
    let read = and_then_ok (attribute c) (λ (done : Attribute). signature_keys_of more) tt mid is in
    let first = attribute_moves c read.1 read.0 read.2 in
    let rest = later read.1 read.3 in
    let two = two_at_least first.text first.again in
    record {
      text = first.text ++ rest.text;
      passed = passed_both c read.1 mid first.text rest.text first.passed rest.passed;
      count = suc rest.count;
      enough = omega (arith, length-append first.text rest.text, rest.enough, two);
      again = λ left ends most enough base at. keys_again first.text rest.text left most rest.count base at enough first.again
          (λ most. rest.again left ends most)
          (has_front first.text (rest.text ++ left) read.1.left two ∙ sym (ap has first.passed.left) ∙ one);
    }

keys_took : (most : ℕ) (c mid : Cursor) → signature_keys_of most c ≡ Ok (tt, mid) → KeysTook c mid
keys_took zero c mid is = no_keys_took c mid (ap (λ read. read.1) (same_value (tt, c) (tt, mid) is))
keys_took (suc more) c mid is = key_took more c mid (λ c is. keys_took more c mid is) (has c.left) refl is

-- ---- an array

-- where an array begins, no signature key does
array_ends : (handle : Option ℕ) (c after : Cursor) (array : UpdateArray) → update_attribute handle c ≡ Ok (array, after) → has c.left
    ≡ false
unfolding update_attribute long_type attribute_type
array_ends handle c after array is =
    let typed = and_then_ok (long_type (2 ∷ []) c) (λ (done : ℕ). here >>= λ length_at. long_value
    >>= λ value. inside value (update_array handle length_at)) array after is in
    let tested : AttributeType → Reading ℕ = λ type. check (list_any (λ kind. kind == type.kind) (2 ∷ []) && not type.is_short)
    (Kind type.kind) (c.base + c.at) >> give type.kind in
    let read = and_then_ok (attribute_type c) tested typed.0 typed.1 typed.2 in
    let made : ℕ → Reading AttributeType = λ type. give (record { kind = type % 32768; is_short = nat_le 32768 type }) in
    let told = and_then_ok (number c) made read.0 read.1 read.2 in
    let due = check_ok (list_any (λ kind. kind == read.0.kind) (2 ∷ []) && not read.0.is_short)
    (fault_at (Kind read.0.kind) (c.base + c.at)) (give read.0.kind) read.1 typed.1 typed.0 read.3 in
    let first = (both_true (list_any (λ kind. kind == read.0.kind) (2 ∷ [])) (not read.0.is_short) due).0 in
    let two : 2 ≡ read.0.kind = eqb-true 2 read.0.kind (sym (or-false (2 == read.0.kind)) ∙ first) in
    let kind : told.0 % 32768 ≡ read.0.kind = ap (λ (read : AttributeType × Cursor). read.0.kind)
    (same_value (record { kind = told.0 % 32768; is_short = nat_le 32768 told.0 }, told.1) (read.0, read.1) told.3) in
    let value : big_from 0 2 c.left ≡ told.0 = number_is c told.1 told.0 told.2 in
    let same : big_from 0 2 c.left % 32768 ≡ 2 = ap (λ value. value % 32768) value ∙ kind ∙ sym two in
    ap (λ kind. nat_le 2 (length c.left) && (kind == 3)) same ∙ and_false (nat_le 2 (length c.left))

some_octet : (handle : Option ℕ) (text : List ℕ) (array : UpdateArray) → Reads (update_attribute handle) text array → 1 ≤ length text
unfolding update_attribute long_type attribute_type number octets part
some_octet handle [] array r = let none = r.reads 0 0 [] in absurd (cc)
some_octet handle (x ∷ text) array r = omega arith

-- ---- the next array

-- it was found, and is again
pub record NextTook (handle : Option ℕ) (before after : Cursor) (array : UpdateArray) : Type 0 where
  pub text : List ℕ
  pub passed : Passed before after text
  pub again : (base at : ℕ) (rest : List ℕ) → next_update handle (cursor base at (text ++ rest))
      ≡ Ok (Some array, cursor base (at + length text) rest)

abbrev after_keys : Option ℕ → Bool → Reading (Option UpdateArray)
after_keys handle nothing = if nothing then give None else (update_attribute handle >>= λ array. give (Some array))

-- keys that are passed over, and then the attribute of an array
found_again : (handle : Option ℕ) (keys text : List ℕ) (array : UpdateArray) (count : ℕ) → count ≤ length keys
    → Reads (update_attribute handle) text array
    → ((left : List ℕ) → has left ≡ false → (more : ℕ) → count ≤ more → (base at : ℕ)
    → signature_keys_of more (cursor base at (keys ++ left)) ≡ Ok (tt, cursor base (at + length keys) left))
    → (base at : ℕ) (rest : List ℕ) → next_update handle (cursor base at ((keys ++ text) ++ rest))
    ≡ Ok (Some array, cursor base (at + length (keys ++ text)) rest)
unfolding next_update signature_keys
found_again handle keys text array count enough r keys_again base at rest =
    let left : List ℕ = text ++ rest in
    let at_2 : ℕ = at + length keys in
    let read = r.reads base at_2 rest in
    let ends : has left ≡ false = array_ends handle (cursor base at_2 left) (cursor base (at_2 + length text) rest) array read in
    let some : (length left == 0) ≡ false = ne_eqb (length left) 0 (λ e. omega
    (arith, length-append text rest, some_octet handle text array r)) in
    let whole : List ℕ = keys ++ left in
    ap (λ left. next_update handle (cursor base at left)) (append_assoc keys text rest)
    ∙ ap (λ (read : Result (Unit {0} × Cursor) WireFault). and_then read (λ (done : Unit {0}). ended >>= after_keys handle))
    (keys_again left ends (length whole) (omega (arith, length-append keys left, enough)) base at)
    ∙ ap (λ nothing. after_keys handle nothing (cursor base at_2 left)) some
    ∙ ap (λ (read : Result (UpdateArray × Cursor) WireFault). and_then read (λ (array : UpdateArray). give (Some array))) read
    ∙ ap (λ place. Ok (Some array, cursor base place rest)) (two_texts at keys text)

abbrev none_found : Option UpdateArray
none_found = None

some_of : (handle : Option ℕ) (nothing : Bool) (mid after : Cursor) (array : UpdateArray) → after_keys handle nothing mid
    ≡ Ok (Some array, after) → update_attribute handle mid ≡ Ok (array, after)
some_of handle true mid after array is = let none : none_found ≡ Some array =
    ap (λ (read : Option UpdateArray × Cursor). read.0) (same_value (none_found, mid) (Some array, after) is) in absurd (cc)
some_of handle false mid after array is =
    let read = and_then_ok (update_attribute handle mid) (λ (array : UpdateArray). give (Some array)) (Some array) after is in
    let same = same_value (Some read.0, read.1) (Some array, after) read.3 in
    let found : Some read.0 ≡ Some array = ap (λ (read : Option UpdateArray × Cursor). read.0) same in
    let one : read.0 ≡ array = cc in
    read.2 ∙ (λ i. Ok (one i, (same i).1))

pub next_took : (handle : Option ℕ) (before after : Cursor) (array : UpdateArray) → next_update handle before ≡ Ok (Some array, after)
    → NextTook handle before after array
unfolding next_update signature_keys
next_took handle before after array is =
    let passed = and_then_ok (signature_keys_of (length before.left) before) (λ (done : Unit {0}). ended >>= after_keys handle) (Some array)
    after is in
    let mid = passed.1 in
    let keys = keys_took (length before.left) before mid passed.2 in
    let found = (local_attribute handle).took tt mid after array (some_of handle (length mid.left == 0) mid after array passed.3) in
    record {
      text = keys.text ++ found.text;
      passed = passed_both before mid after keys.text found.text keys.passed found.passed;
      again = found_again handle keys.text found.text array keys.count keys.enough (found.reads tt) keys.again;
    }

-- the first one, to which the attribute leads at once
pub first_took : (handle : Option ℕ) (before after : Cursor) (array : UpdateArray) → update_attribute handle before ≡ Ok (array, after)
    → NextTook handle before after array
unfolding no_keys_took
first_took handle before after array is =
    let found = (local_attribute handle).took tt before after array is in
    let none = no_keys_took before before refl in
    record {
      text = found.text;
      passed = found.passed;
      again = found_again handle [] found.text array 0 (omega arith) (found.reads tt)
          none.again;
    }

-- where signature keys end
pub keys_passed : (before after : Cursor) (done : Unit {0}) → signature_keys before ≡ Ok (done, after) → (text : List ℕ)
    × Passed before after text
unfolding signature_keys
keys_passed before after done is = let keys = keys_took (length before.left) before after is in (keys.text, keys.passed)
