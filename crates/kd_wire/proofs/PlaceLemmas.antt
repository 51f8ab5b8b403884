-- A reading takes octets from the front, and what it gives depends on these alone: not on the place where they are, nor on what comes
-- after.
-- `IsLocal`: what is given depends on the octets that are taken alone; places of faults are its parameter. A span that is read up to the end of its body, in
-- place of its own, would not need what comes after it.
use Rattle.std.proofs.Common.{◌≡◌, ℕ, ◌+◌, ◌≤◌, Bool, true, false, List, [], ◌++◌, length, take, drop, Result, Ok, Err, if◌then◌else◌, refl}
use Rattle.std.proofs.Common.{sym, ap, ◌∙◌, subst, append_assoc, length-append, arith}
use Rattle.std.specs.Prelude.{◌==◌, nat_le, slice_index_or}
use Rattle.std.specs.List.{list_any}
use Rattle.byteorder.specs.Endian.{big_from}
use Rattle.std.proofs.lemmas.Bool.{leb-true}
use Rattle.std.proofs.lemmas.List.{take-append-drop, length-take-le}
use Rattle.group_terms.specs.declared.wires.WireFault.{WireFault}
use Rattle.group_terms.specs.declared.wires.WireWhat.{WireWhat}
use Rattle.group_terms.specs.declared.wires.WireWhat.TheVariants.{Short, Kind}
use Rattle.gd_wire.specs.Readings.{Cursor, Reading, ◌>>=◌, ◌>>◌, give, here, check, octets, part, octet, number, long_number, due_octet}
use Rattle.gd_wire.specs.Readings.{due_number, due_kind}
use Rattle.gd_wire.proofs.ReadingLemmas.{same_value, and_then_ok}
use Rattle.gd_wire.proofs.ReadsLemmas.{cursor, Reads, reads_then, reads_here, reads_give, reads_octets}

-- between two cursors this text was read
pub record Passed (before after : Cursor) (text : List ℕ) : Type 0 where
  pub base : after.base ≡ before.base
  pub at : after.at ≡ before.at + length text
  pub left : before.left ≡ text ++ after.left

-- of a reading that is told a place, by which it may only tell faults
pub record Took {E A : Type 0} (reading : E → Reading A) (before after : Cursor) (value : A) : Type 0 where
  pub text : List ℕ
  pub passed : Passed before after text
  pub reads : (e : E) → Reads (reading e) text value

pub record IsLocal {E A : Type 0} (reading : E → Reading A) : Type 0 where
  pub took : (e : E) (before after : Cursor) (value : A) → reading e before ≡ Ok (value, after) → Took reading before after value

pub passed_none : (c : Cursor) → Passed c c []
passed_none c = record { base = refl; at = omega arith; left = refl }

pub passed_both : (before mid after : Cursor) (text more : List ℕ) → Passed before mid text → Passed mid after more
    → Passed before after (text ++ more)
passed_both before mid after text more p q = record {
  base = q.base ∙ p.base;
  at = omega (arith, p.at, q.at, length-append text more);
  left = p.left ∙ ap (λ left. text ++ left) q.left ∙ sym (append_assoc text more after.left);
}

module _ {E A B : Type 0} (first : E → Reading A) where
  pub local_then : (next : A → E → Reading B) → IsLocal first → ((x : A) → IsLocal (next x))
      → IsLocal (λ (e : E). first e >>= λ (x : A). next x e)
  local_then next f n = record {
    took = λ e before after value is.
        let read = and_then_ok (first e before) (λ (x : A). next x e) value after is in
        let one = f.took e before read.1 read.0 read.2 in
        let two = (n read.0).took e read.1 after value read.3 in
        record {
          text = one.text ++ two.text;
          passed = passed_both before read.1 after one.text two.text one.passed two.passed;
          reads = λ e. reads_then (first e) (λ (x : A). next x e) one.text two.text read.0 value (one.reads e) (two.reads e);
        };
  }

  pub local_next : (next : E → Reading B) → IsLocal first → IsLocal next → IsLocal (λ (e : E). first e >> next e)
  local_next next f n = record { took = (local_then (λ (done : A). next) f (λ (done : A). n)).took }

module _ {E A : Type 0} where
  pub local_here : (next : E → ℕ → Reading A) → IsLocal (λ (p : E × ℕ). next p.0 p.1) → IsLocal (λ (e : E). here >>= λ at. next e at)
  local_here next n = record {
    took = λ e before after value is.
        let one = n.took (e, before.base + before.at) before after value is in
        record { text = one.text; passed = one.passed; reads = λ e. reads_here (λ at. next e at) one.text value (λ at. one.reads (e, at)) };
  }

  pub local_give : (value : A) → IsLocal (λ (e : E). give value)
  local_give value = record {
    took = λ e before after given is.
        let same = same_value (value, before) (given, after) is in
        record {
          text = [];
          passed = subst (λ after. Passed before after []) (ap (λ read. read.1) same) (passed_none before);
          reads = λ e. reads_give value given (ap (λ read. read.0) same);
        };
  }

  -- a test, and what comes after it
  pub local_check : (holds : Bool) (what : WireWhat) (at : E → ℕ) (next : E → Reading A) → (holds ≡ true → IsLocal next)
      → IsLocal (λ (e : E). check holds what (at e) >> next e)
  local_check true what at next n = record {
    took = λ e before after value is. let one =
        (n refl).took e before after value is in record {
          text = one.text;
          passed = one.passed;
          reads =
              λ e. record { reads = (one.reads e).reads };
        };
  }
  local_check false what at next n = record { took = λ e before after value is. absurd (cc) }

  -- a reading that is told nothing
  pub local_always : (reading : Reading A) → IsLocal (λ (e : Unit {0}). reading) → IsLocal (λ (e : E). reading)
  local_always reading r = record {
    took = λ e before after value is. let one =
        r.took tt before after value is in record { text = one.text; passed = one.passed; reads = λ e. one.reads tt };
  }

-- a test alone
pub local_checked : {E : Type 0} (holds : Bool) (what : WireWhat) (at : E → ℕ) → IsLocal (λ (e : E). check holds what (at e))
local_checked true what at = record { took = (local_give tt).took }
local_checked false what at = record { took = λ e before after value is. absurd (cc) }

-- ---- fields

-- a part that was there
part_of : (fits : Bool) (field behind v mid : Cursor) (fault : WireFault)
    → if◌then◌else◌ {A = Result (Cursor × Cursor) WireFault} fits (Ok (field, behind)) (Err fault) ≡ Ok (v, mid) → (fits ≡ true)
    × (field ≡ v) × (behind ≡ mid)
part_of true field behind v mid fault is = let same = same_value (field, behind) (v, mid) is in
    (refl, ap (λ read. read.0) same, ap (λ read. read.1) same)
part_of false field behind v mid fault is = absurd (cc)

pub record PartTook (size : ℕ) (before v after : Cursor) : Type 0 where
  pub long : length v.left ≡ size
  pub place : v.at ≡ before.at
  pub passed : Passed before after v.left

pub part_took : (size : ℕ) (what : WireWhat) (at : ℕ) (before v after : Cursor) → part size what at before ≡ Ok (v, after)
    → PartTook size before v after
unfolding part
part_took size what at before v after is =
    let field = cursor before.base before.at (take size before.left) in
    let behind = cursor before.base (before.at + size) (drop size before.left) in
    let found = part_of (nat_le size (length before.left)) field behind v after (record { what = what; at = at }) is in
    let within : size ≤ length before.left = leb-true size (length before.left) found.0 in
    let long : length (take size before.left) ≡ size = length-take-le size before.left within in
    subst (λ v. PartTook size before v after) found.1 (subst (λ after. PartTook size before field after) found.2 (record {
      long = long;
      place = refl;
      passed = record { base = refl; at = ap (λ size. before.at + size) (sym long); left = sym (take-append-drop size before.left) };
    }))

pub local_octets : (size : ℕ) → IsLocal (λ (e : Unit {0}). octets size)
unfolding octets
local_octets size = record {
  took = λ e before after field is.
      let read = and_then_ok (part size Short (before.base + before.at) before) (λ (field : Cursor). give field.left) field after is in
      let part = part_took size Short (before.base + before.at) before read.0 read.1 read.2 in
      let same = same_value (read.0.left, read.1) (field, after) read.3 in
      let text = read.0.left in
      record {
        text = text;
        passed = subst (λ after. Passed before after text) (ap (λ read. read.1) same) part.passed;
        reads = λ e. subst (λ field. Reads (octets size) text field) (ap (λ read. read.0) same) (reads_octets size text part.long);
      };
}

pub local_number : IsLocal (λ (e : Unit {0}). number)
unfolding number
local_number = local_then (λ (e : Unit {0}). octets 2) (λ (field : List ℕ) (e : Unit {0}). give (big_from 0 2 field)) (local_octets 2)
    (λ field. local_give (big_from 0 2 field))

pub local_long_number : IsLocal (λ (e : Unit {0}). long_number)
unfolding long_number
local_long_number = local_then (λ (e : Unit {0}). octets 4) (λ (field : List ℕ) (e : Unit {0}). give (big_from 0 4 field)) (local_octets 4)
    (λ field. local_give (big_from 0 4 field))

local_octet : IsLocal (λ (e : Unit {0}). octet)
unfolding octet
local_octet = local_then (λ (e : Unit {0}). octets 1) (λ (field : List ℕ) (e : Unit {0}). give (slice_index_or field 0 0)) (local_octets 1)
    (λ field. local_give (slice_index_or field 0 0))

pub local_due_octet : (due : ℕ) (what : WireWhat) → IsLocal (λ (e : Unit {0}). due_octet due what)
unfolding due_octet
local_due_octet due what =
    local_here (λ (e : Unit {0}) (at : ℕ). octet >>= λ value. check (value == due) what at) (
    local_then (λ (e : Unit {0} × ℕ). octet) (λ (value : ℕ) (e : Unit {0} × ℕ). check (value == due) what e.1)
    (local_always octet local_octet) (λ value. local_checked (value == due) what (λ e. e.1)))

pub local_due_number : (due : ℕ) (what : WireWhat) → IsLocal (λ (e : Unit {0}). due_number due what)
unfolding due_number
local_due_number due what =
    local_here (λ (e : Unit {0}) (at : ℕ). number >>= λ value. check (value == due) what at) (
    local_then (λ (e : Unit {0} × ℕ). number) (λ (value : ℕ) (e : Unit {0} × ℕ). check (value == due) what e.1)
    (local_always number local_number) (λ value. local_checked (value == due) what (λ e. e.1)))

pub local_due_kind : (kinds : List ℕ) → IsLocal (λ (e : Unit {0}). due_kind kinds)
unfolding due_kind
local_due_kind kinds =
    local_here (λ (e : Unit {0}) (at : ℕ). octet >>= λ kind. check (list_any (λ due. due == kind) kinds) (Kind kind) at >> give kind) (
    local_then (λ (e : Unit {0} × ℕ). octet) (λ (kind : ℕ) (e : Unit {0} × ℕ). check (list_any (λ due. due == kind) kinds) (Kind kind) e.1
    >> give kind) (local_always octet local_octet) (λ kind.
    local_check (list_any (λ due. due == kind) kinds) (Kind kind) (λ (e : Unit {0} × ℕ). e.1) (λ (e : Unit {0} × ℕ). give kind)
    (λ due. local_give kind)))
