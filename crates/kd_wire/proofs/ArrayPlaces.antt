-- What is read of an update array depends on its octets alone.
use Rattle.std.proofs.Common.{◌≡◌, ℕ, zero, suc, ◌+◌, ◌*◌, ◌%◌, List, [], ◌∷◌, ◌++◌, length, Option, Some, Result, Ok, Err, ap, ◌∙◌, subst}
use Rattle.std.specs.Prelude.{◌==◌, ◌&&◌, nat_le, not}
use Rattle.std.specs.List.{list_any}
use Rattle.group_terms.specs.Octets.{data_octets}
use Rattle.group_terms.specs.declared.wires.WireFault.{WireFault}
use Rattle.group_terms.specs.declared.wires.WireWhat.TheVariants.{Short, Length, Reserved, Version, Kind, Value}
use Rattle.gd_wire.specs.declared.attributes.AttributeType.{AttributeType}
use Rattle.gd_wire.specs.Attributes.{attribute_type, long_value}
use Rattle.gd_wire.specs.Readings.{Cursor, Reading, and_then, back_to, ◌>>=◌, ◌>>◌, give, here, check, inside, octets, part, number}
use Rattle.gd_wire.specs.Readings.{long_number, due_octet, due_number}
use Rattle.kd_wire.specs.declared.arrays.ArrayKind.TheVariants.{Update}
use Rattle.kd_wire.specs.declared.updates.UpdateArray.{UpdateArray}
use Rattle.kd_wire.specs.declared.updates.UpdateKey.{UpdateKey}
use Rattle.kd_wire.specs.Arrays.{long_type, least_keys, most_keys, head_size, array_head, sealer, update_array, update_attribute}
use Rattle.kd_wire.specs.Keys.{key_type, has_handle, given_key, given_keys}
use Rattle.kd_wire.specs.Widths.{lkh_key_octets}
use Rattle.gd_wire.proofs.ReadingLemmas.{same_value, and_then_ok}
use Rattle.kd_wire.proofs.LoopLemmas.{array_by}
use Rattle.gd_wire.proofs.ReadsLemmas.{cursor, Reads, reads_then, reads_here, reads_assoc, part_read}
use Rattle.kd_wire.proofs.PlaceLemmas.{Passed, passed_both, IsLocal, local_then, local_next, local_here, local_give, local_check}
use Rattle.kd_wire.proofs.PlaceLemmas.{local_always, part_took, local_octets, local_number, local_long_number, local_due_octet}
use Rattle.kd_wire.proofs.PlaceLemmas.{local_due_number}
use Rattle.kd_wire.proofs.WrittenArrays.{head_with}

abbrev pub Nothing : Type 0
Nothing = Unit {0}

-- ---- keys

local_type : IsLocal (λ (e : Nothing). key_type)
unfolding key_type
local_type = local_next (λ (e : Nothing). due_octet 3 Value) (λ (e : Nothing). due_octet 0 Reserved) (local_due_octet 3 Value)
    (local_due_octet 0 Reserved)

local_key : (handle : Option ℕ) → IsLocal (λ (e : Nothing). given_key handle)
unfolding given_key
local_key handle =
    let sealed_of : ℕ → ℕ → Reading UpdateKey = λ id made. octets data_octets
    >>= λ sealed. give (record { id = id; made = made; sealed = sealed }) in
    let made_of : ℕ → ℕ → Reading UpdateKey = λ id made_at. long_number >>= λ made. check (has_handle handle made) Value made_at
    >> sealed_of id made in
    let after_id : ℕ → Reading UpdateKey = λ id. key_type >> (octets 8 >> (here >>= made_of id)) in
    local_here (λ (e : Nothing) (at : ℕ). number >>= λ id. check (not (id == 0)) Value at >> after_id id) (
    local_then (λ (e : Nothing × ℕ). number) (λ (id : ℕ) (e : Nothing × ℕ). check (not (id == 0)) Value e.1 >> after_id id)
    (local_always number local_number) (λ id.
    local_check (not (id == 0)) Value (λ (e : Nothing × ℕ). e.1) (λ (e : Nothing × ℕ). after_id id) (λ some.
    local_next (λ (e : Nothing × ℕ). key_type) (λ (e : Nothing × ℕ). octets 8 >> (here >>= made_of id)) (local_always key_type local_type) (
    local_next (λ (e : Nothing × ℕ). octets 8) (λ (e : Nothing × ℕ). here >>= made_of id) (local_always (octets 8) (local_octets 8)) (
    local_here (λ (e : Nothing × ℕ) (made_at : ℕ). made_of id made_at) (
    local_then (λ (e : (Nothing × ℕ) × ℕ). long_number) (λ (made : ℕ) (e : (Nothing × ℕ) × ℕ). check (has_handle handle made) Value e.1
    >> sealed_of id made)
    (local_always long_number local_long_number) (λ made.
    local_check (has_handle handle made) Value (λ (e : (Nothing × ℕ) × ℕ). e.1) (λ (e : (Nothing × ℕ) × ℕ). sealed_of id made) (λ same.
    local_then (λ (e : (Nothing × ℕ) × ℕ). octets data_octets) (λ (sealed : List ℕ) (e : (Nothing × ℕ) × ℕ). give
    (record { id = id; made = made; sealed = sealed })) (local_always (octets data_octets) (local_octets data_octets)) (λ sealed.
    local_give (record { id = id; made = made; sealed = sealed }))))))))))

local_keys : (count : ℕ) (handle : Option ℕ) → IsLocal (λ (e : Nothing). given_keys count handle)
local_keys zero handle = local_give []
local_keys (suc more) handle =
    local_then (λ (e : Nothing). given_key handle) (λ (key : UpdateKey) (e : Nothing). given_keys more (Some key.made)
    >>= λ keys. give (key ∷ keys))
    (local_key handle) (λ key.
    local_then (λ (e : Nothing). given_keys more (Some key.made)) (λ (keys : List UpdateKey) (e : Nothing). give (key ∷ keys))
    (local_keys more (Some key.made)) (λ keys. local_give (key ∷ keys)))

-- ---- arrays

local_sealer : IsLocal (λ (e : Nothing). sealer)
unfolding sealer
local_sealer =
    let made_of : ℕ → Reading (ℕ × ℕ) = λ by. due_number 0 Reserved >> (long_number >>= λ made. give (by, made)) in
    local_here (λ (e : Nothing) (at : ℕ). number >>= λ by. check (not (by == 0)) Value at >> made_of by) (
    local_then (λ (e : Nothing × ℕ). number) (λ (by : ℕ) (e : Nothing × ℕ). check (not (by == 0)) Value e.1 >> made_of by)
    (local_always number local_number) (λ by.
    local_check (not (by == 0)) Value (λ (e : Nothing × ℕ). e.1) (λ (e : Nothing × ℕ). made_of by) (λ some.
    local_next (λ (e : Nothing × ℕ). due_number 0 Reserved) (λ (e : Nothing × ℕ). long_number >>= λ made. give (by, made))
    (local_always (due_number 0 Reserved) (local_due_number 0 Reserved)) (
    local_then (λ (e : Nothing × ℕ). long_number) (λ (made : ℕ) (e : Nothing × ℕ). give (by, made))
    (local_always long_number local_long_number)
    (λ made. local_give (by, made))))))

local_head : (size : ℕ) → IsLocal (λ (length_at : ℕ). head_with Update length_at size)
local_head size =
    let to_end : ℕ → Reading ℕ = λ count. due_octet 0 Reserved >> give count in
    let sized : ℕ → ℕ → Reading ℕ = λ length_at count. check (size == 12 + 48 * count) Length length_at >> to_end count in
    let counted : ℕ → ℕ → Reading ℕ = λ length_at at. number >>= λ count. check (nat_le 1 count && nat_le count 65535) Value at
    >> sized length_at count in
    local_next (λ (e : ℕ). due_octet 1 Version) (λ (e : ℕ). here >>= counted e)
    (local_always (due_octet 1 Version) (local_due_octet 1 Version)) (
    local_here counted (
    local_then (λ (e : ℕ × ℕ). number) (λ (count : ℕ) (e : ℕ × ℕ). check (nat_le 1 count && nat_le count 65535) Value e.1
    >> sized e.0 count) (local_always number local_number) (λ count.
    local_check (nat_le 1 count && nat_le count 65535) Value (λ (e : ℕ × ℕ). e.1) (λ (e : ℕ × ℕ). sized e.0 count) (λ due.
    local_check (size == 12 + 48 * count) Length (λ (e : ℕ × ℕ). e.0) (λ (e : ℕ × ℕ). to_end count) (λ long.
    local_next (λ (e : ℕ × ℕ). due_octet 0 Reserved) (λ (e : ℕ × ℕ). give count)
    (local_always (due_octet 0 Reserved) (local_due_octet 0 Reserved)) (local_give count))))))

-- an array of this many octets
abbrev array_with : Option ℕ → ℕ → ℕ → Reading UpdateArray
array_with handle size length_at = head_with Update length_at size >>= λ count. sealer >>= λ by. given_keys count handle
    >>= λ keys. give (array_by by.0 by.1 keys)

local_array : (handle : Option ℕ) (size : ℕ) → IsLocal (array_with handle size)
local_array handle size =
    local_then (λ (length_at : ℕ). head_with Update length_at size) (λ (count : ℕ) (e : ℕ). sealer >>= λ by. given_keys count handle
    >>= λ keys. give (array_by by.0 by.1 keys)) (local_head size) (λ count.
    local_then (λ (e : ℕ). sealer) (λ (by : ℕ × ℕ) (e : ℕ). given_keys count handle >>= λ keys. give (array_by by.0 by.1 keys))
    (local_always sealer local_sealer) (λ by.
    local_then (λ (e : ℕ). given_keys count handle) (λ (keys : List UpdateKey) (e : ℕ). give (array_by by.0 by.1 keys))
    (local_always (given_keys count handle) (local_keys count handle)) (λ keys. local_give (array_by by.0 by.1 keys))))

-- the same octets give the same array at any place
array_again : (handle : Option ℕ) (length_at other : ℕ) (text : List ℕ) (base at base_2 at_2 : ℕ) (after : Cursor) (array : UpdateArray)
    → update_array handle length_at (cursor base at text) ≡ Ok (array, after) → (end : Cursor)
    × (update_array handle other (cursor base_2 at_2 text) ≡ Ok (array, end))
unfolding update_array array_head
array_again handle length_at other text base at base_2 at_2 after array is =
    let one = (local_array handle (length text)).took length_at (cursor base at text) after array is in
    let whole : text ≡ one.text ++ after.left = one.passed.left in (
      cursor base_2 (at_2 + length one.text) after.left,
      ap (λ left. array_with handle (length text) other (cursor base_2 at_2 left)) whole ∙ (one.reads other).reads base_2 at_2 after.left,
    )

-- ---- the attribute of an array

pub local_attribute_type : IsLocal (λ (e : Nothing). attribute_type)
unfolding attribute_type
local_attribute_type =
    local_then (λ (e : Nothing). number) (λ (type : ℕ) (e : Nothing). give (record { kind = type % 32768; is_short = nat_le 32768 type }))
    local_number
    (λ type. local_give (record { kind = type % 32768; is_short = nat_le 32768 type }))

local_long_type : IsLocal (λ (e : Nothing). long_type (2 ∷ []))
unfolding long_type
local_long_type =
    local_here (λ (e : Nothing) (at : ℕ). attribute_type >>= λ type. check
    (list_any (λ kind. kind == type.kind) (2 ∷ []) && not type.is_short)
    (Kind type.kind) at >> give type.kind) (
    local_then (λ (e : Nothing × ℕ). attribute_type)
    (λ (type : AttributeType) (e : Nothing × ℕ). check (list_any (λ kind. kind == type.kind) (2 ∷ []) && not type.is_short) (Kind type.kind)
    e.1
    >> give type.kind)
    (local_always attribute_type local_attribute_type) (λ type.
    local_check (list_any (λ kind. kind == type.kind) (2 ∷ []) && not type.is_short) (Kind type.kind) (λ (e : Nothing × ℕ). e.1)
    (λ (e : Nothing × ℕ). give type.kind) (λ due. local_give type.kind)))

pub back_ok : {A : Type 0} (mid after : Cursor) (value : A) (read : Result (A × Cursor) WireFault) → back_to mid read ≡ Ok (value, after)
    → (end : Cursor) × (read ≡ Ok (value, end)) × (mid ≡ after)
back_ok mid after value (Ok read) is = let same = same_value (read.0, mid) (value, after) is in
    (read.1, (λ i. Ok ((same i).0, read.1)), ap (λ read. read.1) same)
back_ok mid after value (Err fault) is = absurd (cc)

-- a value of its own, read by what depends on its octets alone
part_again : {A : Type 0} (reading : Reading A) (text : List ℕ) (value : A) (fault_at : ℕ)
    → ((base at : ℕ) → (end : Cursor) × (reading (cursor base at text) ≡ Ok (value, end)))
    → Reads (part (length text) Short fault_at >>= λ field. inside field reading) text value
part_again reading text value fault_at again = record {
  reads = λ base at rest.
      ap (λ (read : Result (Cursor × Cursor) WireFault). and_then read (λ (field : Cursor). inside field reading))
      (part_read text Short fault_at base at rest)
      ∙ ap (back_to (cursor base (at + length text) rest)) (again base at).1;
}

local_value : (handle : Option ℕ) → IsLocal (λ (p : Nothing × ℕ). long_value >>= λ value. inside value (update_array handle p.1))
unfolding long_value
local_value handle = record {
  took = λ p before after array is.
      let read = and_then_ok (long_value before) (λ (value : Cursor). inside value (update_array handle p.1)) array after is in
      let v = read.0 in
      let mid = read.1 in
      let sized = and_then_ok (number before) (λ (size : ℕ). here >>= λ at. part size Short at) v mid read.2 in
      let num = local_number.took tt before sized.1 sized.0 sized.2 in
      let whole = part_took sized.0 Short (sized.1.base + sized.1.at) sized.1 v mid sized.3 in
      let inner = back_ok mid after array (update_array handle p.1 v) read.3 in
      record {
        text = num.text ++ v.left;
        passed = subst (λ after. Passed before after (num.text ++ v.left)) inner.2
            (passed_both before sized.1 mid num.text v.left num.passed whole.passed);
        reads = λ q.
            reads_assoc number (λ size. here >>= λ at. part size Short at) (λ value. inside value (update_array handle q.1))
            (num.text ++ v.left) array (
            reads_then number (λ size. here >>= λ at. part size Short at >>= λ field. inside field (update_array handle q.1)) num.text
            v.left
            sized.0 array (num.reads tt) (
            reads_here (λ at. part sized.0 Short at >>= λ field. inside field (update_array handle q.1)) v.left array (λ at.
            subst (λ size. Reads (part size Short at >>= λ field. inside field (update_array handle q.1)) v.left array) whole.long (
            part_again (update_array handle q.1) v.left array at (λ base at. array_again handle p.1 q.1 v.left v.base v.at base at inner.0
            array
            inner.1)
            ))));
      };
}

pub local_attribute : (handle : Option ℕ) → IsLocal (λ (e : Nothing). update_attribute handle)
unfolding update_attribute
local_attribute handle =
    local_next (λ (e : Nothing). long_type (2 ∷ [])) (λ (e : Nothing). here >>= λ length_at. long_value
    >>= λ value. inside value (update_array handle length_at)) local_long_type (
    local_here (λ (e : Nothing) (length_at : ℕ). long_value >>= λ value. inside value (update_array handle length_at)) (local_value handle))
