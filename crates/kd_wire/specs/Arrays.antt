-- The attributes of an LKH packet (RFC 6407 section 5.6.3): a download array (1, section 5.6.3.1) or update arrays (2, section 5.6.3.2), in
-- the long form. An attribute of kind 3, which holds the key that checks signatures (section 5.6.3.3), is passed over, wherever it is
-- and in either form.
use Rattle.std.specs.Prelude.{ℕ, zero, suc, ◌+◌, ◌-◌, ◌*◌, ◌==◌, ◌&&◌, nat_le, not, Bool, List, [], ◌∷◌, length, Option, None, Some}
use Rattle.std.specs.Prelude.{if◌then◌else◌}
use Rattle.std.specs.List.{list_any}
use Rattle.group_terms.specs.declared.paths.PathKey.{PathKey}
use Rattle.group_terms.specs.declared.wires.WireWhat.TheVariants.{Length, Reserved, Version, Kind, Value}
use Rattle.gd_wire.specs.Readings.{Cursor, Reading, ◌>>=◌, ◌>>◌, give, place, here, check, ended, octets_left, inside, number, long_number}
use Rattle.gd_wire.specs.Readings.{due_octet, due_number}
use Rattle.gd_wire.specs.Attributes.{attribute_type, long_value, attribute, next_has_kind, no_more_attributes}
use Rattle.kd_wire.specs.declared.arrays.ArrayKind.{ArrayKind}
use Rattle.kd_wire.specs.declared.arrays.ArrayKind.TheVariants.{Download, Update}
use Rattle.kd_wire.specs.declared.updates.UpdateArray.{UpdateArray}
use Rattle.kd_wire.specs.declared.spans.UpdateSpan.{UpdateSpan}
use Rattle.kd_wire.specs.Keys.{path_keys, given_keys}
use Rattle.kd_wire.specs.Widths.{lkh_key_octets}
use Rattle.kd_wire.specs.Seals.{sealed_under, handle_after, is_root}

-- the type of an attribute of one of these kinds, in the long form
unfoldable pub long_type : List ℕ → Reading ℕ
long_type kinds = do
  at ← here
  type ← attribute_type
  check (list_any (λ kind. kind == type.kind) kinds && not type.is_short) (Kind type.kind) at
  give type.kind

-- attributes of kind 3, as many as come next; the number is the most that are looked at
abbrev pub signature_keys_of : ℕ → Reading (Unit {0})
signature_keys_of zero = give tt
signature_keys_of (suc more) = do
  is_one ← next_has_kind 3
  if is_one then (attribute >> signature_keys_of more) else give tt

-- no text has more of them than octets
unfoldable pub signature_keys : Reading (Unit {0})
signature_keys = do
  most ← octets_left
  signature_keys_of most

-- ---- the head of an array

-- How many octets come before the keys of an array of each kind, after the header of its attribute.
abbrev pub head_size : ArrayKind → ℕ
head_size Download = 4
head_size Update = 12

-- The fewest keys of an array of each kind, by our choice: a download array has a path, which is two keys at least, and an update array one key.
abbrev pub least_keys : ArrayKind → ℕ
least_keys Download = 2
least_keys Update = 1

-- The most keys of an array of each kind, by our choice: a path has at most 16, and an update array as many as 2 octets can count.
abbrev pub most_keys : ArrayKind → ℕ
most_keys Download = 16
most_keys Update = 65535

-- An array begins with its version, which is 1, the number of its keys, and a reserved octet. The attribute's length, which is at this
-- place in the datagram, has to be right for that number of keys.
unfoldable pub array_head : ArrayKind → ℕ → Reading ℕ
array_head kind length_at = do
  size ← octets_left
  due_octet 1 Version
  at ← here
  count ← number
  check (nat_le (least_keys kind) count && nat_le count (most_keys kind)) Value at
  check (size == head_size kind + lkh_key_octets * count) Length length_at
  due_octet 0 Reserved
  give count

-- ---- update arrays

-- the LKH ID of the key under which the first key of an array is sealed, 2 reserved octets, and the handle of that key
unfoldable pub sealer : Reading (ℕ × ℕ)
sealer = do
  at ← here
  by ← number
  check (not (by == 0)) Value at
  due_number 0 Reserved
  made ← long_number
  give (by, made)

-- All keys that the update arrays of a packet give have one handle: that of the first one in the first array.
unfoldable pub update_array : Option ℕ → ℕ → Reading UpdateArray
update_array handle length_at = do
  count ← array_head Update length_at
  by ← sealer
  keys ← given_keys count handle
  give (record { by = by.0; by_made = by.1; keys = sealed_under by.0 by.1 keys })

-- an attribute of kind 2, in the long form, whose value is an update array (RFC 6407 section 5.6.3.2)
unfoldable pub update_attribute : Option ℕ → Reading UpdateArray
update_attribute handle = do
  long_type (2 ∷ [])
  length_at ← here
  value ← long_value
  inside value (update_array handle length_at)

-- after an array, the next one, or none at the end
unfoldable pub next_update : Option ℕ → Reading (Option UpdateArray)
next_update handle = do
  signature_keys
  nothing ← ended
  if nothing then give None else (do
    array ← update_attribute handle
    give (Some array))

-- an array, and the place in the text after it
pub record PlacedArray : Type 0 where
  pub array : UpdateArray
  pub end : ℕ

-- what follows an array, where it is one
abbrev pub go_on : {A : Type 0} → Option UpdateArray → (UpdateArray → Reading (List A)) → Reading (List A)
go_on None more = give []
go_on (Some array) more = more array

-- the arrays up to the end; the number is the most that are read
abbrev pub more_updates : ℕ → Option ℕ → Reading (List PlacedArray)
more_updates zero handle = give []
more_updates (suc more) handle = do
  next ← next_update handle
  end ← place
  go_on next (λ array. do
    arrays ← more_updates more (handle_after handle array.keys)
    give (record { array = array; end = end } ∷ arrays))

-- the arrays of a packet, and where they are
pub record PlacedUpdates : Type 0 where
  pub arrays : List UpdateArray
  pub span : UpdateSpan

-- the arrays alone, without the places after them
abbrev pub arrays_of : List PlacedArray → List UpdateArray
arrays_of [] = []
arrays_of (placed ∷ more) = placed.array ∷ arrays_of more

-- the place after the last of some arrays, or this one where there is none
abbrev pub end_after : ℕ → List PlacedArray → ℕ
end_after end [] = end
end_after end (placed ∷ more) = end_after placed.end more

-- one array at least; a text has fewer of them after that than octets
unfoldable pub updates : Reading PlacedUpdates
updates = do
  signature_keys
  start ← place
  most ← octets_left
  first ← update_attribute None
  end ← place
  more ← more_updates (most - 1) (handle_after None first.keys)
  give (record {
    arrays = first ∷ arrays_of more;
    span = record { start = start; end = end_after end more; arrays = suc (length more) };
  })

-- whether one of the keys that some arrays give is that of the root
abbrev pub gives_root : List UpdateArray → Bool
gives_root arrays = list_any (λ (array : UpdateArray). list_any is_root array.keys) arrays

-- ---- a download array

-- a download array (RFC 6407 section 5.6.3.1), whose attribute's length is at this place: its head, and the keys of a path up to the root's
unfoldable pub download_array : ℕ → Reading (List PathKey)
download_array length_at = do
  count ← array_head Download length_at
  path_keys count None

-- just one download array among the attributes of a packet, before and after which those of kind 3 are passed over
unfoldable pub download : Reading (List PathKey)
download = do
  signature_keys
  long_type (1 ∷ [])
  length_at ← here
  value ← long_value
  path ← inside value (download_array length_at)
  signature_keys
  no_more_attributes
  give path
