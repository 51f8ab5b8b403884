-- Data attributes (RFC 2408 section 3.3): a kind of 15 bits after a bit for the form. The short form goes on with a number of 2 octets, the
-- long form with a value of any size, after the size of that in 2 octets.
use Rattle.std.specs.Prelude.{ℕ, ◌+◌, ◌%◌, ◌==◌, ◌&&◌, nat_le, Bool, List, ◌++◌, length, take, drop, Ok, if◌then◌else◌}
use Rattle.byteorder.specs.Endian.{big_from, big_bytes}
use Rattle.group_terms.specs.declared.wires.WireWhat.TheVariants.{Short, Kind}
use Rattle.gd_wire.specs.declared.attributes.Attribute.{Attribute}
use Rattle.gd_wire.specs.declared.attributes.AttrValue.{AttrValue}
use Rattle.gd_wire.specs.declared.attributes.AttrValue.TheVariants as Values
use Rattle.gd_wire.specs.declared.attributes.AttributeType.{AttributeType}
use Rattle.gd_wire.specs.Readings.{Cursor, Reading, ◌>>=◌, give, place, here, ended, fail, part, number}

-- ---- texts

-- the text of an attribute in the short form (RFC 2408 section 3.3): its kind, with the first bit set, and its number, in 2 octets each
abbrev pub short_text : ℕ → ℕ → List ℕ
short_text kind number = big_bytes 2 (32768 + kind) ++ big_bytes 2 number

-- the text of an attribute in the long form (RFC 2408 section 3.3): its kind and the size of its value, in 2 octets each, and the value
abbrev pub long_text : ℕ → List ℕ → List ℕ
long_text kind value = big_bytes 2 kind ++ big_bytes 2 (length value) ++ value

-- the text of an attribute of this kind and value; a long value is in a text
abbrev pub value_text : List ℕ → ℕ → AttrValue → List ℕ
value_text text kind (Values.Short number) = short_text kind number
value_text text kind (Values.Long start size) = long_text kind (take size (drop start text))

-- the text of an attribute whose value, where that is long, is in a text
abbrev pub attribute_text : List ℕ → Attribute → List ℕ
attribute_text text attribute = value_text text attribute.kind attribute.value

-- ---- readings

-- the first two octets: the form and the kind
unfoldable pub attribute_type : Reading AttributeType
attribute_type = do
  type ← number
  give (record { kind = type % 32768; is_short = nat_le 32768 type })

-- after the type: a number
unfoldable pub short_value : Reading AttrValue
short_value = do
  value ← number
  give (Values.Short value)

-- or a value as a text of its own
unfoldable pub long_value : Reading Cursor
long_value = do
  size ← number
  at ← here
  part size Short at

-- where that text is in the whole one
unfoldable pub long_place : Reading AttrValue
long_place = do
  value ← long_value
  give (Values.Long value.at (length value.left))

-- what an attribute says, and the place after it
unfoldable pub attribute : Reading Attribute
attribute = do
  type ← attribute_type
  value ← (if type.is_short then short_value else long_place)
  next ← place
  give (record { kind = type.kind; value = value; next = next })

-- whether the next two octets are the type of an attribute of this kind
abbrev pub next_has_kind : ℕ → Reading Bool
next_has_kind kind cursor = Ok (nat_le 2 (length cursor.left) && (big_from 0 2 cursor.left % 32768 == kind), cursor)

-- an attribute that is not awaited
unfoldable pub other_attribute : Reading (Unit {0})
other_attribute = do
  at ← here
  type ← attribute_type
  fail (Kind type.kind) at

-- After the last attribute the text ends: an octet left over is a type that is not whole, and two are a type that is not awaited.
unfoldable pub no_more_attributes : Reading (Unit {0})
no_more_attributes = do
  nothing ← ended
  if nothing then give tt else other_attribute
