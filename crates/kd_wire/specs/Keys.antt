-- A key of LKH (RFC 6407 section 5.6.3.1): its LKH ID in 2 octets, its type in 1, a reserved octet, the dates of its creation and its
-- expiration in 4 octets each, its handle in 4, and its data, an IV and a key. Our choices are AES with keys of 128 bits alone, which has
-- the type 3; that a handle is the epoch of a key; and that dates are not looked at.
use Rattle.std.specs.Prelude.{ℕ, zero, suc, ◌+◌, ◌/◌, ◌==◌, ◌&&◌, ◌||◌, not, Bool, true, List, [], ◌∷◌, Option, None, Some}
use Rattle.group_terms.specs.Octets.{iv_octets, key_octets, data_octets}
use Rattle.group_terms.specs.declared.paths.PathKey.{PathKey}
use Rattle.group_terms.specs.declared.wires.WireWhat.TheVariants.{Reserved, Value}
use Rattle.gd_wire.specs.Readings.{Reading, ◌>>=◌, ◌>>◌, give, here, check, octets, number, long_number, due_octet}
use Rattle.kd_wire.specs.declared.updates.UpdateKey.{UpdateKey}

-- its type, and the reserved octet after it
unfoldable pub key_type : Reading (Unit {0})
key_type = do
  due_octet 3 Value
  due_octet 0 Reserved

-- ---- the keys of a path, whose data is not sealed

-- After each key of a path comes that of its parent, up to the root's (RFC 6407 section 5.6.3.1, RFC 2627 section 5.4); in our numbering
-- the parent of p is p / 2, and the root is 1. Whether an ID is that of the parent of the one below, if there is one:
abbrev pub is_above : Option ℕ → ℕ → Bool
is_above None id = true
is_above (Some below) id = id == below / 2

-- and whether an ID is due where this number of keys comes after it: the last one is the root's
abbrev pub is_on_path : ℕ → Option ℕ → ℕ → Bool
is_on_path more below id = not (id == 0) && (is_above below id && (not (more == 0) || id == 1))

-- A key of a path, after which this number of keys comes, and whose ID is that of the parent of the one below, if there is one.
unfoldable pub path_key : ℕ → Option ℕ → Reading PathKey
path_key more below = do
  at ← here
  id ← number
  check (is_on_path more below id) Value at
  key_type
  octets 8
  made ← long_number
  iv ← octets iv_octets
  key ← octets key_octets
  give (record { id = id; made = made; value = record { iv = iv; key = key } })

-- a number of keys, one after the other
abbrev pub path_keys : ℕ → Option ℕ → Reading (List PathKey)
path_keys zero below = give []
path_keys (suc more) below = do
  key ← path_key more below
  keys ← path_keys more (Some key.id)
  give (key ∷ keys)

-- ---- the keys that an update gives, whose data is sealed

-- whether a key has the handle that is asked for, if any
abbrev pub has_handle : Option ℕ → ℕ → Bool
has_handle None made = true
has_handle (Some handle) made = made == handle

-- a key that an update gives, whose data is still sealed, with a handle that is the one asked for, if any
unfoldable pub given_key : Option ℕ → Reading UpdateKey
given_key handle = do
  at ← here
  id ← number
  check (not (id == 0)) Value at
  key_type
  octets 8
  made_at ← here
  made ← long_number
  check (has_handle handle made) Value made_at
  sealed ← octets data_octets
  give (record { id = id; made = made; sealed = sealed })

-- a number of keys, all with one handle
abbrev pub given_keys : ℕ → Option ℕ → Reading (List UpdateKey)
given_keys zero handle = give []
given_keys (suc more) handle = do
  key ← given_key handle
  keys ← given_keys more (Some key.made)
  give (key ∷ keys)
