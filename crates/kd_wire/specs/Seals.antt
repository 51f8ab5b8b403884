-- Which key seals each key of an update array (RFC 6407 section 5.6.3.2).
use Rattle.std.specs.Prelude.{ℕ, zero, suc, ◌==◌, Bool, List, [], ◌∷◌, Option, Some, Result, Ok, Err}
use Rattle.group_terms.specs.declared.wires.WireFault.{WireFault}
use Rattle.gd_wire.specs.Readings.{Cursor}
use Rattle.kd_wire.specs.declared.updates.UpdateKey.{UpdateKey}
use Rattle.kd_wire.specs.declared.updates.SealedKey.{SealedKey}
use Rattle.kd_wire.specs.Keys.{given_key}

-- the key that the array names seals the first key, and each further one is sealed by the key before it
abbrev pub sealed_under : ℕ → ℕ → List UpdateKey → List SealedKey
sealed_under by made [] = []
sealed_under by made (key ∷ keys) = record { by = by; by_made = made; gives = key } ∷ sealed_under key.id key.made keys

-- the handle that is due after some keys: theirs, or else this one
abbrev pub handle_after : Option ℕ → List SealedKey → Option ℕ
handle_after handle [] = handle
handle_after handle (key ∷ keys) = handle_after (Some key.gives.made) keys

-- whether it gives a key of the root
abbrev pub is_root : SealedKey → Bool
is_root key = key.gives.id == 1

-- ---- the keys of an array, one after the other

-- a list that begins with what is read, and is empty at a fault
abbrev pub read_or_none : {A B : Type 0} → Result (A × Cursor) WireFault → (A → Cursor → List B) → List B
read_or_none (Ok read) more = more read.0 read.1
read_or_none (Err fault) more = []

-- the keys that are read from here on, up to the first fault; the number is the most
abbrev pub keys_left : ℕ → Option ℕ → Cursor → List UpdateKey
keys_left zero handle cursor = []
keys_left (suc more) handle cursor = read_or_none (given_key handle cursor) (λ key next. key ∷ keys_left more (Some key.made) next)
