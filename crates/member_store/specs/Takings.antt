-- Which keys a member takes from a membership push (the update arrays of RFC 6407 section 5.6.3.2). With each new key of its path it may open another one (RFC
-- 2627 section 5.4), in whatever order the push gives them. That the first in the text counts, and what was taken before the path, is our choice.
use Rattle.std.specs.Prelude.{◌≡◌, ℕ, ◌==◌, ◌&&◌, not, Bool, List, [], ◌∷◌, ◌++◌, length, Option, None, Some, is_some}
use Rattle.std.specs.List.{find, flat_map}
use Rattle.gd_cipher.specs.Chains.{IsOpened}
use Rattle.group_terms.specs.Octets.{iv_octets}
use Rattle.group_terms.specs.declared.paths.PathKey.{PathKey}
use Rattle.kd_wire.specs.Texts.{data_of}
use Rattle.kd_wire.specs.declared.updates.SealedKey.{SealedKey}
use Rattle.kd_wire.specs.declared.updates.UpdateArray.{UpdateArray}
use Rattle.member_store.specs.Stores.{has_position}

-- the keys that some arrays give, in the order of the text
abbrev pub keys_given : List UpdateArray → List SealedKey
keys_given arrays = flat_map (λ (array : UpdateArray). array.keys) arrays

-- whether a key is called by this position and this epoch
abbrev pub is_called : ℕ → ℕ → PathKey → Bool
is_called id made key = key.id == id && key.made == made

-- a member with this path, which took these keys already
module _ (path taken : List PathKey) where
  -- the key that seals a given one, if the member has it: what was taken is looked at before the path
  abbrev pub sealer_of : SealedKey → Option PathKey
  sealer_of given = find (is_called given.by given.by_made) (taken ++ path)

  -- whether a given key can be taken: its position is one of the path for which none was taken, and the member has the key that seals it
  abbrev pub can_take : SealedKey → Bool
  can_take given = has_position path given.gives.id && (not (has_position taken given.gives.id) && is_some (sealer_of given))

-- a given key, opened by the one that seals it, by cipher block chaining: its IV and its octets (RFC 6407 section 5.6.3.1, SP 800-38A section 6.2)
pub record IsUnsealed (by : PathKey) (given : SealedKey) (key : PathKey) : Type 0 where
  pub id : key.id ≡ given.gives.id
  pub made : key.made ≡ given.gives.made
  pub iv : length key.value.iv ≡ iv_octets
  pub opened : IsOpened by.value.key by.value.iv given.gives.sealed (data_of key.value)

-- the first of the given keys that can be taken, opened
pub record TakesNext (path taken : List PathKey) (given : List SealedKey) (key : PathKey) : Type 0 where
  pub first : SealedKey
  pub is_first : find (can_take path taken) given ≡ Some first
  pub by : PathKey
  pub seals : sealer_of path taken first ≡ Some by
  pub unsealed : IsUnsealed by first key

-- after the keys taken so far these are taken, one after the other, until none can be
abbrev pub TakesAfter : List PathKey → List SealedKey → List PathKey → List PathKey → Type 0
TakesAfter path given taken [] = find (can_take path taken) given ≡ None
TakesAfter path given taken (key ∷ keys) = TakesNext path taken given key × TakesAfter path given (taken ++ key ∷ []) keys

-- all that is taken, in the order in which it is
abbrev pub Takes : List PathKey → List SealedKey → List PathKey → Type 0
Takes path given taken = TakesAfter path given [] taken
