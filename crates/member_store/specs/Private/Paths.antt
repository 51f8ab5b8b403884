-- The path of a store once a membership push was taken.
use Rattle.std.specs.Prelude.{◌≡◌, List, Option, None, Some, MatchBool}
use Rattle.group_terms.specs.declared.paths.PathKey.{PathKey}
use Rattle.kd_wire.specs.declared.updates.SealedKey.{SealedKey}
use Rattle.member_store.specs.Stores.{has_position, with_keys}
use Rattle.member_store.specs.Takings.{Takes}

-- with the keys that are taken, if that of the root is among them
pub record IsNewPath (path : List PathKey) (given : List SealedKey) (new : Option (List PathKey)) : Type 0 where
  pub taken : List PathKey
  pub takes : Takes path given taken
  pub is : MatchBool (has_position taken 1) (new ≡ Some (with_keys path taken)) (new ≡ None)
