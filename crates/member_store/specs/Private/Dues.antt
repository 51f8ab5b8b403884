-- Candidate keys: the keys of a push that are for a path.
use Rattle.std.specs.Prelude.{Bool, List}
use Rattle.group_terms.specs.declared.paths.PathKey.{PathKey}
use Rattle.kd_wire.specs.declared.updates.SealedKey.{SealedKey}
use Rattle.member_store.specs.Stores.{has_position}

-- whether a given key is that of a position of this path
abbrev pub is_due : List PathKey → SealedKey → Bool
is_due path given = has_position path given.gives.id
