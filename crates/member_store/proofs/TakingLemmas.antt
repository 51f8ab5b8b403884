-- The first key that can be taken.
use Rattle.std.proofs.Common.{◌≡◌, ◌∙◌, sym, true, List, ◌∷◌, ◌++◌, Some}
use Rattle.std.specs.List.{find}
use Rattle.group_terms.specs.declared.paths.PathKey.{PathKey}
use Rattle.kd_wire.specs.declared.updates.SealedKey.{SealedKey}
use Rattle.member_store.specs.Takings.{IsUnsealed, TakesNext, can_take, sealer_of}
use Rattle.member_store.proofs.FindLemmas.{found_first, found_here}

-- the first of what is left is the first of all
pub takes_first : (path taken : List PathKey) (given : SealedKey) (rest all : List SealedKey) (by key : PathKey)
    → can_take path taken given ≡ true → find (can_take path taken) (given ∷ rest) ≡ find (can_take path taken) all
    → sealer_of path taken given ≡ Some by → IsUnsealed by given key → TakesNext path taken all key
takes_first path taken given rest all by key can same seals unsealed = record {
  first = given;
  is_first = sym same ∙ found_here (can_take path taken) given rest can;
  by = by;
  seals = seals;
  unsealed = unsealed;
}

-- so is the first of some keys, where these are in front of others
pub takes_in_front : (path taken : List PathKey) (front rest all : List SealedKey) (key : PathKey)
    → find (can_take path taken) (front ++ rest) ≡ find (can_take path taken) all
    → TakesNext path taken front key → TakesNext path taken all key
takes_in_front path taken front rest all key same next = record {
  first = next.first;
  is_first = sym same ∙ found_first (can_take path taken) front rest next.first next.is_first;
  by = next.by;
  seals = next.seals;
  unsealed = next.unsealed;
}
