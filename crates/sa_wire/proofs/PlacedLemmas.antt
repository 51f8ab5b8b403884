-- Policies that were read, with their places.
use Rattle.std.proofs.Common.{◌≡◌, Result, Ok, Err, refl, ap}
use Rattle.gd_wire.specs.Readings.{Cursor, value_of, mapped}
use Rattle.group_terms.specs.declared.wires.WireFault.{WireFault}
use Rattle.sa_wire.specs.Policies.{policy_of}
use Rattle.sa_wire.specs.declared.places.PlacedSa.{PlacedSa}
use Rattle.sa_wire.specs.declared.policies.SaPolicy.{SaPolicy}

abbrev policy_in : SaPolicy → Result SaPolicy WireFault → SaPolicy
policy_in other (Ok policy) = policy
policy_in other (Err fault) = other

pub placed_from : (read : Result (PlacedSa × Cursor) WireFault) (policy : SaPolicy) → value_of (mapped policy_of read) ≡ Ok policy
    → (placed : PlacedSa) × (value_of read ≡ Ok placed) × (policy_of placed ≡ policy)
placed_from (Ok found) policy is = (found.0, refl, ap (policy_in policy) is)
placed_from (Err fault) policy is = absurd (cc)
