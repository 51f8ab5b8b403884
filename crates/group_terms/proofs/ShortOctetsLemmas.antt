-- Octets in their field.
use Rattle.std.proofs.Common.{◌≡◌, ℕ, ◌≤◌, List, length, take, refl, arith}
use Rattle.std.proofs.lemmas.List.{take_at, length-append, length-replicate}
use Rattle.group_terms.specs.ShortOctets.{padded, HoldsOctets}

pub take-padded : (most : ℕ) (octets : List ℕ) → take (length octets) (padded most octets) ≡ octets
take-padded most octets = take_at octets _ (length octets) refl

-- what `ShortOctets` keeps is what `padded` makes
pub HoldsOctets-padded : (most : ℕ) (octets : List ℕ) → length octets ≤ most → HoldsOctets most (padded most octets) (length octets)
HoldsOctets-padded most octets fits = record {
  fits = fits;
  whole = rw (length-append, length-replicate) (omega arith);
  zeros = rw (take-padded most octets) refl;
}
