-- Octets that are kept in place, in a field that has room for a certain number of them.
use Rattle.std.specs.Prelude.{◌≡◌, ℕ, ◌-◌, ◌≤◌, List, ◌++◌, length, take, replicate}
use Rattle.std.proofs.Common.{sym}
use Rattle.std.proofs.lemmas.List.{length-take-le}

-- octets at the front of a field of so many, with zeros after them
abbrev pub padded : ℕ → List ℕ → List ℕ
padded most octets = octets ++ replicate (most - length octets) 0

-- a field of so many octets has as many as size at its front, and zeros after them
pub record HoldsOctets (most : ℕ) (field : List ℕ) (size : ℕ) : Type 0 where
  pub fits : size ≤ most
  pub whole : length field ≡ most
  pub zeros : field ≡ take size field ++ replicate (most - size) 0

-- such a field is that of the octets at its front
pub padded-take : (most : ℕ) (field : List ℕ) (size : ℕ) → HoldsOctets most field size → padded most (take size field) ≡ field
padded-take most field size h =
    let enough : size ≤ length field = rw h.whole h.fits in
    rw (length-take-le size field enough) (sym h.zeros)
