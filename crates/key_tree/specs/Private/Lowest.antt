-- The lowest number that passes, and the lowest marked leaf.
use Rattle.std.specs.Prelude.{◌≡◌, ℕ, ◌+◌, ◌^◌, ◌<◌, ◌≤◌, nat_lt, Bool, true, false, List, Option, None, Some, slice_index_or, if◌then◌else◌}
use Rattle.group_terms.specs.Positions.{halved}

-- the lowest number from one on that passes, if one does
abbrev pub IsLowestFrom : (ℕ → Bool) → ℕ → Option ℕ → Type 0
IsLowestFrom p from None = (i : ℕ) → from ≤ i → p i ≡ false
IsLowestFrom p from (Some lowest) = (from ≤ lowest) × (p lowest ≡ true) × ((i : ℕ) → from ≤ i → i < lowest → p i ≡ false)

-- a leaf has the lowest mark of those that are so many levels below a position
pub record IsLowestBelow (depth : ℕ) (leaves : List Bool) (height top place : ℕ) : Type 0 where
  pub below : halved height (2 ^ depth + place) ≡ top
  pub marked : slice_index_or leaves place false ≡ true
  pub before : (i : ℕ) → i < place → halved height (2 ^ depth + i) ≡ top → slice_index_or leaves i false ≡ false

-- the lower one of two numbers, of which there may be one alone or none
abbrev pub lower_of : Option ℕ → Option ℕ → Option ℕ
lower_of None other = other
lower_of (Some one) None = Some one
lower_of (Some one) (Some other) = Some (if nat_lt one other then one else other)
