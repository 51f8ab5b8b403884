-- Numbers that are marked.
use Rattle.std.specs.Prelude.{◌≡◌, ℕ, Bool, false, List, nat_eq, slice_index_or}
use Rattle.std.specs.List.{list_any, IsDistinct}

-- numbers below a bound, in the order in which they were marked
pub record Marked : Type 0 where
  pub order : List ℕ
  pub bound : ℕ

-- just the numbers of the list are marked, and none is there twice
pub record AreMarked (order : List ℕ) (marks : List Bool) : Type 0 where
  pub each : (number : ℕ) → slice_index_or marks number false ≡ list_any (nat_eq number) order
  pub once : IsDistinct nat_eq order
