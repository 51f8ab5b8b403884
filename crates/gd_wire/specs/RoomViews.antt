-- Octets in room that was reserved before.
use Rattle.std.specs.Prelude.{ℕ, List}

-- octets, and how many there is room for
pub record Roomy : Type 0 where
  pub octets : List ℕ
  pub room : ℕ
