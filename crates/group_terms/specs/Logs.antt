-- What contracts see of a log.
use Rattle.std.specs.Prelude.{ℕ, List}

-- the items, and how many more there is room for
pub record Recorded (T : Type 0) : Type 0 where
  pub items : List T
  pub spare : ℕ
