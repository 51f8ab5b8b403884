-- Objects that count their faults.
use Rattle.std.specs.Prelude.{ℕ}

-- an object, and how many of its calls failed
pub record Faulty (T : Type 0) : Type 0 where
  pub inner : T
  pub faults : ℕ
