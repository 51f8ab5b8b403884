-- What contracts see of a source or a sink.
use Rattle.std.specs.Prelude.{ℕ, List, Option}

-- its octets, where it exposes them, and how many of its calls failed: the octets that a source has left, or that were put into a sink
pub record Shown : Type 0 where
  pub octets : Option (List ℕ)
  pub faults : ℕ
