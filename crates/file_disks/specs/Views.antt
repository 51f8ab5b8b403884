-- A disk over a file, and a file of the operating system, as their callers see them.
use Rattle.std.specs.Prelude.{ℕ, Bool}

-- its file, whether a sync failed, and how many of its calls did
pub record View (F : Type 0) : Type 0 where
  pub file : F
  pub lost : Bool
  pub faults : ℕ

-- a file of the operating system: whether no sync of it or of its folder failed, and how many of its calls did
pub record SystemFile : Type 0 where
  pub is_sound : Bool
  pub faults : ℕ
