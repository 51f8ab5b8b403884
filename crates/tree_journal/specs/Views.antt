-- A journal as its callers see it.
use Rattle.std.specs.Prelude.{ℕ, Bool, Option}

-- its disk; whether it is closed, as after a call that failed; the place where reading goes on; and that of the clear commit mark, once it was found
pub record View (D : Type 0) : Type 0 where
  pub disk : D
  pub closed : Bool
  pub at : ℕ
  pub end : Option ℕ
