-- A value that may be missing, and what is made of it.
use Rattle.std.specs.Prelude.{Option, List, [], ◌∷◌, None, Some}
use Rattle.std.specs.Option.{option_and_then}

infixl 10 ◌>>=◌
-- where there is a value, what is made of it
abbrev pub ◌>>=◌ : {A B : Type 0} → Option A → (A → Option B) → Option B
value >>= next = option_and_then next value

-- the one item of a list that has exactly one
abbrev pub one : {A : Type 0} → List A → Option A
one [] = None
one (item ∷ []) = Some item
one (item ∷ second ∷ items) = None

-- the one item of a list that has one at most, or a value in its place
abbrev pub one_or : {A : Type 0} → A → List A → Option A
one_or absent [] = Some absent
one_or absent (item ∷ items) = one (item ∷ items)
