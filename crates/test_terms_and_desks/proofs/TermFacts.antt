-- What the definitions give where a wrong limit, or a look at one child alone, would give something else.
use Rattle.std.proofs.Common.{◌≡◌, [], ◌∷◌, true, false, refl}
use Rattle.std.specs.Prelude.{replicate}
use Rattle.group_terms.specs.Names.{is_name}
use Rattle.group_terms.specs.Positions.{marks_of}

name_of_32_octets : is_name (replicate 32 97) ≡ true
name_of_32_octets = refl

name_of_33_octets : is_name (replicate 33 97) ≡ false
name_of_33_octets = refl

marks_above_the_second_leaf : marks_of 2 (false ∷ true ∷ false ∷ false ∷ []) ≡ false ∷ true ∷ true ∷ false ∷ false ∷ true ∷ false ∷ false ∷ []
marks_above_the_second_leaf = refl
