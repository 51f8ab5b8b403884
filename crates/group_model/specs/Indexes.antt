-- Where the leaf of each name is found.
use Rattle.std.specs.Prelude.{◌≡◌, ℕ, true, Option, None, Some, slice_index_or, IfSome}
use Rattle.std.specs.HashMap.{get}
use Rattle.group_terms.specs.Names.{Name, same_name}
use Rattle.group_model.specs.declared.indexes.NameIndex.{NameIndex}
use Rattle.group_model.specs.Places.{Holders, is_held_by}

-- no name has two leaves
abbrev pub AreOnce : Holders → Type 0
AreOnce holders =
    (m : Name) (i j : ℕ) → is_held_by m (slice_index_or holders i None) ≡ true → is_held_by m (slice_index_or holders j None) ≡ true → i ≡ j

-- what is found by a name is the leaf of who has it, and each leaf that somebody has is found
pub record IsIndex (holders : Holders) (find : Name → Option ℕ) : Type 0 where
  pub there : (m : Name) (i : ℕ) → find m ≡ Some i → slice_index_or holders i None ≡ Some m
  pub found : (m : Name) (i : ℕ) → slice_index_or holders i None ≡ Some m → find m ≡ Some i

-- as far as the index is kept
abbrev pub IsIndexOf : Holders → NameIndex → Type 0
IsIndexOf holders index = IfSome index.places (λ places. IsIndex holders (get same_name places))
