-- Where keys are found: the cookies of SAs, or their members.
use Rattle.std.proofs.Common.{◌≡◌, ℕ, ◌+◌, true, not, ltb, List, [], ◌∷◌, None, Some, cond, map, refl, ap}
use Rattle.std.specs.Cmp.Lexicographic.{nat_list_eq_equiv}
use Rattle.std.specs.List.{position, position_or_len}
use Rattle.std.specs.Str.{bytes_eq}
use Rattle.std.proofs.lemmas.List.{length-map}
use Rattle.std.proofs.lemmas.Slice.Eq.{bytes_eq-Decides}

pub bytes_eq-is : (a b : List ℕ) → bytes_eq a b ≡ true → a ≡ b
bytes_eq-is a b same = (bytes_eq-Decides a b).0 same

pub bytes_eq-self : (a : List ℕ) → bytes_eq a a ≡ true
bytes_eq-self a = nat_list_eq_equiv.refl a

-- a key is at the place of the first item that has it
module _ {A : Type 0} (key_of : A → List ℕ) where
  first_keyed : (key : List ℕ) (items : List A)
      → position_or_len (bytes_eq key) (map key_of items) ≡ position_or_len (λ item. bytes_eq key (key_of item)) items
  first_keyed key [] = refl
  first_keyed key (item ∷ items) = ap (λ n. cond (not (bytes_eq key (key_of item))) (1 + n) 0) (first_keyed key items)

  pub position_keyed : (key : List ℕ) (items : List A) → position (bytes_eq key) (map key_of items) ≡ position (λ item. bytes_eq key (key_of item)) items
  position_keyed key items = λ i. cond (ltb (first_keyed key items i) (length-map items key_of i)) (Some (first_keyed key items i)) None
