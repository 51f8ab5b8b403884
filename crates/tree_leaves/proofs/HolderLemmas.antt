-- Steps of the loops over the leaves.
use Rattle.std.proofs.Common.{◌≡◌, ℕ, ◌+◌, ◌<◌, ◌≤◌, ltb, List, [], ◌∷◌, ◌++◌, Some, None, length, map, take, get_or, set, sym, ap, ◌∙◌, arith, inl, inr}
use Rattle.std.specs.Prelude.{is_none}
use Rattle.std.specs.List.{zip, position, position_or_len}
use Rattle.std.proofs.lemmas.Bool.{cases_Bool, cond-true, ltb-false}
use Rattle.std.proofs.lemmas.List.{map_more, set_past, take_all, length-map}
use Rattle.std.proofs.lemmas.Slice.Zip.{length-zip, get_or-zip}
use Rattle.std.proofs.lemmas.Option.{cond_some, none-some}
use Rattle.group_terms.specs.Names.{Name}
use Rattle.tree_leaves.specs.Places.{Holders, placed}

-- one more pair of elements
pub zipped_more : {A B C : Type 0} (f : A × B → C) (xs : List A) (ys : List B) (i : ℕ) (x : A) (y : B) (done : List C) → length xs ≡ length ys → i < length ys → x ≡ get_or xs i x → y ≡ get_or ys i y → done ≡ map f (take i (zip xs ys)) → done ++ f (x, y) ∷ [] ≡ map f (take (i + 1) (zip xs ys))
zipped_more f xs ys i x y done same low hx hy so_far =
    let within : i < length xs = omega arith in
    let few : i < length (zip xs ys) = rw length-zip (omega arith) in
    let read : get_or (zip xs ys) i (x, y) ≡ (x, y) = get_or-zip xs ys i (x, y) within low ∙ (λ j. (sym hx j, sym hy j)) in
    so_far_more few read
  where
    so_far_more : i < length (zip xs ys) → get_or (zip xs ys) i (x, y) ≡ (x, y) → done ++ f (x, y) ∷ [] ≡ map f (take (i + 1) (zip xs ys))
    so_far_more few read =
        ap (λ front. front ++ f (x, y) ∷ []) so_far ∙ ap (λ pair. map f (take i (zip xs ys)) ++ f pair ∷ []) (sym read) ∙ sym (map_more f (zip xs ys) i (x, y) few)

-- all pairs
pub zipped_all : {A B C : Type 0} (f : A × B → C) (xs : List A) (ys : List B) (i : ℕ) → length xs ≡ length ys → length ys ≤ i → map f (take i (zip xs ys)) ≡ map f (zip xs ys)
zipped_all f xs ys i same past =
    let whole : length (zip xs ys) ≤ i = rw length-zip (omega arith) in
    ap (map f) (take_all i (zip xs ys) whole)

pub length-zipped : {A B C : Type 0} (f : A × B → C) (xs : List A) (ys : List B) (zs : List C) → length xs ≡ length ys → zs ≡ map f (zip xs ys) → length zs ≡ length ys
length-zipped f xs ys zs same h = ap length h ∙ length-map (zip xs ys) f ∙ length-zip xs ys ∙ omega (arith, same)

-- the lowest free leaf is taken
pub placed_at : (holders : Holders) (m : Name) (free : ℕ) → position is_none holders ≡ Some free → set holders free (Some m) ≡ placed holders m
placed_at holders m free h =
    let found = cond_some (ltb (position_or_len is_none holders) (length holders)) (position_or_len is_none holders) free h in
    ap (λ i. set holders i (Some m)) (sym found.1)

-- where each leaf is taken, none is
pub placed_nowhere : (holders : Holders) (m : Name) → position is_none holders ≡ None → holders ≡ placed holders m
placed_nowhere holders m h = elim (cases_Bool (ltb (position_or_len is_none holders) (length holders))) [
  | inl found ↦ absurd (none-some (position_or_len is_none holders) (sym h ∙ cond-true (ltb (position_or_len is_none holders) (length holders)) (Some (position_or_len is_none holders)) None found))
  | inr past ↦ sym (set_past holders (position_or_len is_none holders) (Some m) (ltb-false (position_or_len is_none holders) (length holders) past))
]
