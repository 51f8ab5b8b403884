-- Over an epoch over which a member stays somebody stays.
use Rattle.std.proofs.Common.{◌≡◌, arith, refl, subst, ℕ, ◌+◌, ◌-◌, ◌^◌, true, false, Bool, List, [], ◌∷◌, Option, None, Some, ◌||◌}
use Rattle.std.specs.List.{list_any, position}
use Rattle.std.specs.Option.{option_map}
use Rattle.std.proofs.lemmas.Bool.{false≢true}
use Rattle.std.proofs.lemmas.List.Folds.{list_any_at}
use Rattle.std.proofs.lemmas.List.Quantifiers.{position-Some}
use Rattle.std.proofs.lemmas.Option.{none-some}
use Rattle.std.proofs.lemmas.Slice.Eq.{bytes_eq-Decides}
use Rattle.group_terms.specs.Names.{Name}
use Rattle.group_terms.specs.declared.changes.Change.{Change}
use Rattle.group_model.specs.Places.{Holders, holders_at, is_held_by, is_member, place_in}
use Rattle.group_model.specs.Stayed.{is_kept, somebody_stayed, stayed_at}

-- whose leaf m's is was a member before, if m was
kept_if : (before : Holders) (m : Name) (holder : Option Name) → is_member before m ≡ true → is_held_by m holder ≡ true
    → is_kept before holder ≡ true
kept_if before m None was held = absurd (false≢true held)
kept_if before m (Some name) was held = subst (λ m. is_member before m ≡ true) ((bytes_eq-Decides m name).0 held) was

either_true : (one other kept later : Bool) → (one ≡ true → kept ≡ true) → (other ≡ true → later ≡ true) → (one || other) ≡ true
    → (kept || later) ≡ true
either_true true other true later first second is = refl
either_true true other false later first second is = absurd (false≢true (first refl))
either_true false other true later first second is = refl
either_true false other false later first second is = second is

pub somebody_stays : (before after : Holders) (m : Name) → is_member before m ≡ true → is_member after m ≡ true
    → somebody_stayed before after ≡ true
somebody_stays before [] m was is = is
somebody_stays before (holder ∷ after) m was is =
    either_true (is_held_by m holder) (list_any (is_held_by m) after) (is_kept before holder) (list_any (is_kept before) after)
    (kept_if before m holder was) (somebody_stays before after m was) is

member_if : (depth : ℕ) (holders : Holders) (m : Name) (leaf : ℕ) (found : Option ℕ) → position (is_held_by m) holders ≡ found
    → option_map (λ i. 2 ^ depth + i) found ≡ Some leaf → is_member holders m ≡ true
member_if depth holders m leaf None is has = absurd (none-some leaf has)
member_if depth holders m leaf (Some i) is has =
    let held = position-Some (is_held_by m) holders i None is in list_any_at (is_held_by m) holders i None held.0 held.1

-- who has a place is a member
pub placed_member : (depth : ℕ) (holders : Holders) (m : Name) (leaf : ℕ) → place_in depth holders m ≡ Some leaf → is_member holders m ≡ true
placed_member depth holders m leaf has = member_if depth holders m leaf (position (is_held_by m) holders) refl has

-- a member of an epoch that is one of the next, too
pub stays_over : (depth : ℕ) (batches : List (List Change)) (epoch : ℕ) (m : Name) → is_member (holders_at depth batches epoch) m ≡ true
    → is_member (holders_at depth batches (epoch + 1)) m ≡ true → stayed_at depth batches (epoch + 1) ≡ true
stays_over depth batches epoch m was is =
    let back : epoch ≡ epoch + 1 - 1 = omega arith in
    somebody_stays (holders_at depth batches (epoch + 1 - 1)) (holders_at depth batches (epoch + 1)) m
    (subst (λ epoch. is_member (holders_at depth batches epoch) m ≡ true) back was) is
