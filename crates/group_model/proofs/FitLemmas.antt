-- What the test of a batch finds.
use Rattle.std.proofs.Common.{◌≡◌, ℕ, suc, ◌+◌, ◌-◌, ◌^◌, ◌<◌, ◌≤◌, Bool, true, false, cond, not, ltb, ◌&&◌, ◌||◌, List, [], ◌∷◌, Some, None, length, map, take, drop, get_or, is_some, sym, refl, ap, ◌∙◌, subst, arith, inl, inr}
use Rattle.std.specs.Prelude.{Decides}
use Rattle.std.specs.List.{list_any, list_all, position_or_len}
use Rattle.std.specs.Option.{option_map}
use Rattle.std.proofs.lemmas.Bool.{cases_lt, and_parts, lt-ltb, le-ltb, false≢true}
use Rattle.std.proofs.lemmas.List.{at_drop_more, take_rest, length-replicate, nil_from_length}
use Rattle.std.proofs.lemmas.List.Folds.{list_any_none}
use Rattle.std.proofs.lemmas.Grind.{common_steps}
use Rattle.group_terms.specs.Names.{Name, same_name}
use Rattle.group_terms.specs.Changes.{member_of, leavers, joiners}
use Rattle.group_terms.specs.declared.changes.Change.{Change}
use Rattle.group_terms.specs.declared.changes.Change.TheVariants.{Out, In}
use Rattle.group_model.specs.Places.{Holders, no_holders, Fits, is_held_by, is_member, place_in, member_count, names_once}
use Rattle.group_model.specs.Private.Suits.{suits}
use Rattle.group_model.proofs.EpochLemmas.{is_member-no_holders}
use Rattle.group_model.proofs.QueueLemmas.{leavers_few, length-changes}

ltb-suc : (a b : ℕ) → ltb a b ≡ ltb (1 + a) (suc b)
ltb-suc a b = elim (cases_lt a b) [
  | inl low ↦ lt-ltb a b low ∙ sym (lt-ltb (1 + a) (suc b) (omega (arith, low)))
  | inr past ↦ le-ltb a b past ∙ sym (le-ltb (1 + a) (suc b) (omega (arith, past)))
]

found_at : (b any : Bool) (n first : ℕ) → any ≡ ltb first n → (b || any) ≡ ltb (cond (not b) (1 + first) 0) (suc n)
found_at true any n first h = sym (lt-ltb 0 (suc n) (omega arith))
found_at false any n first h = h ∙ ltb-suc first n

-- an element passes where the first that does has a place in the list
found : {X : Type 0} (p : X → Bool) (xs : List X) → list_any p xs ≡ ltb (position_or_len p xs) (length xs)
found p [] = refl
found p (x ∷ xs) = found_at (p x) (list_any p xs) (length xs) (position_or_len p xs) (found p xs)

-- members have a place
pub has_place : (depth : ℕ) (holders : Holders) (m : Name) → is_some (place_in depth holders m) ≡ is_member holders m
has_place depth holders m = at (ltb (position_or_len (is_held_by m) holders) (length holders)) ∙ sym (found (is_held_by m) holders)
  where
    at : (b : Bool) → is_some (option_map (λ i. 2 ^ depth + i) (cond b (Some (position_or_len (is_held_by m) holders)) None)) ≡ b
    at true = refl
    at false = refl

pub list_any-map : {X Y : Type 0} (p : Y → Bool) (h : X → Y) (xs : List X) → list_any p (map h xs) ≡ list_any (λ x. p (h x)) xs
list_any-map p h [] = refl
list_any-map p h (x ∷ xs) = ap (λ b. p (h x) || b) (list_any-map p h xs)

and_assoc : (a b c : Bool) → (a && (b && c)) ≡ ((a && b) && c)
and_assoc true b c = refl
and_assoc false b c = refl

and_neither : (a b c : Bool) → (not a && (b && not c)) ≡ (b && not (a || c))
and_neither true true c = refl
and_neither true false c = refl
and_neither false b c = refl

-- the test of each change is that of all that go out and of all that come in
pub suits-all : (holders : Holders) (batch : List Change) → list_all (suits holders) batch ≡ (list_all (is_member holders) (leavers batch) && not (list_any (is_member holders) (joiners batch)))
suits-all holders [] = refl
suits-all holders (Out m ∷ batch) =
    ap (λ b. is_member holders m && b) (suits-all holders batch)
    ∙ and_assoc (is_member holders m) (list_all (is_member holders) (leavers batch)) (not (list_any (is_member holders) (joiners batch)))
suits-all holders (In m ∷ batch) =
    ap (λ b. not (is_member holders m) && b) (suits-all holders batch)
    ∙ and_neither (is_member holders m) (list_all (is_member holders) (leavers batch)) (list_any (is_member holders) (joiners batch))

pub Fits-suits : (holders : Holders) (batch : List Change) → Fits holders batch → list_all (suits holders) batch ≡ true
Fits-suits holders batch fits = rw (suits-all, fits.from_members, fits.from_strangers) refl

-- the three tests tell whether a batch fits
pub Fits-from_tests : (holders : Holders) (batch : List Change) → list_all (suits holders) batch ≡ true → names_once (map member_of batch) ≡ true → member_count holders + length (joiners batch) ≤ length holders + length (leavers batch) → Fits holders batch
Fits-from_tests holders batch suit once room =
    let parts = and_parts (list_all (is_member holders) (leavers batch)) (not (list_any (is_member holders) (joiners batch))) (sym (suits-all holders batch) ∙ suit) in
    record { from_members = parts.0; from_strangers = strangers (list_any (is_member holders) (joiners batch)) parts.1; once = once; room = room }
  where
    strangers : (b : Bool) → not b ≡ true → b ≡ false
    strangers true h = absurd (false≢true h)
    strangers false h = refl

-- where the tests before it pass, the last one tells
pub Fits-last_test : (holders : Holders) (changes batch : List Change) (suit once room : Bool) → changes ≡ batch → suit ≡ list_all (suits holders) changes → suit ≡ true → once ≡ names_once (map member_of changes) → once ≡ true → Decides room (member_count holders + length (joiners batch) ≤ length holders + length (leavers batch)) → Decides room (Fits holders batch)
Fits-last_test holders changes batch suit once room same suit_is suits_all once_is names_all room_is = (
  λ passes. Fits-from_tests holders batch (ap (list_all (suits holders)) (sym same) ∙ sym suit_is ∙ suits_all)
      (ap (λ list. names_once (map member_of list)) (sym same) ∙ sym once_is ∙ names_all) (room_is.0 passes),
  λ fits. room_is.1 fits.room,
)

-- a test that fails tells that the batch does not fit
pub Fits-failed_test : (holders : Holders) (changes batch : List Change) (test : Bool) → changes ≡ batch → test ≡ false → (Fits holders changes → test ≡ true) → Decides test (Fits holders batch)
Fits-failed_test holders changes batch test same fails needs =
    (λ passes. absurd (false≢true (sym fails ∙ passes)), λ fits. needs (subst (Fits holders) (sym same) fits))

-- one change on
pub named-at : (changes : List Change) (i : ℕ) (change : Change) (m : Name) (named : Bool) → i < length changes → change ≡ get_or changes i change → m ≡ member_of change → named ≡ list_any (λ other. same_name m (member_of other)) (take (length changes - (i + 1)) (drop (i + 1) changes)) → names_once (map member_of (drop i changes)) ≡ (not named && names_once (map member_of (drop (i + 1) changes)))
named-at changes i change m named low at who h =
    let rest = drop (i + 1) changes in
    let first = member_of (get_or changes i change) in
    let step : named ≡ list_any (same_name first) (map member_of rest) = h
    ∙ ap (λ list. list_any (λ other. same_name m (member_of other)) list) (take_rest changes (i + 1))
    ∙ ap (λ name. list_any (λ other. same_name name (member_of other)) rest) (who ∙ ap member_of at)
    ∙ sym (list_any-map (same_name first) member_of rest) in
    at_drop_more (λ list. names_once (map member_of list)) changes i change low
    ∙ ap (λ b. not b && names_once (map member_of rest)) (sym step)

-- a batch can be the first where nobody goes out, no name comes twice, and there is a leaf for each
pub Fits-first : (depth : ℕ) (batch : List Change) → ((length (leavers batch) ≡ 0) × (names_once (map member_of batch) ≡ true) × (length batch ≤ 2 ^ depth) → Fits (no_holders depth) batch) × (Fits (no_holders depth) batch → (length (leavers batch) ≡ 0) × (names_once (map member_of batch) ≡ true) × (length batch ≤ 2 ^ depth))
Fits-first depth batch = (first, λ fits. (omega (arith, leavers_few (no_holders depth) batch fits, nobody_there), fits.once, omega (arith, fits.room, nobody_there, whole, length-changes batch, leavers_few (no_holders depth) batch fits)))
  where
    nobody_there : member_count (no_holders depth) ≡ 0
    nobody_there = grind (arith, common_steps)

    whole : length (no_holders depth) ≡ 2 ^ depth
    whole = length-replicate (2 ^ depth) None

    first : (length (leavers batch) ≡ 0) × (names_once (map member_of batch) ≡ true) × (length batch ≤ 2 ^ depth) → Fits (no_holders depth) batch
    first h = record {
      from_members = ap (list_all (is_member (no_holders depth))) (nil_from_length (leavers batch) h.0);
      from_strangers = list_any_none (is_member (no_holders depth)) (joiners batch) (λ k m low. is_member-no_holders depth (get_or (joiners batch) k m));
      once = h.1;
      room = omega (arith, h.0, h.2, nobody_there, whole, length-changes batch);
    }
