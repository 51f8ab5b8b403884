-- The pending changes always fit, and are never as many as a batch has room for.
use Rattle.std.proofs.Common.{◌≡◌, ℕ, ◌+◌, ◌*◌, ◌^◌, ◌<◌, ◌≤◌, Bool, true, false, cond, not, ◌||◌, List, [], ◌∷◌, ◌++◌, Option, Some, None, length, map, sym, refl, ap, ◌∙◌, subst, arith, inl, inr}
use Rattle.std.specs.Prelude.{is_some, filter}
use Rattle.std.specs.List.{list_any, list_all}
use Rattle.std.proofs.lemmas.Bool.{cases_Bool, not-true, and_parts, and_from, or_parts, or_cases, or_left, or_right, false≢true, false_from_ne_true}
use Rattle.std.proofs.lemmas.List.{append-nil, length-append, map-append}
use Rattle.std.proofs.lemmas.List.Elements.{filter_map-append}
use Rattle.std.proofs.lemmas.List.Folds.{list_any-append}
use Rattle.std.proofs.lemmas.List.Sums.{length-filter, count_by-le-length}
use Rattle.std.proofs.lemmas.Slice.Eq.{bytes_eq-Decides}
use Rattle.group_terms.specs.Names.{Name, same_name}
use Rattle.group_terms.specs.Changes.{member_of, is_pending, leaver, leavers, joiner, joiners}
use Rattle.group_terms.specs.declared.changes.Change.{Change}
use Rattle.group_terms.specs.declared.changes.Change.TheVariants.{Out, In}
use Rattle.group_model.specs.Places.{Holders, is_held_by, is_member, member_count, vacated, names_once, Fits}
use Rattle.group_model.specs.Refusals.{leaves_taken}
use Rattle.group_model.proofs.StayedLemmas.{same_name-is}

same_name-sym : (m n : Name) → same_name m n ≡ false → same_name n m ≡ false
same_name-sym m n h = false_from_ne_true (same_name n m) (λ same. false≢true (sym h ∙ (bytes_eq-Decides m n).1 (sym (same_name-is n m same))))

-- of two names, the one that is not m keeps its leaf when m loses its own
other_kept : (m n : Name) (holder : Option Name) → same_name m n ≡ false → is_held_by n holder ≡ true → is_held_by n (cond (is_held_by m holder) None holder) ≡ true
other_kept m n None apart h = absurd (false≢true h)
other_kept m n (Some name) apart h =
    let not_m : same_name m name ≡ false = rw (← same_name-is n name h) apart in
    rw not_m h

is_member-vacated : (m n : Name) (holders : Holders) → same_name m n ≡ false → is_member holders n ≡ true → is_member (vacated holders m) n ≡ true
is_member-vacated m n [] apart h = absurd (false≢true h)
is_member-vacated m n (holder ∷ holders) apart h = elim (or_cases (is_held_by n holder) (is_member holders n) h) [
  | inl here ↦ or_left _ _ (other_kept m n holder apart here)
  | inr there ↦ or_right _ _ (is_member-vacated m n holders apart there)
]

-- how many members there are, as a length
unfoldable pub members : Holders → ℕ
members holders = length (filter is_some holders)

members-vacated_le : (m : Name) (holders : Holders) → members (vacated holders m) ≤ members holders
unfolding members
members-vacated_le m [] = omega arith
members-vacated_le m (None ∷ holders) = members-vacated_le m holders
members-vacated_le m (Some name ∷ holders) = elim (cases_Bool (same_name m name)) [
  | inl gone ↦ rw gone (omega (arith, members-vacated_le m holders))
  | inr kept ↦ rw kept (omega (arith, members-vacated_le m holders))
]

-- a member that loses its leaf is one member less
pub members-vacated : (m : Name) (holders : Holders) → is_member holders m ≡ true → members (vacated holders m) < members holders
unfolding members
members-vacated m [] h = absurd (false≢true h)
members-vacated m (None ∷ holders) h = members-vacated m holders h
members-vacated m (Some name ∷ holders) h = elim (cases_Bool (same_name m name)) [
  | inl gone ↦ rw gone (omega (arith, members-vacated_le m holders))
  | inr kept ↦
      let there : is_member holders m ≡ true = subst (λ b. (b || is_member holders m) ≡ true) kept h in
      rw kept (omega (arith, members-vacated m holders there))
]

pub all_vacated : (m : Name) (holders : Holders) (names : List Name) → list_any (same_name m) names ≡ false → list_all (is_member holders) names ≡ true → list_all (is_member (vacated holders m)) names ≡ true
all_vacated m holders [] apart h = refl
all_vacated m holders (n ∷ names) apart h =
    let others = or_parts (same_name m n) (list_any (same_name m) names) apart in
    let each = and_parts (is_member holders n) (list_all (is_member holders) names) h in
    and_from _ _ (is_member-vacated m n holders others.0 each.0) (all_vacated m holders names others.1 each.1)

-- names that are all of members, none twice, are no more than there are members
few_names : (holders : Holders) (names : List Name) → names_once names ≡ true → list_all (is_member holders) names ≡ true → length names ≤ members holders
few_names holders [] once h = omega arith
few_names holders (m ∷ names) once h =
    let first = and_parts (not (list_any (same_name m) names)) (names_once names) once in
    let each = and_parts (is_member holders m) (list_all (is_member holders) names) h in
    omega (arith, members-vacated m holders each.0, few_names (vacated holders m) names first.1 (all_vacated m holders names (not-true (list_any (same_name m) names) first.0) each.1))

pub members-count : (holders : Holders) → members holders ≡ member_count holders
unfolding members
members-count holders = length-filter is_some holders

-- the names of those who leave are among the names of the batch
leaver_named : (m : Name) (batch : List Change) → list_any (same_name m) (map member_of batch) ≡ false → list_any (same_name m) (leavers batch) ≡ false
leaver_named m [] h = refl
leaver_named m (Out n ∷ batch) h =
    let parts = or_parts (same_name m n) (list_any (same_name m) (map member_of batch)) h in
    rw (parts.0, leaver_named m batch parts.1) refl
leaver_named m (In n ∷ batch) h = leaver_named m batch (or_parts (same_name m n) (list_any (same_name m) (map member_of batch)) h).1

pub leavers_once : (batch : List Change) → names_once (map member_of batch) ≡ true → names_once (leavers batch) ≡ true
leavers_once [] h = refl
leavers_once (Out n ∷ batch) h =
    let parts = and_parts (not (list_any (same_name n) (map member_of batch))) (names_once (map member_of batch)) h in
    rw (leaver_named n batch (not-true (list_any (same_name n) (map member_of batch)) parts.0), leavers_once batch parts.1) refl
leavers_once (In n ∷ batch) h = leavers_once batch (and_parts (not (list_any (same_name n) (map member_of batch))) (names_once (map member_of batch)) h).1

-- so are those of who comes in
joiner_named : (m : Name) (batch : List Change) → list_any (same_name m) (map member_of batch) ≡ false → list_any (same_name m) (joiners batch) ≡ false
joiner_named m [] h = refl
joiner_named m (Out n ∷ batch) h = joiner_named m batch (or_parts (same_name m n) (list_any (same_name m) (map member_of batch)) h).1
joiner_named m (In n ∷ batch) h =
    let parts = or_parts (same_name m n) (list_any (same_name m) (map member_of batch)) h in
    rw (parts.0, joiner_named m batch parts.1) refl

pub joiners_once : (batch : List Change) → names_once (map member_of batch) ≡ true → names_once (joiners batch) ≡ true
joiners_once [] h = refl
joiners_once (Out n ∷ batch) h = joiners_once batch (and_parts (not (list_any (same_name n) (map member_of batch))) (names_once (map member_of batch)) h).1
joiners_once (In n ∷ batch) h =
    let parts = and_parts (not (list_any (same_name n) (map member_of batch))) (names_once (map member_of batch)) h in
    rw (joiner_named n batch (not-true (list_any (same_name n) (map member_of batch)) parts.0), joiners_once batch parts.1) refl

-- each change is an Out or an In
pub length-changes : (batch : List Change) → length batch ≡ length (leavers batch) + length (joiners batch)
length-changes [] = refl
length-changes (Out n ∷ batch) = omega (arith, length-changes batch)
length-changes (In n ∷ batch) = omega (arith, length-changes batch)

-- no more leave than there are members
pub leavers_few : (holders : Holders) (batch : List Change) → Fits holders batch → length (leavers batch) ≤ member_count holders
leavers_few holders batch fits = omega (arith, few_names holders (leavers batch) (leavers_once batch fits.once) fits.from_members, members-count holders)

pub member_count-le : (holders : Holders) → member_count holders ≤ length holders
member_count-le holders = count_by-le-length is_some holders

pending_named : (m : Name) (queue : List Change) → is_pending queue m ≡ list_any (same_name m) (map member_of queue)
pending_named m [] = refl
pending_named m (change ∷ queue) = ap (λ b. same_name m (member_of change) || b) (pending_named m queue)

once_more : (m : Name) (names : List Name) → names_once names ≡ true → list_any (same_name m) names ≡ false → names_once (names ++ m ∷ []) ≡ true
once_more m [] once apart = refl
once_more m (n ∷ names) once apart =
    let first = and_parts (not (list_any (same_name n) names)) (names_once names) once in
    let others = or_parts (same_name m n) (list_any (same_name m) names) apart in
    and_from _ _
    (rw (list_any-append (same_name n) names (m ∷ []), not-true (list_any (same_name n) names) first.0, same_name-sym m n others.0) refl)
    (once_more m names first.1 others.1)

queue_once : (holders : Holders) (queue : List Change) (m : Name) (change : Change) → member_of change ≡ m → Fits holders queue → is_pending queue m ≡ false → names_once (map member_of (queue ++ change ∷ [])) ≡ true
queue_once holders queue m change of_m fits free =
    rw (map-append member_of queue (change ∷ []), of_m) (once_more m (map member_of queue) fits.once (sym (pending_named m queue) ∙ free))

all_more : (p : Name → Bool) (names : List Name) (m : Name) → list_all p names ≡ true → p m ≡ true → list_all p (names ++ m ∷ []) ≡ true
all_more p [] m h last = rw last refl
all_more p (n ∷ names) m h last =
    let parts = and_parts (p n) (list_all p names) h in
    and_from _ _ parts.0 (all_more p names m parts.1 last)

module _ (holders : Holders) (queue : List Change) (m : Name) (fits : Fits holders queue) (free : is_pending queue m ≡ false) where
  -- a join of somebody who is no member, where a leaf is left
  Fits-join : is_member holders m ≡ false → member_count holders + length (joiners queue) < length holders + length (leavers queue) → Fits holders (queue ++ In m ∷ [])
  Fits-join stranger room =
      let out : leavers (queue ++ In m ∷ []) ≡ leavers queue = filter_map-append leaver queue (In m ∷ []) ∙ append-nil (leavers queue) in
      let into : joiners (queue ++ In m ∷ []) ≡ joiners queue ++ m ∷ [] = filter_map-append joiner queue (In m ∷ []) in
      record {
        from_members = ap (list_all (is_member holders)) out ∙ fits.from_members;
        from_strangers = ap (list_any (is_member holders)) into ∙ list_any-append (is_member holders) (joiners queue) (m ∷ []) ∙ rw (fits.from_strangers, stranger) refl;
        once = queue_once holders queue m (In m) refl fits free;
        room = rw (out, into) (omega (arith, room, length-append (joiners queue) (m ∷ [])));
      }

  -- a member's leave
  pub Fits-leave : is_member holders m ≡ true → Fits holders (queue ++ Out m ∷ [])
  Fits-leave member =
      let out : leavers (queue ++ Out m ∷ []) ≡ leavers queue ++ m ∷ [] = filter_map-append leaver queue (Out m ∷ []) in
      let into : joiners (queue ++ Out m ∷ []) ≡ joiners queue = filter_map-append joiner queue (Out m ∷ []) ∙ append-nil (joiners queue) in
      record {
        from_members = ap (list_all (is_member holders)) out ∙ all_more (is_member holders) (leavers queue) m fits.from_members member;
        from_strangers = ap (list_any (is_member holders)) into ∙ fits.from_strangers;
        once = queue_once holders queue m (Out m) refl fits free;
        room = rw (out, into) (omega (arith, fits.room, length-append (leavers queue) (m ∷ [])));
      }

-- a join of somebody who is no member, in a tree that is not full
module _ (depth : ℕ) (holders : Holders) (queue : List Change) (fits : Fits holders queue) (m : Name) where
  leaf_left : length holders ≡ 2 ^ depth → (leaves_taken depth holders queue ≡ 2 ^ depth → ⊥)
      → member_count holders + length (joiners queue) < length holders + length (leavers queue)
  leaf_left each left = omega (arith, fits.room, leavers_few holders queue fits, left, each)

  pub Fits-granted_join : length holders ≡ 2 ^ depth → is_member holders m ≡ false → is_pending queue m ≡ false
      → (leaves_taken depth holders queue ≡ 2 ^ depth → ⊥) → Fits holders (queue ++ In m ∷ [])
  Fits-granted_join each stranger free left = Fits-join holders queue m fits free stranger (leaf_left each left)

-- a batch that fits has two changes for each leaf at the most
pub changes_few : (holders : Holders) (batch : List Change) → Fits holders batch → length batch ≤ 2 * length holders
changes_few holders batch fits = omega (arith, fits.room, length-changes batch, leavers_few holders batch fits, member_count-le holders)

-- no change fits always
pub Fits-none : (holders : Holders) → Fits holders []
Fits-none holders = record { from_members = refl; from_strangers = refl; once = refl; room = omega (arith, member_count-le holders) }
