-- What was taken so far, while the keys of a push are taken one after the other.
use Rattle.std.proofs.Common.{◌≡◌, ◌∙◌, ap, arith, refl, subst, sym, ℕ, ◌+◌, ◌≤◌, true, false, List, [], ◌∷◌, ◌++◌, length, None}
use Rattle.std.specs.List.{find}
use Rattle.std.proofs.lemmas.Bool.{and_parts, not-true}
use Rattle.std.proofs.lemmas.List.{append-nil, append_assoc, length-append}
use Rattle.group_terms.specs.declared.paths.PathKey.{PathKey}
use Rattle.kd_wire.specs.declared.updates.SealedKey.{SealedKey}
use Rattle.member_store.specs.Stores.{has_position}
use Rattle.member_store.specs.Takings.{Takes, TakesAfter, TakesNext, can_take}
use Rattle.member_store.proofs.FindLemmas.{found_passes}
use Rattle.member_store.proofs.LeftLemmas.{all_left, fewer_left, none_can, positions_left}

-- after this number of rounds these keys are taken, and what is taken after them is taken with them
pub record IsSoFar (path : List PathKey) (given : List SealedKey) (taken : List PathKey) (rounds : ℕ) : Type 0 where
  pub goes_on : (keys : List PathKey) → TakesAfter path given taken keys → Takes path given (taken ++ keys)
  pub left : positions_left taken path + rounds ≤ length path
  pub size : length taken ≡ rounds

module _ (path : List PathKey) (given : List SealedKey) where
  pub so_far_none : IsSoFar path given [] 0
  so_far_none = record { goes_on = λ keys after. after; left = omega (arith, all_left path); size = refl }

  pub so_far_more : (taken : List PathKey) (rounds : ℕ) (key : PathKey) → IsSoFar path given taken rounds → TakesNext path taken given key
      → IsSoFar path given (taken ++ key ∷ []) (rounds + 1)
  so_far_more taken rounds key far next =
      let can = and_parts _ _ (found_passes (can_take path taken) given next.first next.is_first) in
      let there : has_position path key.id ≡ true = ap (has_position path) next.unsealed.id ∙ can.0 in
      let new : has_position taken key.id ≡ false = ap (has_position taken) next.unsealed.id ∙ not-true _ (and_parts _ _ can.1).0 in
      record {
        goes_on = λ keys after. subst (Takes path given) (sym (append_assoc taken (key ∷ []) keys)) (far.goes_on (key ∷ keys) (next, after));
        left = omega (arith, far.left, fewer_left taken key path there new);
        size = length-append taken (key ∷ []) ∙ ap (λ n. n + 1) far.size;
      }

  pub so_far_all : (taken : List PathKey) (rounds : ℕ) → IsSoFar path given taken rounds → find (can_take path taken) given ≡ None
      → Takes path given taken
  so_far_all taken rounds far none = subst (Takes path given) (append-nil taken) (far.goes_on [] none)

  pub so_far_whole : (taken : List PathKey) (rounds : ℕ) → IsSoFar path given taken rounds → length path ≤ rounds → Takes path given taken
  so_far_whole taken rounds far done = so_far_all taken rounds far (none_can path taken given (omega (arith, far.left, done)))
