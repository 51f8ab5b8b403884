-- In a valid list no name has two leaves.
use Rattle.std.proofs.Common.{◌≡◌, ℕ, zero, suc, true, false, not, ◌&&◌, List, [], ◌∷◌, Some, None, length, take, get_or, sym, ap, ◌∙◌, subst, inl, inr}
use Rattle.std.specs.Prelude.{is_none}
use Rattle.std.specs.List.{fold, list_any, position_or_len}
use Rattle.std.proofs.lemmas.Bool.{cases_Bool, cases_lt, cases_eq, and_parts, or_left, or_right, not-true, false≢true, false_from_ne_true}
use Rattle.std.proofs.lemmas.List.{get_or_past, get_or-set_other}
use Rattle.group_terms.specs.Changes.{leavers, joiners}
use Rattle.group_terms.specs.Names.{Name, same_name}
use Rattle.group_terms.specs.declared.changes.Change.{Change}
use Rattle.group_model.specs.Places.{Holders, no_holders, is_held_by, is_member, vacated, placed, names_once, holders_after, holders_at, Fits, FitInTurn, IsValid}
use Rattle.group_model.specs.Indexes.{AreOnce}
use Rattle.group_model.proofs.EpochLemmas.{is_member-no_holders}
use Rattle.group_model.proofs.StayedLemmas.{same_name-is, same_name-self, member_at, none_of, vacated_all_at, placed_at}
use Rattle.group_model.proofs.QueueLemmas.{joiners_once}

-- m has no leaf
abbrev pub HasNone : Holders → Name → Type 0
HasNone holders m = (i : ℕ) → is_held_by m (get_or holders i None) ≡ false

pub HasNone-from_stranger : (holders : Holders) (m : Name) → is_member holders m ≡ false → HasNone holders m
HasNone-from_stranger holders m stranger i = elim (cases_lt i (length holders)) [
  | inl low ↦ false_from_ne_true (is_held_by m (get_or holders i None)) (λ here. false≢true (sym stranger ∙ member_at holders m i low here))
  | inr past ↦ ap (is_held_by m) (get_or_past holders i None past)
]

-- who had none has the lowest free leaf alone
placed_only : (holders : Holders) (n : Name) (i : ℕ) → HasNone holders n → is_held_by n (get_or (placed holders n) i None) ≡ true → i ≡ position_or_len is_none holders
placed_only holders n i none at = elim (cases_eq i (position_or_len is_none holders)) [
  | inl here ↦ here
  | inr elsewhere ↦ absurd (false≢true (sym (none i) ∙ sym (ap (is_held_by n) (get_or-set_other holders (position_or_len is_none holders) i (Some n) None elsewhere)) ∙ at))
]

AreOnce-placed : (holders : Holders) (n : Name) → AreOnce holders → HasNone holders n → AreOnce (placed holders n)
AreOnce-placed holders n once none m i j at_i at_j = elim (cases_Bool (same_name m n)) [
  | inr other ↦ once m i j (sym (placed_at holders m n i other) ∙ at_i) (sym (placed_at holders m n j other) ∙ at_j)
  | inl same ↦ (
      let is : m ≡ n = same_name-is m n same in
      let only = λ (k : ℕ) (at : is_held_by m (get_or (placed holders n) k None) ≡ true).
      placed_only holders n k none (subst (λ name. is_held_by name (get_or (placed holders n) k None) ≡ true) is at) in
      only i at_i ∙ sym (only j at_j)
      )
]

-- names that had none, none of them twice, get a leaf each
AreOnce-placed_all : (holders : Holders) (names : List Name) → names_once names ≡ true → ((m : Name) → list_any (same_name m) names ≡ true → HasNone holders m) → AreOnce holders → AreOnce (fold placed holders names)
AreOnce-placed_all holders [] alone none once = once
AreOnce-placed_all holders (n ∷ names) alone none once =
    let parts = and_parts (not (list_any (same_name n) names)) (names_once names) alone in
    AreOnce-placed_all (placed holders n) names parts.1
    (λ m later i.
    let apart : same_name m n ≡ false = false_from_ne_true (same_name m n) (λ same. false≢true (sym (not-true (list_any (same_name n) names) parts.0) ∙ subst (λ name. list_any (same_name name) names ≡ true) (same_name-is m n same) later)) in
    placed_at holders m n i apart ∙ none m (or_right (same_name m n) (list_any (same_name m) names) later) i)
    (AreOnce-placed holders n once (none n (or_left (same_name n n) (list_any (same_name n) names) (same_name-self n))))

AreOnce-vacated_all : (holders : Holders) (names : List Name) → AreOnce holders → AreOnce (fold vacated holders names)
AreOnce-vacated_all holders names once m i j at_i at_j = once m i j (before i at_i) (before j at_j)
  where
    before : (k : ℕ) → is_held_by m (get_or (fold vacated holders names) k None) ≡ true → is_held_by m (get_or holders k None) ≡ true
    before k at = (and_parts (is_held_by m (get_or holders k None)) (not (list_any (same_name m) names)) (sym (vacated_all_at m k holders names) ∙ at)).0

AreOnce-after : (holders : Holders) (batch : List Change) → Fits holders batch → AreOnce holders → AreOnce (holders_after holders batch)
unfolding holders_after
AreOnce-after holders batch fits once =
    AreOnce-placed_all (fold vacated holders (leavers batch)) (joiners batch) (joiners_once batch fits.once)
    (λ m comes i.
    let stranger = HasNone-from_stranger holders m (none_of (is_member holders) m (joiners batch) fits.from_strangers comes) in
    vacated_all_at m i holders (leavers batch) ∙ ap (λ b. b && not (list_any (same_name m) (leavers batch))) (stranger i))
    (AreOnce-vacated_all holders (leavers batch) once)

AreOnce-epoch : (holders : Holders) (epoch : ℕ) (batches : List (List Change)) → FitInTurn holders batches → AreOnce holders → AreOnce (fold holders_after holders (take epoch batches))
AreOnce-epoch holders zero batches fit once = once
AreOnce-epoch holders (suc epoch) [] fit once = once
AreOnce-epoch holders (suc epoch) (batch ∷ batches) fit once = AreOnce-epoch (holders_after holders batch) epoch batches fit.1 (AreOnce-after holders batch fit.0 once)

AreOnce-none : (depth : ℕ) → AreOnce (no_holders depth)
AreOnce-none depth m i j at_i at_j = absurd (false≢true (sym (HasNone-from_stranger (no_holders depth) m (is_member-no_holders depth m) i) ∙ at_i))

pub AreOnce-at : (depth epoch : ℕ) (batches : List (List Change)) → IsValid depth batches → AreOnce (holders_at depth batches epoch)
AreOnce-at depth epoch batches valid = AreOnce-epoch (no_holders depth) epoch batches valid (AreOnce-none depth)

pub once_at : (depth epoch i j : ℕ) (batches : List (List Change)) (m : Name) → IsValid depth batches → is_held_by m (get_or (holders_at depth batches epoch) i None) ≡ true → is_held_by m (get_or (holders_at depth batches epoch) j None) ≡ true → i ≡ j
once_at depth epoch i j batches m valid = AreOnce-at depth epoch batches valid m i j
