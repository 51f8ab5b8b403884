-- The numbers of a pair.
use Rattle.std.proofs.Common.{◌≡◌, ◌∙◌, add-one, ap, arith, cond, inl, inr, refl, subst, sym, ℕ, zero, suc, ◌+◌, ◌-◌, ◌≤◌, true, List, take}
use Rattle.std.specs.List.{take-map}
use Rattle.std.proofs.lemmas.Bool.{cases_eq}
use Rattle.std.proofs.lemmas.List.{length-take-le}
use Rattle.gd_edges.specs.declared.signers.Signer.{Ghosts as SignerGhosts}
use Rattle.group_terms.specs.declared.changes.Change.{Change}
use Rattle.group_values.specs.Values.{Made, batches_made}
use Rattle.group_model.specs.Laws.{HoldersStay}
use Rattle.group_model.specs.Stayed.{sequence_at, somebody_stayed, stayed_at}
use Rattle.group_model.specs.declared.entries.PushPair.{PushPair}
use Rattle.law_member_roots.specs.Groups.{IsPairAt}

module _ (holders_stay : HoldersStay) (depth : ℕ) where
  -- the first epochs have the numbers that they have without the later ones
  pub numbers_stay : (n epoch : ℕ) (batches : List (List Change)) → epoch ≤ n → sequence_at depth (take n batches) epoch ≡ sequence_at depth batches epoch
  unfolding sequence_at
  numbers_stay n zero batches early = refl
  numbers_stay n (suc epoch) batches early =
      let before = holders_stay depth n (suc epoch - 1) batches (omega arith) in
      let after = holders_stay depth n (suc epoch) batches early in
      λ i. numbers_stay n epoch batches (omega arith) i + cond (somebody_stayed (before i) (after i)) 2 0

  pub two_more : (batches : List (List Change)) (epoch : ℕ) → stayed_at depth batches (suc epoch) ≡ true
      → sequence_at depth batches (suc epoch) ≡ sequence_at depth batches epoch + 2
  unfolding sequence_at
  two_more batches epoch stayed = ap (λ stayed. sequence_at depth batches epoch + cond stayed 2 0) stayed

  -- numbers never fall
  pub numbers_rise : (batches : List (List Change)) (from to : ℕ) → from ≤ to → sequence_at depth batches from ≤ sequence_at depth batches to
  unfolding sequence_at
  numbers_rise batches from zero before = let first : from ≡ 0 = omega (arith, before) in omega (arith, ap (sequence_at depth batches) first)
  numbers_rise batches from (suc to) before = elim (cases_eq from (suc to)) [
    | inl same ↦ omega (arith, ap (sequence_at depth batches) same)
    | inr other ↦ omega (arith, numbers_rise batches from to (omega (arith, before, other)))
  ]

  pub two_more_after : (batches : List (List Change)) (epoch : ℕ) → stayed_at depth batches (epoch + 1) ≡ true
      → sequence_at depth batches (epoch + 1) ≡ sequence_at depth batches epoch + 2
  two_more_after batches epoch stayed =
      subst (λ now. sequence_at depth batches now ≡ sequence_at depth batches epoch + 2) (sym (add-one epoch))
      (two_more batches epoch (subst (λ now. stayed_at depth batches now ≡ true) (add-one epoch) stayed))

  module _ {G : Type 0} (g : SignerGhosts G) (signer : G) (spi : List ℕ) (list : List Made) (pair : PushPair) where
    pub last_number : (epoch : ℕ) → IsPairAt g signer depth spi list epoch pair → pair.first + 1 ≡ sequence_at depth (batches_made list) epoch
    last_number epoch at =
        at.is_pair.first
        ∙ ap (sequence_at depth (batches_made (take epoch list))) (length-take-le epoch list at.early)
        ∙ ap (λ batches. sequence_at depth batches epoch) (sym (take-map (λ (made : Made). made.changes) epoch list))
        ∙ numbers_stay epoch epoch (batches_made list) (omega arith)

    pub first_number : (epoch : ℕ) → IsPairAt g signer depth spi list (epoch + 1) pair → pair.first ≡ sequence_at depth (batches_made list) epoch + 1
    first_number epoch at = omega (arith, last_number (epoch + 1) at, two_more_after (batches_made list) epoch at.stayed)
