-- The numbers of the pushes of a group: those of each epoch are its own.
use Rattle.std.proofs.Common.{◌≡◌, arith, inl, inr, subst, ℕ, zero, suc, ◌+◌, ◌-◌, ◌<◌, ◌≤◌, true, List}
use Rattle.std.proofs.lemmas.Bool.{cases_eq, cases_lt}
use Rattle.gd_edges.specs.declared.signers.Signer.{Ghosts as SignerGhosts}
use Rattle.group_terms.specs.declared.changes.Change.{Change}
use Rattle.group_values.specs.Values.{Made, batches_made}
use Rattle.group_model.specs.Laws.{HoldersStay}
use Rattle.group_model.specs.Stayed.{sequence_at, stayed_at}
use Rattle.group_model.specs.declared.entries.PushPair.{PushPair}
use Rattle.law_member_roots.specs.Groups.{IsPairAt}
use Rattle.law_member_roots.proofs.NumberLemmas.{last_number, numbers_rise, two_more, two_more_after}
use Rattle.server_steps.specs.Sent.{SentPush}
use Rattle.law_store_steps.proofs.SentLemmas.{IsPushAt}

module _ (holders_stay : HoldersStay) (depth : ℕ) where
  -- an epoch over which somebody stayed has two more than any before it
  greater : (batches : List (List Change)) (from to : ℕ) → from < to → stayed_at depth batches to ≡ true
      → sequence_at depth batches from + 2 ≤ sequence_at depth batches to
  greater batches from zero before stayed = absurd (omega (arith, before))
  greater batches from (suc to) before stayed =
      omega (arith, numbers_rise holders_stay depth batches from to (omega (arith, before)), two_more holders_stay depth batches to stayed)

  -- so no two of these have the same last number
  same_epoch : (batches : List (List Change)) (one two : ℕ) → stayed_at depth batches one ≡ true → stayed_at depth batches two ≡ true
      → sequence_at depth batches one ≡ sequence_at depth batches two → one ≡ two
  same_epoch batches one two stayed also same = elim (cases_lt one two) [
    | inl less ↦ absurd (omega (arith, greater batches one two less also, same))
    | inr past ↦ elim (cases_eq one two) [
      | inl is ↦ is
      | inr other ↦ absurd (omega (arith, greater batches two one (omega (arith, past, other)) stayed, same))
    ]
  ]

  module _ {G : Type 0} (g : SignerGhosts G) (signer : G) (spi : List ℕ) (list : List Made) where
    -- a push of the first number after an epoch is the membership push of the next one
    pub membership_at : (epoch : ℕ) (push : SentPush) → stayed_at depth (batches_made list) (epoch + 1) ≡ true
        → push.number ≡ sequence_at depth (batches_made list) epoch + 1 → IsPushAt g signer depth spi list push
        → (pair : PushPair) × IsPairAt g signer depth spi list (epoch + 1) pair × (push.datagram ≡ pair.membership)
    membership_at epoch push stayed number at =
        let batches = batches_made list in
        let last = last_number holders_stay depth g signer spi list at.pair (at.sent + 1) at.at in
        let more = two_more_after holders_stay depth batches epoch stayed in
        elim at.is [
          | inl first ↦
              let same =
              same_epoch batches (at.sent + 1) (epoch + 1) at.at.stayed stayed (omega (arith, last, more, number, first.0)) in
              (at.pair, subst (λ epoch. IsPairAt g signer depth spi list epoch at.pair) same at.at, first.1)
          | inr second ↦ elim (cases_lt (at.sent + 1) (epoch + 1)) [
            | inl less ↦
                absurd (omega (arith, numbers_rise holders_stay depth batches (at.sent + 1) epoch (omega (arith, less)), last, number, second.0))
            | inr past ↦ absurd (omega (arith, numbers_rise holders_stay depth batches (epoch + 1) (at.sent + 1) past, more, last, number, second.0))
          ]
        ]

    -- a push of the last number of an epoch is its traffic push
    pub traffic_at : (epoch : ℕ) (push : SentPush) → stayed_at depth (batches_made list) epoch ≡ true
        → push.number ≡ sequence_at depth (batches_made list) epoch → IsPushAt g signer depth spi list push
        → (pair : PushPair) × IsPairAt g signer depth spi list epoch pair × (push.datagram ≡ pair.traffic)
        × (pair.first + 1 ≡ sequence_at depth (batches_made list) epoch)
    traffic_at epoch push stayed number at =
        let batches = batches_made list in
        let last = last_number holders_stay depth g signer spi list at.pair (at.sent + 1) at.at in
        let more = two_more_after holders_stay depth batches at.sent at.at.stayed in
        elim at.is [
          | inl first ↦ elim (cases_lt at.sent epoch) [
            | inl less ↦ absurd (omega (arith, greater batches at.sent epoch less stayed, last, more, number, first.0))
            | inr past ↦ absurd (omega (arith, numbers_rise holders_stay depth batches epoch at.sent past, last, more, number, first.0))
          ]
          | inr second ↦
              let same = same_epoch batches (at.sent + 1) epoch at.at.stayed stayed (omega (arith, last, number, second.0)) in (
                at.pair,
                subst (λ epoch. IsPairAt g signer depth spi list epoch at.pair) same at.at,
                second.1,
                omega (arith, number, second.0),
              )
        ]
