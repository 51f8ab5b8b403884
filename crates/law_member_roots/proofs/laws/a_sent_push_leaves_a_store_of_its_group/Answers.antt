use Rattle.std.proofs.Common.{arith, inl, inr, subst, sym, ◌+◌}
use Rattle.std.proofs.lemmas.Bool.{cases_Bool, cases_eq, cases_lt}
use Rattle.group_values.specs.Values.{batches_made}
use Rattle.group_model.specs.Places.{holders_at, is_member}
use Rattle.member_store.specs.Stores.{root_epoch}
use Rattle.law_member_roots.specs.Groups.{IsPairAt}
use Rattle.law_member_roots.specs.Roots.{IsStoreOf}
use Rattle.law_member_roots.proofs.SentLemmas.{number_less, with_traffic}
use Rattle.law_member_roots.proofs.laws.a_sent_push_leaves_a_store_of_its_group.Goals as goal

pub returns-clause-membership : goal.returns-clause-membership
returns-clause-membership g c signer verifier depth sent spi list m pair store next result group checks from for_one is step =
    elim (cases_eq sent (root_epoch store)) [
      | inl same ↦ (
          let at = subst (λ sent. IsPairAt g.G.Signer signer depth spi list (sent + 1) pair) same from in
          elim (cases_Bool (is_member (holders_at depth (batches_made list) (root_epoch store + 1)) m)) [
            | inl stayed ↦ (c.a_due_push_is_taken.ensures.goes_on signer verifier depth spi list m pair store next result group checks at is stayed step).1
            | inr left ↦ (
                let ways = c.each_law_holds.ensures in
                let less = number_less ways depth spi list m c.first_epochs_stay.ensures.holders g.G.Signer signer pair store next is at in
                let refused = c.a_member_that_left_finds_no_path.ensures signer verifier depth (root_epoch store) spi list m pair store next result group checks at
                is.root left (omega (arith, less)) step in
                subst (IsStoreOf depth spi list m) (sym refused.stays) is
                )
          ]
          )
      | inr other ↦ (
          let refused = c.a_push_under_another_root_is_malformed.ensures.membership signer verifier depth (root_epoch store) sent spi list m pair store next result
          group from for_one is.root other step in
          subst (IsStoreOf depth spi list m) (sym refused.1.stays) is
          )
    ]

pub returns-clause-traffic : goal.returns-clause-traffic
returns-clause-traffic g c signer verifier depth sent spi list m pair store next result group checks from for_one is step =
    elim (cases_eq sent (root_epoch store)) [
      | inl same ↦ (
          let at = subst (λ sent. IsPairAt g.G.Signer signer depth spi list sent pair) same from in
          elim (cases_lt store.sequence (pair.first + 1)) [
            | inl greater ↦ (
                let ways = c.each_law_holds.ensures in
                let taken = c.a_due_push_is_taken.ensures.traffic signer verifier depth (root_epoch store) spi list m pair store next result group checks at
                is.root greater step in
                with_traffic ways depth spi list m c.first_epochs_stay.ensures.holders g.G.Signer signer pair store next is at taken.1 taken.2 taken.3
                )
            | inr low ↦ (
                let refused = c.a_repeated_push_is_stale.ensures.traffic signer verifier depth (root_epoch store) spi list m pair store next result group checks at
                is.root low step in
                subst (IsStoreOf depth spi list m) (sym refused.stays) is
                )
          ]
          )
      | inr other ↦ (
          let refused = c.a_push_under_another_root_is_malformed.ensures.traffic signer verifier depth (root_epoch store) sent spi list m pair store next result
          group from for_one is.root other step in
          subst (IsStoreOf depth spi list m) (sym refused.1.stays) is
          )
    ]
