-- A store of a group after a push of it.
use Rattle.std.proofs.Common.{◌≡◌, ◌∙◌, ap, arith, subst, sym, ℕ, ◌+◌, ◌≤◌, List, Some}
use Rattle.gd_edges.specs.declared.signers.Signer.{Ghosts as SignerGhosts}
use Rattle.group_terms.specs.Names.{Name}
use Rattle.group_values.specs.Values.{Made, batches_made, traffic_value}
use Rattle.group_model.specs.Laws.{HoldersStay}
use Rattle.group_model.specs.Stayed.{sequence_at}
use Rattle.group_model.specs.declared.entries.PushPair.{PushPair}
use Rattle.law_key_ways.specs.Laws.{Laws}
use Rattle.member_store.specs.Stores.{Store, root_epoch}
use Rattle.law_member_roots.specs.Groups.{IsPairAt}
use Rattle.law_member_roots.specs.Roots.{HasKeysOf, HasTrafficOf, IsAtRoot, IsStoreOf}
use Rattle.law_member_roots.proofs.AtRootLemmas.{epoch_is}
use Rattle.law_member_roots.proofs.NumberLemmas.{first_number, last_number}

module _ (ways : Laws) (depth : ℕ) (spi : List ℕ) (list : List Made) (m : Name) where
  -- a store at the root of an epoch, whose last number and traffic key are of no later one
  pub store_at : (epoch : ℕ) (store : Store) → IsAtRoot depth spi list epoch m store → store.sequence ≤ sequence_at depth (batches_made list) epoch
      → store.traffic_epoch ≤ epoch → traffic_value list store.traffic_epoch ≡ Some store.traffic → IsStoreOf depth spi list m store
  store_at epoch store root sequence not_later traffic =
      let now : epoch ≡ root_epoch store = sym (epoch_is ways depth epoch spi list m store root) in
      record {
        root = subst (λ epoch. IsAtRoot depth spi list epoch m store) now root;
        sequence = subst (λ epoch. store.sequence ≤ sequence_at depth (batches_made list) epoch) now sequence;
        not_later = subst (λ epoch. store.traffic_epoch ≤ epoch) now not_later;
        traffic = traffic;
      }

  traffic_of : (epoch : ℕ) (store : Store) → HasTrafficOf list epoch store → traffic_value list store.traffic_epoch ≡ Some store.traffic
  traffic_of epoch store has = ap (traffic_value list) has.traffic_epoch ∙ has.traffic

  pub with_keys_of : (epoch : ℕ) (store : Store) → HasKeysOf depth spi list epoch m store → IsStoreOf depth spi list m store
  with_keys_of epoch store has =
      store_at epoch store has.root has.sequence (omega (arith, has.traffic.traffic_epoch)) (traffic_of epoch store has.traffic)

  module _ (holders_stay : HoldersStay) {G : Type 0} (g : SignerGhosts G) (signer : G) (pair : PushPair) (store next : Store)
      (is : IsStoreOf depth spi list m store) where
    -- its number is less than those of the pair of the next epoch
    pub number_less : IsPairAt g signer depth spi list (root_epoch store + 1) pair → store.sequence + 1 ≤ pair.first
    number_less at = omega (arith, is.sequence, first_number holders_stay depth g signer spi list pair (root_epoch store) at)

    -- after the membership push of the next epoch
    pub up : IsPairAt g signer depth spi list (root_epoch store + 1) pair → IsAtRoot depth spi list (root_epoch store + 1) m next
        → next.sequence ≡ pair.first → next.traffic ≡ store.traffic → next.traffic_epoch ≡ store.traffic_epoch → IsStoreOf depth spi list m next
    up at root sequence traffic traffic_epoch =
        store_at (root_epoch store + 1) next root
        (omega (arith, sequence, last_number holders_stay depth g signer spi list pair (root_epoch store + 1) at))
        (omega (arith, traffic_epoch, is.not_later))
        ((λ i. traffic_value list (traffic_epoch i)) ∙ is.traffic ∙ ap (λ value. Some value) (sym traffic))

    -- after the traffic push of its own
    pub with_traffic : IsPairAt g signer depth spi list (root_epoch store) pair → IsAtRoot depth spi list (root_epoch store) m next
        → next.sequence ≡ pair.first + 1 → HasTrafficOf list (root_epoch store) next → IsStoreOf depth spi list m next
    with_traffic at root sequence has =
        store_at (root_epoch store) next root
        (omega (arith, sequence, last_number holders_stay depth g signer spi list pair (root_epoch store) at))
        (omega (arith, has.traffic_epoch)) (traffic_of (root_epoch store) next has)
