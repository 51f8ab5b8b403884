-- After a history a member takes the push that is due to its store, and refuses any other one, for the reason that there is.
use Rattle.std.proofs.Common.{◌≡◌, ◌∙◌, ◌⊎◌, ap, arith, inl, inr, refl, subst, sym, ℕ, ◌+◌, ◌<◌, ◌≤◌, true, false, List}
use Rattle.std.specs.Prelude.{◌≢◌, Result, Ok}
use Rattle.std.proofs.lemmas.Bool.{cases_eq}
use Rattle.gd_edges.specs.declared.signers.Signer.{Ghosts as SignerGhosts}
use Rattle.gd_edges.specs.declared.verifiers.Verifier.{Ghosts as VerifierGhosts}
use Rattle.group_terms.specs.Names.{Name}
use Rattle.group_terms.specs.declared.pushes.PushRefusal.{PushRefusal}
use Rattle.group_terms.specs.declared.pushes.PushRefusal.TheVariants.{Malformed, NoPath, Stale}
use Rattle.group_values.specs.Values.{Made, batches_made}
use Rattle.group_model.specs.Laws.{HoldersStay}
use Rattle.group_model.specs.Places.{holders_at, is_member}
use Rattle.group_model.specs.Stayed.{stayed_at}
use Rattle.group_model.specs.declared.entries.Answer.{Answer}
use Rattle.group_model.specs.declared.entries.Answer.TheVariants.{PushRefused, TookRoot, TookTraffic}
use Rattle.group_model.specs.declared.entries.PushPair.{PushPair}
use Rattle.member_store.specs.declared.answers.Taken.{Taken}
use Rattle.member_store.specs.declared.answers.Taken.TheVariants as takes
use Rattle.member_store.specs.Steps.{IsAcceptance, IsRefused}
use Rattle.member_store.specs.Stores.{Store, leaf_of, root_epoch}
use Rattle.law_member_roots.specs.Groups.{IsPairAt}
use Rattle.law_member_roots.specs.Roots.{HasTrafficOf, IsAtRoot, IsStoreOf}
use Rattle.law_member_roots.proofs.NumberLemmas.{first_number, last_number}
use Rattle.member_steps.specs.Steps.{answer_of}
use Rattle.group_steps.specs.Runs.{Run}
use Rattle.group_steps.specs.TrueSteps.{batches_in}
use Rattle.law_store_steps.specs.Follow.{HasKeysThen, HasThen, IsMembershipPush, IsOurs, IsTrafficPush, IsWhy, holders_in, number_at}
use Rattle.law_store_steps.proofs.GivenLemmas.{Known, has_then}
use Rattle.law_store_steps.proofs.NumberLemmas.{membership_at, traffic_at}
use Rattle.law_store_steps.proofs.StayLemmas.{placed_member, stays_over}

-- it is no text of a push
abbrev pub IsNoText : Store → Result Taken PushRefusal → Store → Type 0
IsNoText store result next = (at : ℕ) × IsRefused store (Malformed at) result next

module _ {G V : Type 0} (g : SignerGhosts G) (signer : G) (v : VerifierGhosts V) (verifier : V) (depth : ℕ) (spi : List ℕ) (list : List Made)
    (m : Name) (store : Store) where
  -- a store takes the membership push of the next epoch, and the traffic push of its own
  abbrev pub TakesRoot : Type 0
  TakesRoot =
      (pair : PushPair) (next : Store) (result : Result Taken PushRefusal)
      → IsPairAt g signer depth spi list (root_epoch store + 1) pair
      → is_member (holders_at depth (batches_made list) (root_epoch store + 1)) m ≡ true → store.sequence < pair.first
      → IsAcceptance v verifier store pair.membership result next
      → (result ≡ Ok (takes.Root (root_epoch store + 1))) × IsStoreOf depth spi list m next × (root_epoch next ≡ root_epoch store + 1)

  abbrev pub TakesTraffic : Type 0
  TakesTraffic =
      (pair : PushPair) (next : Store) (result : Result Taken PushRefusal) → IsPairAt g signer depth spi list (root_epoch store) pair
      → store.sequence < pair.first + 1 → IsAcceptance v verifier store pair.traffic result next
      → (result ≡ Ok (takes.Traffic (root_epoch store))) × IsAtRoot depth spi list (root_epoch store) m next
      × (next.sequence ≡ pair.first + 1) × HasTrafficOf list (root_epoch store) next

  -- it refuses the others
  pub record Refusals : Type 0 where
    pub left : (pair : PushPair) (next : Store) (result : Result Taken PushRefusal)
        → IsPairAt g signer depth spi list (root_epoch store + 1) pair
        → is_member (holders_at depth (batches_made list) (root_epoch store + 1)) m ≡ false → store.sequence < pair.first
        → IsAcceptance v verifier store pair.membership result next → IsRefused store (NoPath (leaf_of store.path)) result next
    pub again : (pair : PushPair) (next : Store) (result : Result Taken PushRefusal)
        → IsPairAt g signer depth spi list (root_epoch store) pair → pair.first + 1 ≤ store.sequence
        → IsAcceptance v verifier store pair.traffic result next → IsRefused store (Stale store.sequence (pair.first + 1)) result next
    pub other_membership : (sent : ℕ) (pair : PushPair) (next : Store) (result : Result Taken PushRefusal)
        → IsPairAt g signer depth spi list (sent + 1) pair → sent ≢ root_epoch store
        → IsAcceptance v verifier store pair.membership result next → IsNoText store result next
    pub other_traffic : (sent : ℕ) (pair : PushPair) (next : Store) (result : Result Taken PushRefusal)
        → IsPairAt g signer depth spi list (sent + 1) pair → sent + 1 ≢ root_epoch store
        → IsAcceptance v verifier store pair.traffic result next → IsNoText store result next

module _ {D G V : Type 0} (holders_stay : HoldersStay) (g : SignerGhosts G) (signer : G) (v : VerifierGhosts V) (verifier : V) (run : Run D)
    (m : Name) (store : Store) (number : ℕ) (answer : Answer) (next : Run D)
    (known : Known g signer v verifier run m store number answer next) where
  abbrev depth : ℕ
  depth = run.host.server.depth

  abbrev spi : List ℕ
  spi = run.host.head.spi

  abbrev list : List Made
  list = run.host.server.list

  -- what was given is this datagram
  is_given : (datagram : List ℕ) → known.push.datagram ≡ datagram
      → IsAcceptance v verifier store datagram known.given.result known.given.now
  is_given datagram is =
      subst (λ datagram. IsAcceptance v verifier store datagram known.given.result known.given.now) is known.given.accepts

  has : (P : Store → Type 0) → P known.given.now → HasThen next m P
  has P holds = has_then g signer v verifier run m store number answer next known P holds

  less_first : (pair : PushPair) → IsPairAt g signer depth spi list (root_epoch store + 1) pair → store.sequence < pair.first
  less_first pair at =
      omega (arith, known.is.sequence, first_number holders_stay depth g signer spi list pair (root_epoch store) at)

  -- ---- the push that is due

  pub takes_root : TakesRoot g signer v verifier depth spi list m store → number ≡ number_at run (root_epoch store) + 1
      → is_member (holders_in run (root_epoch store + 1)) m ≡ true
      → (answer ≡ TookRoot (root_epoch store + 1))
      × HasThen next m (λ (now : Store). IsOurs run m now × (root_epoch now ≡ root_epoch store + 1))
  takes_root takes_it is stays =
      let epoch = root_epoch store in
      let was = placed_member depth (holders_at depth (batches_made list) epoch) m (leaf_of store.path) known.is.root.leaf in
      let stayed = stays_over depth (batches_made list) epoch m was stays in
      let due = membership_at holders_stay depth g signer spi list epoch known.push stayed (known.numbered ∙ is) known.at in
      let taken =
      takes_it due.0 known.given.now known.given.result due.1 stays (less_first due.0 due.1) (is_given due.0.membership due.2) in (
        known.given.answers ∙ ap answer_of taken.0,
        has (λ (now : Store). IsOurs run m now × (root_epoch now ≡ epoch + 1)) (taken.1, taken.2),
      )

  pub takes_traffic : TakesTraffic g signer v verifier depth spi list m store → number ≡ number_at run (root_epoch store)
      → stayed_at depth (batches_in run) (root_epoch store) ≡ true → store.sequence < number_at run (root_epoch store)
      → (answer ≡ TookTraffic (root_epoch store)) × HasThen next m (HasKeysThen run (root_epoch store) m)
  takes_traffic takes_it is stayed less =
      let epoch = root_epoch store in
      let due = traffic_at holders_stay depth g signer spi list epoch known.push stayed (known.numbered ∙ is) known.at in
      let taken =
      takes_it due.0 known.given.now known.given.result due.1 (subst (λ last. store.sequence < last) (sym due.3) less)
      (is_given due.0.traffic due.2) in (
        known.given.answers ∙ ap answer_of taken.0,
        has (HasKeysThen run epoch m) (record { root = taken.1; traffic = taken.3; sequence = omega (arith, taken.2, due.3) }),
      )

  -- ---- any other one

  module _ (refusals : Refusals g signer v verifier depth spi list m store)
      (gone : number ≡ number_at run (root_epoch store) + 1 → is_member (holders_in run (root_epoch store + 1)) m ≡ false)
      (accepted : IsTrafficPush run number (root_epoch store) → number ≤ store.sequence) where
    abbrev IsRefusedHere : Type 0
    IsRefusedHere = (why : PushRefusal) × IsWhy run store number why × IsRefused store why known.given.result known.given.now

    -- it is the push of another root
    refused_other : (root : ℕ) → root ≢ root_epoch store → IsMembershipPush run number root ⊎ IsTrafficPush run number root
        → IsNoText store known.given.result known.given.now → IsRefusedHere
    refused_other root other is none = (Malformed none.0, inr (inr (root, other, is, none.0, refl)), none.1)

    refused_membership : known.push.number ≡ known.at.pair.first → known.push.datagram ≡ known.at.pair.membership → IsRefusedHere
    refused_membership first is =
        let number_of = first_number holders_stay depth g signer spi list known.at.pair in
        let given = is_given known.at.pair.membership is in
        elim (cases_eq known.at.sent (root_epoch store)) [
          | inl same ↦
              let at = subst (λ sent. IsPairAt g signer depth spi list (sent + 1) known.at.pair) same known.at.at in
              let due : number ≡ number_at run (root_epoch store) + 1 = sym known.numbered ∙ first ∙ number_of (root_epoch store) at in (
                NoPath (leaf_of store.path),
                inl ((due, at.stayed), refl),
                refusals.left known.at.pair known.given.now known.given.result at (gone due) (less_first known.at.pair at) given,
              )
          | inr other ↦
              refused_other known.at.sent other
              (inl (sym known.numbered ∙ first ∙ number_of known.at.sent known.at.at, known.at.at.stayed))
              (refusals.other_membership known.at.sent known.at.pair known.given.now known.given.result known.at.at other given)
        ]

    refused_traffic : known.push.number ≡ known.at.pair.first + 1 → known.push.datagram ≡ known.at.pair.traffic → IsRefusedHere
    refused_traffic second is =
        let number_of = last_number holders_stay depth g signer spi list known.at.pair in
        let given = is_given known.at.pair.traffic is in
        elim (cases_eq (known.at.sent + 1) (root_epoch store)) [
          | inl same ↦
              let at = subst (λ epoch. IsPairAt g signer depth spi list epoch known.at.pair) same known.at.at in
              let due : number ≡ number_at run (root_epoch store) = sym known.numbered ∙ second ∙ number_of (root_epoch store) at in (
                Stale store.sequence number,
                inr (inl ((due, at.stayed), refl)),
                subst (λ got. IsRefused store (Stale store.sequence got) known.given.result known.given.now) (sym second ∙ known.numbered)
                    (refusals.again known.at.pair known.given.now known.given.result at
                    (omega (arith, accepted (due, at.stayed), second, known.numbered)) given),
              )
          | inr other ↦
              refused_other (known.at.sent + 1) other
              (inr (sym known.numbered ∙ second ∙ number_of (known.at.sent + 1) known.at.at, known.at.at.stayed))
              (refusals.other_traffic known.at.sent known.at.pair known.given.now known.given.result known.at.at other given)
        ]

    refused : IsRefusedHere
    refused = elim known.at.is [
      | inl membership ↦ refused_membership membership.0 membership.1
      | inr traffic ↦ refused_traffic traffic.0 traffic.1
    ]

    pub refuses : (why : PushRefusal) × (answer ≡ PushRefused why) × IsWhy run store number why × HasThen next m (λ (now : Store). now ≡ store)
    refuses = (
      refused.0,
      known.given.answers ∙ ap answer_of refused.2.is,
      refused.1,
      has (λ (now : Store). now ≡ store) refused.2.stays,
    )
