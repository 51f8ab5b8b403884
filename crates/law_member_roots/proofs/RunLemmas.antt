-- A member that is given its due pushes, with any refused datagrams between.
use Rattle.std.proofs.Common.{◌≡◌, ap, arith, inl, inr, subst, sym, ℕ, suc, ◌+◌, ◌<◌, Bool, true, false, List, [], ◌∷◌, length}
use Rattle.std.specs.Prelude.{Result, Ok, Err, IsErr}
use Rattle.std.proofs.lemmas.Bool.{false≢true}
use Rattle.gd_edges.specs.declared.signers.Signer.{Ghosts as SignerGhosts}
use Rattle.gd_edges.specs.declared.verifiers.Verifier.{Ghosts as VerifierGhosts}
use Rattle.group_terms.specs.Names.{Name}
use Rattle.group_terms.specs.declared.pushes.PushRefusal.{PushRefusal}
use Rattle.group_values.specs.Values.{Made, batches_made}
use Rattle.group_model.specs.Laws.{HoldersStay}
use Rattle.group_model.specs.Places.{holders_at, is_member}
use Rattle.group_model.specs.declared.entries.PushPair.{PushPair}
use Rattle.member_store.specs.declared.answers.Taken.{Taken}
use Rattle.member_store.specs.declared.answers.Taken.TheVariants.{Root, Traffic}
use Rattle.law_member_roots.specs.Groups.{ArePairsAfter, IsMemberFrom, IsPairAt, datagrams_of}
use Rattle.law_member_roots.specs.Roots.{HasKeysOf, HasTrafficOf, IsAtRoot}
use Rattle.member_store.specs.Steps.{AreDueAcceptances, IsAcceptance}
use Rattle.member_store.specs.Stores.{Store}
use Rattle.law_member_roots.proofs.NumberLemmas.{first_number, last_number}

abbrev head_or : List ℕ → List (List ℕ) → List ℕ
head_or other [] = other
head_or other (first ∷ rest) = first

abbrev rest_of : List (List ℕ) → List (List ℕ)
rest_of [] = []
rest_of (first ∷ rest) = rest

abbrev is_empty : List (List ℕ) → Bool
is_empty [] = true
is_empty (first ∷ rest) = false

module _ {G V : Type 0} (g : SignerGhosts G) (signer : G) (v : VerifierGhosts V) (verifier : V) (depth : ℕ) (spi : List ℕ) (list : List Made) (m : Name) where
  -- what is known of a refusal, and of each push that is due
  pub record Laws : Type 0 where
    pub holders_stay : HoldersStay
    pub stays : (store next : Store) (datagram : List ℕ) (why : PushRefusal) → IsAcceptance v verifier store datagram (Err why) next → next ≡ store
    pub membership : (epoch : ℕ) (pair : PushPair) (store next : Store) (result : Result Taken PushRefusal)
        → IsPairAt g signer depth spi list (epoch + 1) pair → IsAtRoot depth spi list epoch m store
        → is_member (holders_at depth (batches_made list) (epoch + 1)) m ≡ true → store.sequence < pair.first
        → IsAcceptance v verifier store pair.membership result next
        → (result ≡ Ok (Root (epoch + 1))) × IsAtRoot depth spi list (epoch + 1) m next × (next.sequence ≡ pair.first)
        × (next.traffic ≡ store.traffic) × (next.traffic_epoch ≡ store.traffic_epoch)
    pub traffic : (epoch : ℕ) (pair : PushPair) (store next : Store) (result : Result Taken PushRefusal)
        → IsPairAt g signer depth spi list epoch pair → IsAtRoot depth spi list epoch m store → store.sequence < pair.first + 1
        → IsAcceptance v verifier store pair.traffic result next
        → (result ≡ Ok (Traffic epoch)) × IsAtRoot depth spi list epoch m next × (next.sequence ≡ pair.first + 1) × HasTrafficOf list epoch next

  module _ (laws : Laws) (after : Store) where
    -- from a whole epoch on
    abbrev Whole : List (List ℕ) → Type 0
    Whole datagrams = (pairs : List PushPair) (epoch : ℕ) (store : Store) → ArePairsAfter g signer depth spi list epoch pairs
        → IsMemberFrom depth list epoch (epoch + length pairs) m → HasKeysOf depth spi list epoch m store
        → AreDueAcceptances v verifier store (datagrams_of pairs) datagrams after → HasKeysOf depth spi list (epoch + length pairs) m after

    -- from the new root on, whose traffic key is still due
    abbrev Half : List (List ℕ) → Type 0
    Half datagrams = (pair : PushPair) (pairs : List PushPair) (epoch : ℕ) (store : Store) → IsPairAt g signer depth spi list epoch pair
        → ArePairsAfter g signer depth spi list epoch pairs → IsMemberFrom depth list epoch (epoch + length pairs) m
        → IsAtRoot depth spi list epoch m store → store.sequence ≡ pair.first
        → AreDueAcceptances v verifier store (pair.traffic ∷ datagrams_of pairs) datagrams after → HasKeysOf depth spi list (epoch + length pairs) m after

    -- a refused datagram changes nothing
    refused_stays : (store next : Store) (datagram : List ℕ) (result : Result Taken PushRefusal) → IsErr result
        → IsAcceptance v verifier store datagram result next → next ≡ store
    refused_stays store next datagram (Ok taken) is step = absurd (false≢true is)
    refused_stays store next datagram (Err why) is step = laws.stays store next datagram why step

    whole_end : (pairs : List PushPair) (epoch : ℕ) (store : Store) → HasKeysOf depth spi list epoch m store → datagrams_of pairs ≡ []
        → after ≡ store → HasKeysOf depth spi list (epoch + length pairs) m after
    whole_end [] epoch store has none is =
        subst (λ now. HasKeysOf depth spi list now m after) (let e : epoch ≡ epoch + 0 = omega arith in e)
        (subst (HasKeysOf depth spi list epoch m) (sym is) has)
    whole_end (pair ∷ pairs) epoch store has none is = absurd (false≢true (ap is_empty none))

    module _ (datagram : List ℕ) (datagrams : List (List ℕ)) (rest : Whole datagrams × Half datagrams) where
      whole_due : (pairs : List PushPair) (epoch : ℕ) (store next : Store) (result : Result Taken PushRefusal) (later : List (List ℕ))
          → ArePairsAfter g signer depth spi list epoch pairs → IsMemberFrom depth list epoch (epoch + length pairs) m
          → HasKeysOf depth spi list epoch m store → IsAcceptance v verifier store datagram result next
          → datagrams_of pairs ≡ datagram ∷ later → AreDueAcceptances v verifier next later datagrams after
          → HasKeysOf depth spi list (epoch + length pairs) m after
      whole_due [] epoch store next result later are members has step due run = absurd (false≢true (sym (ap is_empty due)))
      whole_due (pair ∷ pairs) epoch store next result later are members has step due run =
          let first = first_number laws.holders_stay depth g signer spi list pair epoch are.0 in
          let taken = laws.membership epoch pair store next result are.0 has.root (members (epoch + 1) (omega arith) (omega arith))
          (omega (arith, has.sequence, first))
          (subst (λ sent. IsAcceptance v verifier store sent result next) (sym (ap (head_or datagram) due)) step) in
          let end : epoch + 1 + length pairs ≡ epoch + suc (length pairs) = omega arith in
          subst (λ now. HasKeysOf depth spi list now m after) end
          (rest.1 pair pairs (epoch + 1) next are.0 are.1 (λ now from to. members now (omega (arith, from)) (omega (arith, to))) taken.1 taken.2
          (subst (λ left. AreDueAcceptances v verifier next left datagrams after) (sym (ap rest_of due)) run))

      half_due : (pair : PushPair) (pairs : List PushPair) (epoch : ℕ) (store next : Store) (result : Result Taken PushRefusal) (later : List (List ℕ))
          → IsPairAt g signer depth spi list epoch pair → ArePairsAfter g signer depth spi list epoch pairs
          → IsMemberFrom depth list epoch (epoch + length pairs) m → IsAtRoot depth spi list epoch m store → store.sequence ≡ pair.first
          → IsAcceptance v verifier store datagram result next → pair.traffic ∷ datagrams_of pairs ≡ datagram ∷ later
          → AreDueAcceptances v verifier next later datagrams after → HasKeysOf depth spi list (epoch + length pairs) m after
      half_due pair pairs epoch store next result later at are members root number step due run =
          let last = last_number laws.holders_stay depth g signer spi list pair epoch at in
          let taken = laws.traffic epoch pair store next result at root (omega (arith, number))
          (subst (λ sent. IsAcceptance v verifier store sent result next) (sym (ap (head_or datagram) due)) step) in
          rest.0 pairs epoch next are members
          (record { root = taken.1; traffic = taken.3; sequence = omega (arith, taken.2, last) })
          (subst (λ left. AreDueAcceptances v verifier next left datagrams after) (sym (ap rest_of due)) run)

      whole_more : Whole (datagram ∷ datagrams)
      whole_more pairs epoch store are members has run = elim run.3 [
        | inl refused ↦ rest.0 pairs epoch store are members has
            (subst (λ now. AreDueAcceptances v verifier now (datagrams_of pairs) datagrams after)
            (refused_stays store run.1 datagram run.0 refused.0 run.2) refused.1)
        | inr due ↦ whole_due pairs epoch store run.1 run.0 due.0 are members has run.2 due.1 due.2
      ]

      half_more : Half (datagram ∷ datagrams)
      half_more pair pairs epoch store at are members root number run = elim run.3 [
        | inl refused ↦ rest.1 pair pairs epoch store at are members root number
            (subst (λ now. AreDueAcceptances v verifier now (pair.traffic ∷ datagrams_of pairs) datagrams after)
            (refused_stays store run.1 datagram run.0 refused.0 run.2) refused.1)
        | inr due ↦ half_due pair pairs epoch store run.1 run.0 due.0 at are members root number run.2 due.1 due.2
      ]

    pub runs : (datagrams : List (List ℕ)) → Whole datagrams × Half datagrams
    runs [] = (
      λ pairs epoch store are members has run. whole_end pairs epoch store has run.0 run.1,
      λ pair pairs epoch store at are members root number run. absurd (false≢true (ap is_empty run.0)),
    )
    runs (datagram ∷ datagrams) = (whole_more datagram datagrams (runs datagrams), half_more datagram datagrams (runs datagrams))
