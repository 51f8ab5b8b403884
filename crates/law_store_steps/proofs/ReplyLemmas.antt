-- What a member is told after a history is kept, or is older than what its store has; or it goes missing.
use Rattle.std.proofs.Common.{◌≡◌, ◌∙◌, ap, arith, refl, subst, sym, inl, inr, ℕ, ◌≤◌, true, false, Bool, List, Option, None, Some}
use Rattle.std.specs.Prelude.{◌<◌, ◌⊎◌, ◌==◌, ◌&&◌, MatchBool, nat_lt, option_and_then}
use Rattle.std.specs.List.{Contains}
use Rattle.std.proofs.lemmas.Bool.{and_from, and_parts, cases_Bool, cases_lt, eq-eqb, eqb-true, false≢true, lt-ltb, ltb-true, or_from, or_left, or_right}
use Rattle.std.proofs.lemmas.List.{length-take-le}
use Rattle.group_terms.specs.Names.{Name}
use Rattle.group_terms.specs.declared.paths.Keyed.{Keyed}
use Rattle.group_terms.specs.declared.phases.Phase1.{Phase1}
use Rattle.group_terms.specs.declared.signatures.SignKind.{SignKind}
use Rattle.group_model.specs.declared.entries.Answer.{Answer}
use Rattle.group_model.specs.declared.entries.Answer.TheVariants.{Kept, Lost, Older}
use Rattle.group_model.specs.declared.entries.SymReply.{SymReply}
use Rattle.group_peers.specs.Peers.{is_peer, peer_of, put, store_of, with_loss}
use Rattle.group_peers.specs.declared.members.Peer.{Peer}
use Rattle.member_steps.specs.Members.{Members, with_all, with_mail_left}
use Rattle.member_steps.specs.Steps.{GoesMissing, Gets, IsKeeping, IsOld, TakesFourth, TakesReply}
use Rattle.group_steps.specs.Runs.{Run}
use Rattle.member_store.specs.Stores.{Store, is_older, root_epoch, store_of as store_made}
use Rattle.law_store_steps.specs.Follow.{HasKeysThen, HasThen, IsKeptAt, IsOlder, IsToldKeys, KeepsItsStore, TakesOrLoses}
use Rattle.law_store_steps.proofs.ActLemmas.{Stay, loss_stores, put_stores}
use Rattle.law_store_steps.proofs.MailLemmas.{Tells}
use Rattle.law_store_steps.proofs.PeerLemmas.{found_anew, found_named, found_peer, put_found}

-- what a store refuses as older is older by what it says, and nothing else is
module _ (store : Store) (keyed : Keyed) (says : SymReply) (number : keyed.sequence ≡ says.sequence) (at : keyed.epoch ≡ says.keyed_epoch) where
  abbrev less : Bool
  less = nat_lt keyed.sequence store.sequence

  abbrev equal : Bool
  equal = keyed.sequence == store.sequence

  abbrev earlier : Bool
  earlier = nat_lt keyed.epoch (root_epoch store)

  older_as_said : is_older store keyed ≡ true → IsOlder store says
  older_as_said older = elim (cases_Bool less) [
    | inl lower ↦ inl (omega (arith, number, ltb-true keyed.sequence store.sequence lower))
    | inr no_lower ↦ elim (cases_Bool (equal && earlier)) [
      | inl both ↦
          let parts = and_parts equal earlier both in
          inr (
            sym number ∙ eqb-true keyed.sequence store.sequence parts.0,
            omega (arith, at, ltb-true keyed.epoch (root_epoch store) parts.1),
          )
      | inr none ↦ absurd (false≢true (sym (or_from less (equal && earlier) no_lower none) ∙ older))
    ]
  ]

  is_older_as_said : IsOlder store says → is_older store keyed ≡ true
  is_older_as_said (inl lower) = or_left less (equal && earlier) (lt-ltb keyed.sequence store.sequence (omega (arith, number, lower)))
  is_older_as_said (inr same) =
      or_right less (equal && earlier)
      (and_from equal earlier (eq-eqb keyed.sequence store.sequence (number ∙ same.0)) (lt-ltb keyed.epoch (root_epoch store) (omega (arith, at, same.1))))

module _ {D : Type 0} (kind : SignKind) (run : Run D) (acted : Members) (stays : Stay run.members acted) (m : Name) (answer : Answer) (next : Run D) where
  -- the store of a member is what it was before the members acted
  keeps_store : (made : Members) → next.members ≡ made → store_of made.all m ≡ store_of acted.all m → KeepsItsStore run m next
  keeps_store made is same = ap (λ (members : Members). store_of members.all m) is ∙ same ∙ stays.stores m

  pub missing : GoesMissing m acted answer next.members → (answer ≡ Lost) × KeepsItsStore run m next
  missing goes = (goes.answers, keeps_store _ goes.now (loss_stores acted.all m _ m))

  module _ (fourth : TakesFourth m acted answer next.members) (tells : Tells kind run m fourth.datagram fourth.keyed)
      (has_keys : HasKeysThen run tells.says.keyed_epoch m (store_made fourth.keyed)) (number : fourth.keyed.sequence ≡ tells.says.sequence)
      (fresh : (store : Store) → store_of run.members.all m ≡ Some store → root_epoch store ≤ tells.says.keyed_epoch
      → is_older store fourth.keyed ≡ false) where
    abbrev epoch : ℕ
    epoch = tells.says.keyed_epoch

    abbrev left : Members
    left = with_mail_left (with_all acted (put acted.all fourth.after)) fourth.later

    phase : fourth.after.phase ≡ fourth.peer.phase
    phase = ap (λ (peer : Peer). peer.phase) fourth.told.now

    put_store : store_of left.all m ≡ store_of acted.all m
    put_store = put_stores acted.all m fourth.peer fourth.after fourth.gets.is_there phase (ap (λ (peer : Peer). peer.store) fourth.told.now) m

    had_store : fourth.peer.store ≡ store_of run.members.all m
    had_store =
        sym (ap (λ (found : Option Peer). option_and_then (λ (peer : Peer). peer.store) found) fourth.gets.is_there) ∙ stays.stores m

    named : m ≡ fourth.after.phase.member
    named = found_named acted.all m fourth.peer fourth.gets.is_there ∙ ap (λ (phase : Phase1). phase.member) (sym phase)

    still_peer : is_peer left.all m ≡ true
    still_peer =
        let was = found_peer acted.all m fourth.peer fourth.gets.is_there in
        let put_there : peer_of left.all fourth.after.phase.member ≡ Some fourth.after =
        put_found fourth.after acted.all (subst (λ name. is_peer acted.all name ≡ true) named was) in
        found_peer left.all m fourth.after (subst (λ name. peer_of left.all name ≡ Some fourth.after) (sym named) put_there)

    at_epoch : fourth.keyed.epoch ≡ epoch
    at_epoch = tells.keys.epoch ∙ length-take-le epoch run.host.server.list tells.early

    newer : ((store : Store) → store_of run.members.all m ≡ Some store → is_older store fourth.keyed ≡ false)
        → HasThen run m (λ (store : Store). IsOlder store tells.says) → ⊥
    newer is had = false≢true (sym (is had.0 had.1) ∙ is_older_as_said had.0 fourth.keyed tells.says number at_epoch had.2)

    kept : ((store : Store) → store_of run.members.all m ≡ Some store → is_older store fourth.keyed ≡ false)
        → Gets m fourth.keyed left answer next.members → IsKeptAt run tells.says m answer next
    kept is gets = inl (
      gets.answers ∙ ap Kept at_epoch,
      newer is,
      (
        store_made fourth.keyed,
        ap (λ (members : Members). store_of members.all m) gets.now ∙ found_anew left.all m (store_made fourth.keyed) still_peer,
        has_keys,
      ),
    )

    old : (store : Store) → fourth.peer.store ≡ Some store → is_older store fourth.keyed ≡ true → IsOld store fourth.keyed left answer next.members
        → IsKeptAt run tells.says m answer next
    old store had older stays_old =
        let now = ap (λ (members : Members). store_of members.all m) stays_old.stays ∙ put_store in
        let was = sym had_store ∙ had in
        inr (
          now ∙ stays.stores m,
          (
            store,
            now ∙ stays.stores m ∙ was,
            (
              stays_old.answers ∙ ap (Older store.sequence) number,
              older_as_said store fourth.keyed tells.says number at_epoch older,
              elim (cases_lt epoch (root_epoch store)) [
                | inl before ↦ before
                | inr past ↦ absurd (false≢true (sym (fresh store was past) ∙ older))
              ],
            ),
          ),
        )

    by_age : (store : Store) (age : Bool) → fourth.peer.store ≡ Some store → is_older store fourth.keyed ≡ age
        → MatchBool age (IsOld store fourth.keyed left answer next.members) (Gets m fourth.keyed left answer next.members)
        → IsKeptAt run tells.says m answer next
    by_age store true had older takes = old store had older takes
    by_age store false had older takes =
        kept (λ other there. let both : Some store ≡ Some other = sym had ∙ had_store ∙ there in let same : store ≡ other = cc (both) in
        subst (λ (of : Store). is_older of fourth.keyed ≡ false) same older) takes

    by_store : (had : Option Store) → fourth.peer.store ≡ had → TakesReply had m fourth.keyed left answer next.members
        → IsKeptAt run tells.says m answer next
    by_store None had takes =
        kept (λ other there. let none : None ≡ Some other = sym had ∙ had_store ∙ there in absurd (cc (none))) takes
    by_store (Some store) had takes = by_age store (is_older store fourth.keyed) had refl takes

    pub keeps_keys : IsKeptAt run tells.says m answer next
    keeps_keys = by_store fourth.peer.store refl fourth.takes

    takes_keys : Contains run.members.mail (m, fourth.datagram) → IsToldKeys kind run m answer next
    takes_keys on_its_way = record {
      octets = fourth.datagram;
      says = tells.says;
      on_its_way = on_its_way;
      sent = tells.sent;
      kept = keeps_keys;
    }

  pub takes_or_loses : ((fourth : TakesFourth m acted answer next.members) → Contains run.members.mail (m, fourth.datagram)
      × ((tells : Tells kind run m fourth.datagram fourth.keyed)
      × (HasKeysThen run tells.says.keyed_epoch m (store_made fourth.keyed)) × (fourth.keyed.sequence ≡ tells.says.sequence)
      × ((store : Store) → store_of run.members.all m ≡ Some store → root_epoch store ≤ tells.says.keyed_epoch → is_older store fourth.keyed ≡ false)))
      → IsKeeping m acted answer next.members → TakesOrLoses kind run m answer next
  takes_or_loses known (inl goes) = inl (missing goes)
  takes_or_loses known (inr fourth) =
      let is = known fourth in inr (takes_keys fourth is.1.0 is.1.1 is.1.2 is.1.3 is.0)
