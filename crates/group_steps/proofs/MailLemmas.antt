-- SAs of a server and peers by each other, and messages that are on their way to peers.
use Rattle.std.proofs.Common.{◌≡◌, ◌∙◌, ℕ, Bool, true, false, List, [], ◌∷◌, Option, None, Some, refl, sym, ap, subst, inl, inr}
use Rattle.std.specs.Prelude.{All, option_and_then}
use Rattle.std.specs.List.{AllByRecursion, IsDistinct}
use Rattle.std.specs.Option.{option_map}
use Rattle.std.specs.Str.{bytes_eq}
use Rattle.std.proofs.lemmas.Bool.{cases_Bool, cond-true, cond-false, false≢true}
use Rattle.std.proofs.lemmas.List.Elements.{All-weaker}
use Rattle.group_terms.specs.Names.{Name, same_name}
use Rattle.group_terms.specs.declared.phases.Phase1.{Phase1}
use Rattle.group_terms.specs.declared.signatures.SignKind.{SignKind}
use Rattle.group_model.specs.declared.entries.SymReply.{SymReply}
use Rattle.group_peers.specs.Peers.{peer_of, phase_of, sent_by}
use Rattle.group_peers.specs.declared.members.Peer.{Peer}
use Rattle.member_steps.specs.Members.{Mail}
use Rattle.pull_sessions.specs.Sessions.{cookies_of, has_cookies, is_of, sa_of, sa_with, session_of}
use Rattle.pull_sessions.specs.declared.sas.Sa.{Sa}
use Rattle.pull_sessions.specs.declared.sas.Session.{Session}
use Rattle.server_steps.specs.Hosts.{Host}
use Rattle.server_steps.specs.Messages.{IsAnswerNow, IsMessageOf, KeepsSent}
use Rattle.group_steps.specs.Mails.{AnswersMember, IsSentTo}
use Rattle.group_steps.proofs.PeerLemmas.{found_passes, given_at, given_by, mark_of, name_is, name_self, only}
use Rattle.group_steps.proofs.PhaseLemmas.{phase_there, sa_phase}

-- ---- SAs by their cookies

-- of SAs that are apart the one with these cookies is found by them
cookies_apart : (first : Sa) (sas : List Sa) (m : Name) (sa : Sa) → AllByRecursion (λ other. bytes_eq first.phase.cookies other ≡ false) (cookies_of sas)
    → sa_of sas m ≡ Some sa → bytes_eq first.phase.cookies sa.phase.cookies ≡ false
cookies_apart first [] m sa others is = absurd (cc)
cookies_apart first (next ∷ sas) m sa others is = elim (cases_Bool (same_name m next.phase.member)) [
  | inl here ↦
      subst (λ (sa : Sa). bytes_eq first.phase.cookies sa.phase.cookies ≡ false)
      (only (sym (cond-true (same_name m next.phase.member) (Some next) (sa_of sas m) here) ∙ is)) others.0
  | inr other ↦
      cookies_apart first sas m sa others.1 (sym (cond-false (same_name m next.phase.member) (Some next) (sa_of sas m) other) ∙ is)
]

pub own_cookies : (sas : List Sa) (m : Name) (sa : Sa) → IsDistinct bytes_eq (cookies_of sas) → sa_of sas m ≡ Some sa → sa_with sas sa.phase.cookies ≡ Some sa
unfolding IsDistinct
own_cookies [] m sa apart is = absurd (cc)
own_cookies (first ∷ sas) m sa apart is = elim (cases_Bool (same_name m first.phase.member)) [
  | inl here ↦
      let one : first ≡ sa = only (sym (cond-true (same_name m first.phase.member) (Some first) (sa_of sas m) here) ∙ is) in
      subst (λ (sa : Sa). sa_with (first ∷ sas) sa.phase.cookies ≡ Some sa) one
      (cond-true (has_cookies first.phase.cookies first) (Some first) (sa_with sas first.phase.cookies) (name_self first.phase.cookies))
  | inr other ↦
      let there : sa_of sas m ≡ Some sa = sym (cond-false (same_name m first.phase.member) (Some first) (sa_of sas m) other) ∙ is in
      cond-false (has_cookies sa.phase.cookies first) (Some first) (sa_with sas sa.phase.cookies)
      (turned first.phase.cookies sa.phase.cookies (cookies_apart first sas m sa apart.0 there)) ∙ own_cookies sas m sa apart.1 there
]
  where
    turned : (a b : List ℕ) → bytes_eq a b ≡ false → bytes_eq b a ≡ false
    turned a b differ = elim (cases_Bool (bytes_eq b a)) [
      | inl same ↦ absurd (false≢true (sym differ ∙ ap (λ b. bytes_eq a b) (name_is b a same) ∙ name_self a))
      | inr other ↦ other
    ]

-- the SA of a member that has one
pub sa_there : (sas : List Sa) (m : Name) (phase : Phase1) → sa_phase sas m ≡ Some phase → (sa : Sa) × (sa_of sas m ≡ Some sa) × (sa.phase ≡ phase)
sa_there sas m phase = by_sa (sa_of sas m) refl
  where
    by_sa : (sa : Option Sa) → sa_of sas m ≡ sa → option_map (λ (sa : Sa). sa.phase) sa ≡ Some phase
        → (sa : Sa) × (sa_of sas m ≡ Some sa) × (sa.phase ≡ phase)
    by_sa None there is = absurd (cc)
    by_sa (Some sa) there is = (sa, there, cc)

-- the peer whose SA was introduced
pub given_there : (peers : List Peer) (m : Name) (phase : Phase1) → given_at peers m ≡ Some phase
    → (peer : Peer) × (peer_of peers m ≡ Some peer) × (peer.phase ≡ phase)
given_there peers m phase = by_peer (peer_of peers m) refl
  where
    by_mark : (introduced : Bool) (its : Phase1) → given_by (record { phase = its; introduced = introduced }) ≡ Some phase → its ≡ phase
    by_mark true its is = only is
    by_mark false its is = absurd (cc)

    by_peer : (peer : Option Peer) → peer_of peers m ≡ peer → option_and_then given_by (option_map mark_of peer) ≡ Some phase
        → (peer : Peer) × (peer_of peers m ≡ Some peer) × (peer.phase ≡ phase)
    by_peer None there is = absurd (cc)
    by_peer (Some peer) there is = (peer, there, by_mark peer.introduced peer.phase is)

-- a peer that was introduced is given
pub given_is : (peers : List Peer) (m : Name) (peer : Peer) → peer_of peers m ≡ Some peer → peer.introduced ≡ true → given_at peers m ≡ Some peer.phase
given_is peers m peer there introduced =
    ap (λ peer. option_and_then given_by (option_map mark_of peer)) there
    ∙ ap (λ introduced. given_by (record { phase = peer.phase; introduced = introduced })) introduced

-- who sent a datagram
pub sender : (peers : List Peer) (m : Name) (datagram : List ℕ) → sent_by peers m ≡ Some datagram
    → (peer : Peer) × (peer_of peers m ≡ Some peer) × (peer.sent ≡ Some datagram)
sender peers m datagram = by_peer (peer_of peers m) refl
  where
    by_peer : (peer : Option Peer) → peer_of peers m ≡ peer → option_and_then (λ (peer : Peer). peer.sent) peer ≡ Some datagram
        → (peer : Peer) × (peer_of peers m ≡ Some peer) × (peer.sent ≡ Some datagram)
    by_peer None there is = absurd (cc)
    by_peer (Some peer) there is = (peer, there, is)

-- ---- what is on its way

-- peers keep their SAs
abbrev pub KeepPhases : List Peer → List Peer → Type 0
KeepPhases old new = (m : Name) (phase : Phase1) → phase_of old m ≡ Some phase → phase_of new m ≡ Some phase

module _ {D : Type 0} (kind : SignKind) where
  -- a datagram is a message to whom it goes
  abbrev pub IsMail : Host D → List Peer → Mail → Type 0
  IsMail host peers mail = (names : Option SymReply) × IsSentTo kind host peers mail.0 mail.1 names

  -- a message to the member of an SA is one to the peer that has it
  pub sent_under : (host : Host D) (peers : List Peer) (m : Name) (octets : List ℕ) (names : Option SymReply) (phase : Phase1) → phase_of peers m ≡ Some phase
      → IsMessageOf kind 0 host phase octets names → IsSentTo kind host peers m octets names
  sent_under host peers m octets names phase is message =
      let peer = phase_there peers m phase is in
      record {
        peer = peer.0;
        is_there = peer.1;
        message = subst (λ phase. IsMessageOf kind 0 host phase octets names) (sym peer.2) message;
      }

  -- what answers a datagram under an SA answers the peer that has it
  pub answered_under : (host next : Host D) (peers : List Peer) (m : Name) (datagram octets : List ℕ) (names : Option SymReply) (sa : Sa)
      → sa_of host.sessions.sas m ≡ Some sa → phase_of peers m ≡ Some sa.phase → IsMessageOf kind 0 next sa.phase octets names
      → IsAnswerNow kind next sa.session sa.phase datagram octets names
      → (keeps : KeepsSent next.sessions.sas sa.phase.member octets names) → keeps.session.last ≡ datagram
      → AnswersMember kind host next peers m datagram octets names
  unfolding sent_under
  answered_under host next peers m datagram octets names sa there is message now keeps last =
      let peer = phase_there peers m sa.phase is in
      let session : sa.session ≡ session_of host.sessions.sas m = sym (ap (option_and_then (λ (sa : Sa). sa.session)) there) in
      let its : sa.phase ≡ peer.0.phase = sym peer.2 in
      let own : sa.phase.member ≡ m = sym (name_is m sa.phase.member (found_passes (is_of m) host.sessions.sas sa there)) in
      let held : (keeps : KeepsSent next.sessions.sas m octets names) × (keeps.session.last ≡ datagram) =
      subst (λ m. (keeps : KeepsSent next.sessions.sas m octets names) × (keeps.session.last ≡ datagram)) own (keeps, last) in
      record {
        message = sent_under next peers m octets names sa.phase is message;
        now = subst (λ (x : Option Session × Phase1). IsAnswerNow kind next x.0 x.1 datagram octets names) (λ i. (session i, its i)) now;
        keeps = held.0;
        last = held.1;
      }

  -- messages of a group stay messages of it
  abbrev pub StayMessages : Host D → Host D → Type 0
  StayMessages host next =
      (phase : Phase1) (octets : List ℕ) (names : Option SymReply) → IsMessageOf kind 0 host phase octets names → IsMessageOf kind 0 next phase octets names

  pub mail_on : (host next : Host D) (old new : List Peer) → StayMessages host next → KeepPhases old new → (mail : List Mail)
      → All (IsMail host old) mail → All (IsMail next new) mail
  mail_on host next old new stay keep mail all = All-weaker (IsMail host old) (IsMail next new) each mail all
    where
      each : (one : Mail) → IsMail host old one → IsMail next new one
      each one is =
          let sent = is.1 in
          let phase = ap (option_map (λ (peer : Peer). peer.phase)) sent.is_there in (
            is.0,
            sent_under next new one.0 one.1 is.0 sent.peer.phase (keep one.0 sent.peer.phase phase) (stay sent.peer.phase one.1 is.0 sent.message),
          )
