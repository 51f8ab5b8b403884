-- A member whose pull is in step with its session at the server takes the fourth message of that session (RFC 6407 section 3.2).
use Rattle.std.specs.Prelude.{◌≡◌, ℕ, false, List, ◌∷◌, MatchBool, Some}
use Rattle.group_terms.specs.Names.{Name}
use Rattle.group_model.specs.declared.entries.Answer.{Answer}
use Rattle.group_model.specs.declared.entries.Answer.TheVariants.{Lost}
use Rattle.group_model.specs.declared.entries.Asked.TheVariants.{Keep}
use Rattle.group_model.specs.declared.entries.Entry.{Entry}
use Rattle.group_model.specs.declared.entries.Outside.{Outside}
use Rattle.group_model.specs.declared.entries.SymReply.{SymReply}
use Rattle.group_peers.specs.Peers.{peer_of, store_of}
use Rattle.group_peers.specs.declared.members.Peer.{Peer}
use Rattle.member_pull.specs.Views.{Pull}
use Rattle.member_pull.specs.declared.pulls.Step.TheVariants as steps
use Rattle.member_steps.specs.Acts.{Acts, IsIgnoring}
use Rattle.member_steps.specs.Members.{Mail, Members}
use Rattle.member_steps.specs.Steps.{IsKeeping}
use Rattle.member_store.specs.Stores.{Store}
use Rattle.pull_sessions.specs.Sessions.{HasSession}
use Rattle.pull_sessions.specs.declared.answers.Kept.TheVariants as kept
use Rattle.pull_sessions.specs.declared.sas.Sa.{Sa}
use Rattle.pull_sessions.specs.declared.sas.Session.{Session}
use Rattle.group_steps.specs.Devices.{Devices, Keying}
use Rattle.group_steps.specs.Runs.{Outset, Run, no_run}
use Rattle.group_steps.specs.Steps.{IsAnsweredAfter, IsHistory}
use Rattle.law_store_steps.specs.Follow.{IsKeptAt, IsOurs, KeepsItsStore}

-- A pull awaits the fourth message of a session, under the same phase 1 SA: it has the message id and the nonces of that session, the IV that its third message
-- left (RFC 2409 appendix B), and the SPI of the group.
pub record IsInStep (spi : List ℕ) (sa : Sa) (session : Session) (pull : Pull) : Type 0 where
  pub under : pull.phase ≡ sa.phase
  pub message : pull.message ≡ session.message
  pub nonce : pull.ni ≡ session.ni
  pub awaits : pull.step ≡ steps.Fourth session.iv session.nr spi

module _ {D : Type 0} where
  -- The first datagram on its way to some members is what the session of m keeps, a fourth message that says this, and the pull of m is in step with it.
  pub record GetsOwnFourth (run : Run D) (members : Members) (m : Name) (says : SymReply) : Type 0 where
    pub sa : Sa
    pub session : Session
    pub has : HasSession run.host.sessions.sas m sa session
    pub octets : List ℕ
    pub keeps : session.kept ≡ kept.Datagram octets (Some says)
    pub later : List Mail
    pub is_first : members.mail ≡ (m, octets) ∷ later
    pub peer : Peer
    pub is_there : peer_of members.all m ≡ Some peer
    pub pull : Pull
    pub pulls : peer.pull ≡ Some pull
    pub in_step : IsInStep run.host.head.spi sa session pull

  -- this is the peer of a name
  abbrev pub HasPeer : Run D → Name → Peer → Type 0
  HasPeer run m peer = peer_of run.members.all m ≡ Some peer

  -- By whether its next datagram goes missing: then its store stays, and the one after it comes; else it has the keys that this message says, unless they are
  -- older than its store's.
  abbrev pub TakesOwn : Run D → Peer → SymReply → Name → Answer → Run D → Type 0
  TakesOwn run peer says m answer next =
      MatchBool peer.loses ((answer ≡ Lost) × KeepsItsStore run m next × HasPeer next m (record peer { loses = false })) (IsKeptAt run says m answer next)

module _ {D G V : Type 0} (on : Devices D G V) (by : Keying G) where
  -- Members that acted after a history do not ignore it: that m keeps it is a step of theirs. And where m is asked next to keep it, that becomes of it, if m
  -- has no store yet or one of the group.
  pub record TakesOwnFourth (before : List Entry) (run : Run D) (acted : Members) (m : Name) (says : SymReply) (gets : GetsOwnFourth run acted m says)
      : Type 0 where
    pub not_ignored : (other : Members) → IsIgnoring acted other → ⊥
    pub can_be_kept : (answer : Answer) × (after : Members) × IsKeeping m acted answer after
    pub taken : (answer : Answer) (outside : Outside) (next : Run D) → ((store : Store) → store_of run.members.all m ≡ Some store → IsOurs run m store)
        → IsAnsweredAfter on by acted before run (record { asked = Keep m; outside = outside; answer = answer }) next
        → TakesOwn run gets.peer says m answer next

  -- So it is after each history.
  abbrev pub OwnFourthsAreTaken : Type 0
  OwnFourthsAreTaken =
      (outset : Outset D) (before : List Entry) (run : Run D) (acted : Members) (m : Name) (says : SymReply) (gets : GetsOwnFourth run acted m says)
      → IsHistory on by (no_run outset) before run → Acts by.members_block by.group run.members acted → TakesOwnFourth before run acted m says gets
