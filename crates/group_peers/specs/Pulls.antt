-- The pulls of peers (RFC 6407 section 3.2).
use Rattle.std.specs.Prelude.{◌≡◌, ◌≢◌, ℕ, List, Option, None, Some, Result, Ok, Err}
use Rattle.group_terms.specs.Names.{Name}
use Rattle.group_terms.specs.declared.paths.Keyed.{Keyed}
use Rattle.group_terms.specs.declared.memory.NoMemory.{NoMemory}
use Rattle.group_peers.specs.Peers.{peer_of, put}
use Rattle.group_peers.specs.declared.members.Peer.{Peer}
use Rattle.group_peers.specs.declared.pulled.Pulled.{Pulled}
use Rattle.group_peers.specs.declared.pulled.Pulled.TheVariants.{Ignored, Sends, Told}
use Rattle.member_pull.specs.Pulls.{IsBegun, IsFourth, IsSecond}
use Rattle.member_pull.specs.Views.{Pull}
use Rattle.member_pull.specs.declared.pulls.Step.{Step}
use Rattle.member_pull.specs.declared.pulls.Step.TheVariants as steps
use Rattle.member_pull.specs.declared.refusals.PullRefusal.{PullRefusal}
use Rattle.member_pull.specs.declared.refusals.PullRefusal.TheVariants as refusals

-- ---- their beginning

-- a peer with a pull that began so, whose first message it sent
pub record Begun (message ni group : List ℕ) (peer next : Peer) : Type 0 where
  pub pull : Pull
  pub datagram : List ℕ
  pub begins : IsBegun peer.phase message ni group pull datagram
  pub now : next ≡ record peer { pull = Some pull; sent = Some datagram }

-- the peer of this name begins a pull
pub record Begins (peers : List Peer) (name : Name) (message ni group : List ℕ) (next : List Peer) : Type 0 where
  pub peer : Peer
  pub is_there : peer_of peers name ≡ Some peer
  pub after : Peer
  pub begun : Begun message ni group peer after
  pub now : next ≡ put peers after

-- ---- what a datagram makes of them

-- a pull refuses a datagram, or waits for none; out of memory is no refusal
abbrev pub PassesOverAt : Step → Pull → List ℕ → Type 0
PassesOverAt (steps.Second iv) pull datagram = (why : PullRefusal) × (why ≢ refusals.NoMemory) × IsSecond pull datagram (Err why) pull
PassesOverAt (steps.Fourth iv nr spi) pull datagram = (why : PullRefusal) × (why ≢ refusals.NoMemory) × IsFourth pull datagram (Err why) pull
PassesOverAt steps.Ended pull datagram = Unit {0}

-- a peer that never began one ignores it, too
abbrev pub PassesOver : Option Pull → List ℕ → Type 0
PassesOver None datagram = Unit {0}
PassesOver (Some pull) datagram = PassesOverAt pull.step pull datagram

-- its pull takes a datagram as the second message, and it sends the third one
pub record Agrees (datagram third : List ℕ) (peer next : Peer) : Type 0 where
  pub pull : Pull
  pub has : peer.pull ≡ Some pull
  pub after : Pull
  pub takes : IsSecond pull datagram (Ok third) after
  pub now : next ≡ record peer { pull = Some after; sent = Some third }

-- its pull takes a datagram as the fourth message, which tells these keys, and has ended
pub record IsTold (datagram : List ℕ) (keyed : Keyed) (peer next : Peer) : Type 0 where
  pub pull : Pull
  pub has : peer.pull ≡ Some pull
  pub ended : Pull
  pub takes : IsFourth pull datagram (Ok keyed) ended
  pub now : next ≡ record peer { pull = Some ended }

-- what comes of a datagram; out of memory, nothing changes
abbrev pub TakesDatagram : List ℕ → Peer → Result Pulled NoMemory → Peer → Type 0
TakesDatagram datagram peer (Ok Ignored) next = PassesOver peer.pull datagram × (next ≡ peer)
TakesDatagram datagram peer (Ok Sends) next = (third : List ℕ) × Agrees datagram third peer next
TakesDatagram datagram peer (Ok (Told keyed)) next = IsTold datagram keyed peer next
TakesDatagram datagram peer (Err short) next = next ≡ peer

-- it comes to the peer of this name
pub record Takes (peers : List Peer) (name : Name) (datagram : List ℕ) (result : Result Pulled NoMemory) (next : List Peer) : Type 0 where
  pub peer : Peer
  pub is_there : peer_of peers name ≡ Some peer
  pub after : Peer
  pub takes : TakesDatagram datagram peer result after
  pub now : next ≡ put peers after
