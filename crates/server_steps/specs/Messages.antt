-- The messages that a key server sends in its sessions, and keeps so as to send them again (RFC 6407 section 3.2).
use Rattle.std.specs.Prelude.{◌≡◌, ◌≤◌, ℕ, MatchBool, true, List, ◌++◌, length, take, All, Contains, IfSome, Option, None, Some, Ok}
use Rattle.std.specs.Str.{bytes_eq}
use Rattle.gd_disk.specs.declared.disks.Disk.{Ghosts as DiskGhosts}
use Rattle.gd_edges.specs.declared.signers.Signer.{Ghosts as SignerGhosts}
use Rattle.gd_wire.specs.Headers.{header}
use Rattle.gd_wire.specs.Readings.{from_start, value_of}
use Rattle.gd_wire.specs.declared.headers.Header.{Header}
use Rattle.group_terms.specs.Names.{Name}
use Rattle.group_terms.specs.declared.paths.Keyed.{Keyed}
use Rattle.group_terms.specs.declared.phases.Phase1.{Phase1}
use Rattle.group_terms.specs.declared.signatures.SignKind.{SignKind}
use Rattle.group_values.specs.Values.{Made, batches_made}
use Rattle.group_keys.specs.Replies.{IsKeyedOf}
use Rattle.group_model.specs.Answers.{is_open}
use Rattle.group_model.specs.Derivations.{replies_in}
use Rattle.group_model.specs.Growth.{IsReplyOf}
use Rattle.group_model.specs.Places.{Fits, IsValid, holders_at, is_member}
use Rattle.group_model.specs.Replies.{reply_at}
use Rattle.group_model.specs.Servers.{members_now}
use Rattle.group_model.specs.declared.entries.Answer.TheVariants.{Batched, Datagram}
use Rattle.group_model.specs.declared.entries.Asked.TheVariants.{Serve}
use Rattle.group_model.specs.declared.entries.Entry.{Entry}
use Rattle.group_model.specs.declared.entries.Output.{Output}
use Rattle.group_model.specs.declared.entries.SentReply.{SentReply}
use Rattle.group_model.specs.declared.entries.SymReply.{SymReply}
use Rattle.pull_msgs.specs.Sent.{IsSomeSecond}
use Rattle.pull_msgs.specs.Texts.{IsPullText, fourth_message, next_iv, pull_exchange, second_message}
use Rattle.pull_sessions.specs.Builds.{IsFourthOf}
use Rattle.pull_sessions.specs.Sessions.{AreApart, sa_of, sa_with, session_of}
use Rattle.pull_sessions.specs.declared.answers.Kept.{Kept}
use Rattle.pull_sessions.specs.declared.answers.Kept.TheVariants as kept
use Rattle.pull_sessions.specs.declared.answers.Step.TheVariants as steps
use Rattle.pull_sessions.specs.declared.sas.Sa.{Sa}
use Rattle.pull_sessions.specs.declared.sas.Session.{Session}
use Rattle.server_steps.specs.Hosts.{Host}
use Rattle.server_steps.specs.Pulls.{present_policy}
use Rattle.server_steps.specs.Steps.{IsServerStep}

-- ---- to the member of an SA

-- of a group with this kind of signatures, this depth, this SPI of pushes and these batches, since an epoch
module _ (kind : SignKind) (first depth : ℕ) (spi : List ℕ) (list : List Made) where
  -- a second message, with a nonce and the policies that the group had at an epoch
  pub record IsSecondTo (phase : Phase1) (octets : List ℕ) : Type 0 where
    pub epoch : ℕ
    pub within : epoch ≤ length list
    pub nr : List ℕ
    pub is_text : IsSomeSecond phase nr (present_policy spi kind (take epoch list)) octets

  -- a fourth message, which says this by key names: the keys that the member had at an epoch at which it was one
  pub record IsFourthTo (phase : Phase1) (octets : List ℕ) (says : SymReply) : Type 0 where
    pub to : says.member ≡ phase.member
    pub begun : 1 ≤ says.keyed_epoch
    pub late : first ≤ says.keyed_epoch
    pub within : says.keyed_epoch ≤ length list
    pub member : is_member (holders_at depth (batches_made list) says.keyed_epoch) says.member ≡ true
    pub names : says ≡ reply_at depth (batches_made list) says.keyed_epoch says.member
    pub keyed : Keyed
    pub keys : IsKeyedOf depth spi (take says.keyed_epoch list) says.member keyed
    pub message : List ℕ
    pub iv : List ℕ
    pub ni : List ℕ
    pub nr : List ℕ
    pub message_size : length message ≡ 4
    pub iv_size : length iv ≡ 16
    pub is_text : IsPullText phase iv (fourth_message message ni nr keyed) octets

  -- a message with key names is a fourth one; any other is a second
  abbrev pub IsMessageTo : Phase1 → List ℕ → Option SymReply → Type 0
  IsMessageTo phase octets None = IsSecondTo phase octets
  IsMessageTo phase octets (Some says) = IsFourthTo phase octets says

  -- A session keeps the fourth message of its own pull: it has that one's message id and nonces, and is written under the IV that its third message left (RFC
  -- 2409 appendix B).
  pub record IsOwnFourth (phase : Phase1) (session : Session) (octets : List ℕ) (says : SymReply) : Type 0 where
    pub message : IsFourthTo phase octets says
    pub own : IsFourthOf phase session session.iv message.keyed octets

  -- A session keeps the second message of its own pull: it has that one's message id and nonces, and its last block is the IV of the session's next message
  -- (RFC 2409 appendix B).
  pub record IsOwnSecond (phase : Phase1) (session : Session) (octets : List ℕ) : Type 0 where
    pub message : IsSecondTo phase octets
    pub iv : List ℕ
    pub own : IsPullText phase iv (second_message session.message session.ni session.nr (present_policy spi kind (take message.epoch list))) octets
    pub left : session.iv ≡ next_iv octets

  -- what a session keeps is a message of its own pull, if it is a datagram
  abbrev pub IsKeptTo : Phase1 → Session → Kept → Type 0
  IsKeptTo phase session (kept.Datagram octets None) = IsOwnSecond phase session octets
  IsKeptTo phase session (kept.Datagram octets (Some says)) = IsOwnFourth phase session octets says
  IsKeptTo phase session kept.Queued = Unit {0}

  -- an SA's session keeps one
  abbrev pub KeepsMessage : Sa → Type 0
  KeepsMessage sa = IfSome sa.session (λ (session : Session). IsKeptTo sa.phase session session.kept)

-- A message of a group stays one while batches come.
abbrev pub MessagesStay : Type 0
MessagesStay =
    (kind : SignKind) (first depth : ℕ) (spi : List ℕ) (list later : List Made) (phase : Phase1) (octets : List ℕ) (names : Option SymReply)
    → IsMessageTo kind first depth spi list phase octets names → IsMessageTo kind first depth spi (list ++ later) phase octets names

-- ---- of a server

-- a session that awaits a batch has a message id of 4 octets, and 16 octets as the IV of its fourth message
abbrev pub HasSizes : Session → Type 0
HasSizes session = session.step ≡ steps.Queued → (length session.message ≡ 4) × (length session.iv ≡ 16)

-- The tree has leaves, the batches are a valid list, and what waits fits after them; no two SAs have the same cookies or the same member, and each session that
-- awaits a batch has the sizes that its fourth message needs.
pub record IsSound {D : Type 0} (host : Host D) : Type 0 where
  pub deep : 1 ≤ host.server.depth
  pub valid : IsValid host.server.depth (batches_made host.server.list)
  pub fits : Fits (members_now host.server) host.server.queue
  pub apart : AreApart host.sessions.sas
  pub written : All (λ (sa : Sa). IfSome sa.session HasSizes) host.sessions.sas

module _ {D : Type 0} (kind : SignKind) (first : ℕ) (host : Host D) where
  -- a message to the member of an SA, by the group of a server
  abbrev pub IsMessageOf : Phase1 → List ℕ → Option SymReply → Type 0
  IsMessageOf phase octets names = IsMessageTo kind first host.server.depth host.head.spi host.server.list phase octets names

  -- what its sessions keep are messages to their members
  abbrev pub KeptAreMessages : Type 0
  KeptAreMessages = All (KeepsMessage kind first host.server.depth host.head.spi host.server.list) host.sessions.sas

-- by the batches that a server has now
module _ {D : Type 0} (kind : SignKind) (host : Host D) where
  -- that a message of the group is of the present epoch: a second one has the present policies, a fourth one names the keys of that epoch
  abbrev pub IsMessageNow : Phase1 → List ℕ → Option SymReply → Type 0
  IsMessageNow phase octets None = (nr : List ℕ) × IsSomeSecond phase nr (present_policy host.head.spi kind host.server.list) octets
  IsMessageNow phase octets (Some says) = says.keyed_epoch ≡ length host.server.list

  -- By the session that there was: the datagram that it took last is answered by what it keeps, octet for octet, any other by a message of the present epoch.
  abbrev pub IsAnswerNow : Option Session → Phase1 → List ℕ → List ℕ → Option SymReply → Type 0
  IsAnswerNow None phase datagram octets names = IsMessageNow phase octets names
  IsAnswerNow (Some session) phase datagram octets names =
      MatchBool (bytes_eq datagram session.last) (session.kept ≡ kept.Datagram octets names) (IsMessageNow phase octets names)

-- the session of a member keeps this datagram as its answer, with what that says by key names, if it is a fourth message
pub record KeepsSent (sas : List Sa) (m : Name) (octets : List ℕ) (names : Option SymReply) : Type 0 where
  pub session : Session
  pub is_there : session_of sas m ≡ Some session
  pub kept : session.kept ≡ kept.Datagram octets names

-- what a server sent since an epoch where it answered so, by which its host is this one then
module _ {D : Type 0} (kind : SignKind) (first : ℕ) (host : Host D) (entry : Entry) (next : Host D) where
  -- A datagram was answered by a message to the member of the SA whose cookies it has. The session of that member keeps it then, as the answer to that
  -- datagram.
  pub record AnswersPeer (datagram octets : List ℕ) (names : Option SymReply) : Type 0 where
    pub head : Header
    pub has_header : value_of (header pull_exchange (from_start 0 datagram)) ≡ Ok head
    pub sa : Sa
    pub is_there : sa_with host.sessions.sas head.cookies ≡ Some sa
    pub message : IsMessageOf kind first next sa.phase octets names
    pub now : IsAnswerNow kind next sa.session sa.phase datagram octets names
    pub keeps : KeepsSent next.sessions.sas sa.phase.member octets names
    pub last : keeps.session.last ≡ datagram

  -- a reply of a batch is a fourth message to the member of an SA, with the keys of the epoch that the batch made, and the session of that member keeps it then
  pub record RepliesToPeer (reply : SentReply) : Type 0 where
    pub sa : Sa
    pub is_there : sa_of host.sessions.sas reply.says.member ≡ Some sa
    pub message : IsMessageOf kind first next sa.phase reply.datagram (Some reply.says)
    pub now : reply.says.keyed_epoch ≡ length next.server.list
    pub keeps : KeepsSent next.sessions.sas reply.says.member reply.datagram (Some reply.says)

  -- each datagram that was sent is a message of the group, and each reply has the keys of a member
  pub record SendsMessages : Type 0 where
    pub answers : (m : Name) (datagram octets : List ℕ) (names : Option SymReply) → entry.asked ≡ Serve m datagram
        → entry.answer ≡ Datagram octets names → AnswersPeer datagram octets names
    pub replies : (output : Output) → entry.answer ≡ Batched output → All RepliesToPeer output.replies
    pub tells : (reply : SymReply) → Contains (replies_in entry.answer) reply → IsReplyOf next.server.depth first (batches_made next.server.list) reply

-- A sound server that keeps messages of its group goes on so, and sends no others. Once it was opened again, it keeps none.
abbrev pub MessagesAreOfTheGroup : {D G : Type 0} → DiskGhosts D → SignerGhosts G → G → (ℕ → List ℕ) → Type 0
MessagesAreOfTheGroup {D} d g signer block =
    (first : ℕ) (host : Host D) (entry : Entry) (next : Host D) → IsSound host → first ≤ length host.server.list
    → KeptAreMessages (g.kind_of signer) first host → IsServerStep d g signer block host entry next
    → IsSound next × KeptAreMessages (g.kind_of signer) first next
    × (is_open entry.answer ≡ true → (later : ℕ) → KeptAreMessages (g.kind_of signer) later next)
    × SendsMessages (g.kind_of signer) first host entry next
