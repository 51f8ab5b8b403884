-- What is known of the datagrams that are on their way to members (RFC 6407 section 3.2).
use Rattle.std.specs.Prelude.{◌≡◌, ℕ, List, length, map, All, Option, Some}
use Rattle.group_terms.specs.Changes.{joiners}
use Rattle.group_terms.specs.Names.{Name}
use Rattle.group_terms.specs.declared.signatures.SignKind.{SignKind}
use Rattle.group_model.specs.declared.entries.Answer.TheVariants.{Batched, Datagram}
use Rattle.group_model.specs.declared.entries.Asked.TheVariants.{Batch, Serve}
use Rattle.group_model.specs.declared.entries.Entry.{Entry}
use Rattle.group_model.specs.declared.entries.Output.{Output}
use Rattle.group_model.specs.declared.entries.Outside.{Outside}
use Rattle.group_model.specs.declared.entries.SentReply.{SentReply}
use Rattle.group_model.specs.declared.entries.SymReply.{SymReply}
use Rattle.group_peers.specs.Peers.{peer_of}
use Rattle.group_peers.specs.declared.members.Peer.{Peer}
use Rattle.pull_sessions.specs.Sessions.{session_of}
use Rattle.server_steps.specs.Hosts.{Host}
use Rattle.server_steps.specs.Messages.{IsAnswerNow, IsMessageOf, KeepsSent, KeptAreMessages}
use Rattle.member_steps.specs.Members.{Mail}
use Rattle.group_steps.specs.Devices.{Devices, Keying}
use Rattle.group_steps.specs.Runs.{Outset, Run, no_run}
use Rattle.group_steps.specs.Steps.{IsHistory, IsRunStep}

module _ {D : Type 0} (kind : SignKind) where
  -- octets are a message of the group to a member: a second one, or a fourth one with the keys that the member had at an epoch
  pub record IsSentTo (host : Host D) (peers : List Peer) (m : Name) (octets : List ℕ) (names : Option SymReply) : Type 0 where
    pub peer : Peer
    pub is_there : peer_of peers m ≡ Some peer
    pub message : IsMessageOf kind 0 host peer.phase octets names

  -- From one host to the next a member's datagram was answered by a message of the group to it. That is what its session kept, if it had taken this datagram
  -- last, and else a message of the present epoch. Its session keeps it from then on, as the answer to this datagram.
  pub record AnswersMember (host next : Host D) (peers : List Peer) (m : Name) (datagram octets : List ℕ) (names : Option SymReply) : Type 0 where
    pub message : IsSentTo next peers m octets names
    pub now : IsAnswerNow kind next (session_of host.sessions.sas m) message.peer.phase datagram octets names
    pub keeps : KeepsSent next.sessions.sas m octets names
    pub last : keeps.session.last ≡ datagram

  -- A reply of a batch, by which the host is this one, is a fourth message to its member, with the keys of the epoch that the batch made. The session of that
  -- member keeps it from then on.
  pub record RepliesToMember (next : Host D) (peers : List Peer) (reply : SentReply) : Type 0 where
    pub message : IsSentTo next peers reply.says.member reply.datagram (Some reply.says)
    pub now : reply.says.keyed_epoch ≡ length next.server.list
    pub keeps : KeepsSent next.sessions.sas reply.says.member reply.datagram (Some reply.says)

  -- the replies of a batch, by which the host is the next one, are such messages, one to each whose join waited, in that order
  pub record RepliesToWaiting (host next : Host D) (peers : List Peer) (replies : List SentReply) : Type 0 where
    pub each : All (RepliesToMember next peers) replies
    pub to : map (λ (reply : SentReply). reply.says.member) replies ≡ joiners host.server.queue

  -- each datagram on its way is one to whom it goes
  abbrev pub AreMessages : Run D → Type 0
  AreMessages run = All (λ (mail : Mail). (names : Option SymReply) × IsSentTo run.host run.members.all mail.0 mail.1 names) run.members.mail

-- So it is after each history, whatever its openings found.
abbrev pub MailIsOfTheGroup : {D G V : Type 0} → Devices D G V → Keying G → Type 0
MailIsOfTheGroup {D} on by =
    (outset : Outset D) (entries : List Entry) (after : Run D)
    → IsHistory on by (no_run outset) entries after → AreMessages (on.signers.kind_of by.signer) after

-- And what sessions keep are messages to their members, each of the session's own pull.
abbrev pub SessionsKeepMessages : {D G V : Type 0} → Devices D G V → Keying G → Type 0
SessionsKeepMessages {D} on by =
    (outset : Outset D) (entries : List Entry) (after : Run D)
    → IsHistory on by (no_run outset) entries after → KeptAreMessages (on.signers.kind_of by.signer) 0 after.host

-- And a datagram of a member is answered by a message to it, if by any: of the present epoch, or as kept for the datagram that came last.
abbrev pub MembersAreAnswered : {D G V : Type 0} → Devices D G V → Keying G → Type 0
MembersAreAnswered {D} on by =
    (outset : Outset D) (before : List Entry) (run : Run D) (m : Name) (datagram octets : List ℕ)
    (names : Option SymReply) (outside : Outside) (next : Run D) → IsHistory on by (no_run outset) before run
    → IsRunStep on by before run (record { asked = Serve m datagram; outside = outside; answer = Datagram octets names }) next
    → AnswersMember (on.signers.kind_of by.signer) run.host next.host next.members.all m datagram octets names

-- And each reply of a batch is a fourth message to its member, with the keys of the epoch that the batch made; they go to those whose joins waited.
abbrev pub RepliesAreMessages : {D G V : Type 0} → Devices D G V → Keying G → Type 0
RepliesAreMessages {D} on by =
    (outset : Outset D) (before : List Entry) (run : Run D) (output : Output) (outside : Outside) (next : Run D)
    → IsHistory on by (no_run outset) before run
    → IsRunStep on by before run (record { asked = Batch; outside = outside; answer = Batched output }) next
    → RepliesToWaiting (on.signers.kind_of by.signer) run.host next.host next.members.all output.replies
