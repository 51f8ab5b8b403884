-- What a key server may not refuse. It follows from its steps.
use Rattle.std.specs.Prelude.{◌≡◌, ◌⊎◌, ◌<◌, ◌≤◌, ◌^◌, ◌-◌, ℕ, true, false, List, length, Option, None, Some, IsSome, Result, Ok}
use Rattle.std.specs.Str.{bytes_eq}
use Rattle.gd_disk.specs.Moments.{shown}
use Rattle.gd_disk.specs.declared.disks.Disk.{Ghosts as DiskGhosts}
use Rattle.gd_edges.specs.declared.signers.Signer.{Ghosts as SignerGhosts}
use Rattle.gd_wire.specs.Headers.{header}
use Rattle.gd_wire.specs.Readings.{from_start, value_of}
use Rattle.gd_wire.specs.declared.headers.Header.{Header}
use Rattle.group_terms.specs.Changes.{is_pending}
use Rattle.group_terms.specs.Names.{Name}
use Rattle.group_model.specs.Places.{is_member}
use Rattle.group_model.specs.Refusals.{leaves_taken}
use Rattle.group_model.specs.Servers.{coming_sequence, members_now, present_epoch}
use Rattle.group_model.specs.declared.entries.Answer.{Answer}
use Rattle.group_model.specs.declared.entries.Answer.TheVariants.{Batched, Datagram, Done, Opened, Queued, Refused}
use Rattle.group_model.specs.declared.entries.Asked.TheVariants.{Batch, Leave, Reopen, Serve}
use Rattle.group_model.specs.declared.entries.Entry.{Entry}
use Rattle.group_model.specs.declared.entries.GroupSeen.{GroupSeen}
use Rattle.group_model.specs.declared.entries.Output.{Output}
use Rattle.group_model.specs.declared.entries.PushPair.{PushPair}
use Rattle.group_model.specs.declared.entries.Refusal.TheVariants.{NoMemory}
use Rattle.group_policy.specs.Judgements.{judgement}
use Rattle.group_policy.specs.declared.verdicts.Verdict.TheVariants.{Allowed}
use Rattle.pull_msgs.specs.Pulls.{IsAnswer, OrNoMemory as ReadsAs, first_awaited, third_awaited}
use Rattle.pull_msgs.specs.Texts.{pull_exchange}
use Rattle.pull_msgs.specs.declared.faults.PullFault.{PullFault}
use Rattle.pull_msgs.specs.declared.messages.First.{First}
use Rattle.pull_msgs.specs.declared.messages.Third.{Third}
use Rattle.pull_sessions.specs.Sessions.{sa_with}
use Rattle.pull_sessions.specs.declared.answers.Step.TheVariants.{AwaitsThird}
use Rattle.pull_sessions.specs.declared.sas.Sa.{Sa}
use Rattle.pull_sessions.specs.declared.sas.Session.{Session}
use Rattle.server_steps.specs.Hosts.{Host}
use Rattle.server_steps.specs.Pulls.{reply_now}
use Rattle.server_steps.specs.Refusals.{names_group}
use Rattle.server_steps.specs.Steps.{IsServerStep}

-- this is answered, or memory is short
abbrev pub OrNoMemory : Answer → Type 0 → Type 0
OrNoMemory answer due = due ⊎ (answer ≡ Refused NoMemory)

-- a datagram has the header of a pull, with the cookies of this SA, which is a member's
pub record ComesFrom {D : Type 0} (host : Host D) (m : Name) (sa : Sa) (head : Header) (datagram : List ℕ) : Type 0 where
  pub has_header : value_of (header pull_exchange (from_start 0 datagram)) ≡ Ok head
  pub found : sa_with host.sessions.sas head.cookies ≡ Some sa
  pub member : sa.phase.member ≡ m

-- The rules allow a member, no change of it waits, and the group does not have to be opened again.
pub record IsWelcome {D : Type 0} (host : Host D) (m : Name) : Type 0 where
  pub open_now : host.server.needs_reopen ≡ false
  pub rule : ℕ
  pub allowed : judgement host.rules m ≡ Allowed rule
  pub idle : is_pending host.server.queue m ≡ false

-- the session of an SA, if it has one, has another message id, and took another datagram last
abbrev pub IsNewIn : Option Session → List ℕ → List ℕ → Type 0
IsNewIn None message datagram = Unit {0}
IsNewIn (Some session) message datagram = (bytes_eq datagram session.last ≡ false) × (bytes_eq message session.message ≡ false)

-- A datagram of a member is read, unless memory runs out, as a first message for this group, with a new message id.
pub record IsDueFirst {D : Type 0} (host : Host D) (m : Name) (datagram : List ℕ) : Type 0 where
  pub sa : Sa
  pub head : Header
  pub from : ComesFrom host m sa head datagram
  pub fresh : IsNewIn sa.session head.message datagram
  pub first : First
  pub reads : (answer : Result First PullFault) → IsAnswer sa.phase (first_awaited sa.phase) datagram answer → ReadsAs answer (Ok first)
  pub group : names_group host.head.name first ≡ true

-- A datagram of a member is read, unless memory runs out, as the third message that its session awaits.
pub record IsDueThird {D : Type 0} (host : Host D) (m : Name) (datagram : List ℕ) : Type 0 where
  pub sa : Sa
  pub head : Header
  pub from : ComesFrom host m sa head datagram
  pub session : Session
  pub has : sa.session ≡ Some session
  pub awaits : session.step ≡ AwaitsThird
  pub fresh : bytes_eq datagram session.last ≡ false
  pub of_session : bytes_eq head.message session.message ≡ true
  pub third : Third
  pub reads : (answer : Result Third PullFault) → IsAnswer sa.phase (third_awaited session.message session.iv session.ni session.nr) datagram answer
      → ReadsAs answer (Ok third)

-- After the next batch a leaf will be free for one more, and that batch, which has at most 32 changes, has room for one more.
pub record HasRoom {D : Type 0} (host : Host D) : Type 0 where
  pub leaf : leaves_taken host.server.depth (members_now host.server) host.server.queue < 2 ^ host.server.depth
  pub change : length host.server.queue < 32

-- The group does not have to be opened again, this is a member, no change of it waits, and the next batch has room for one more change.
pub record IsDueLeave {D : Type 0} (host : Host D) (m : Name) : Type 0 where
  pub open_now : host.server.needs_reopen ≡ false
  pub member : is_member (members_now host.server) m ≡ true
  pub idle : is_pending host.server.queue m ≡ false
  pub change : length host.server.queue < 32

-- The group does not have to be opened again, and after the next batch neither the epoch nor the number of the last push passes the limit.
pub record IsDueBatch {D : Type 0} (host : Host D) : Type 0 where
  pub open_now : host.server.needs_reopen ≡ false
  pub epoch : present_epoch host.server < host.server.limit
  pub number : coming_sequence host.server ≤ host.server.limit

module _ {D G : Type 0} (d : DiskGhosts D) (g : SignerGhosts G) (signer : G) (block : ℕ → List ℕ) where
  -- The first message of somebody who is welcome is answered by the second one.
  abbrev pub FirstIsAnswered : Type 0
  FirstIsAnswered =
      (host : Host D) (m asker : Name) (datagram : List ℕ) (entry : Entry) (next : Host D) → IsWelcome host m → IsDueFirst host m datagram
      → entry.asked ≡ Serve asker datagram → IsServerStep d g signer block host entry next
      → OrNoMemory entry.answer ((second : List ℕ) × (entry.answer ≡ Datagram second None))

  -- The third message of a member is answered by the fourth one; of anybody else the join waits, where tree and batch have room for it.
  abbrev pub ThirdIsAnswered : Type 0
  ThirdIsAnswered =
      (host : Host D) (m asker : Name) (datagram : List ℕ) (entry : Entry) (next : Host D) → IsWelcome host m → IsDueThird host m datagram
      → entry.asked ≡ Serve asker datagram → IsServerStep d g signer block host entry next
      → (is_member (members_now host.server) m ≡ true →
      OrNoMemory entry.answer ((fourth : List ℕ) × (entry.answer ≡ Datagram fourth (Some (reply_now host.server m)))))
      × (is_member (members_now host.server) m ≡ false → HasRoom host → OrNoMemory entry.answer (entry.answer ≡ Queued))

  -- The leave of a member of whom no change waits is granted, where the batch has room for it.
  abbrev pub LeaveIsGranted : Type 0
  LeaveIsGranted =
      (host : Host D) (m : Name) (entry : Entry) (next : Host D) → IsDueLeave host m
      → entry.asked ≡ Leave m → IsServerStep d g signer block host entry next → entry.answer ≡ Done

  -- the disk counted no fault, and its count is not at its last value
  pub record IsFaultless (old new : D) : Type 0 where
    pub same : d.faults new ≡ d.faults old
    pub countable : d.faults old < 2 ^ 64 - 1

  -- A batch within the group's limit is made, unless the disk counts a fault.
  abbrev pub BatchIsMade : Type 0
  BatchIsMade =
      (host : Host D) (entry : Entry) (next : Host D) → IsDueBatch host → IsFaultless host.disk next.disk
      → entry.asked ≡ Batch → IsServerStep d g signer block host entry next
      → OrNoMemory entry.answer ((output : Output) × (entry.answer ≡ Batched output))

  -- On an honest disk that exposes its octets a group is opened again, unless the disk counts a fault.
  abbrev pub ReopeningIsMade : Type 0
  ReopeningIsMade =
      (host : Host D) (entry : Entry) (next : Host D) → IsSome (shown d host.disk) → IsFaultless host.disk next.disk
      → entry.asked ≡ Reopen → IsServerStep d g signer block host entry next
      → OrNoMemory entry.answer ((seen : GroupSeen) × (resent : Option PushPair) × (entry.answer ≡ Opened seen resent))
