-- What the console promises of its run.
use Rattle.std.specs.Prelude.{◌≡◌, ◌⊎◌, ℕ, ◌≤◌, Bool, true, false, List, [], ◌∷◌, ◌++◌, length, Option, None, Some}
use Rattle.command_words.specs.declared.commands.Command.{Command}
use Rattle.command_words.specs.declared.commands.Opening.{Opening}
use Rattle.command_words.specs.declared.commands.Opening.TheVariants.{New, Open, Soak}
use Rattle.gd_disk.specs.Moments.{shown}
use Rattle.gd_edges.specs.Shown.{Shown}
use Rattle.group_terms.specs.Faults.{Rose}
use Rattle.group_terms.specs.Names.{Name}
use Rattle.group_values.specs.Values.{Made}
use Rattle.group_model.specs.Answers.{is_open}
use Rattle.group_model.specs.Places.{IsValid}
use Rattle.rekey_plan.specs.WrapCounts.{most_wraps}
use Rattle.group_model.specs.declared.entries.Answer.TheVariants.{Batched, Datagram}
use Rattle.group_model.specs.declared.entries.Asked.{Asked}
use Rattle.group_model.specs.declared.entries.Asked.TheVariants.{Batch, Begin, Create, Serve}
use Rattle.group_model.specs.declared.entries.Entry.{Entry}
use Rattle.group_model.specs.declared.entries.Output.{Output}
use Rattle.group_model.specs.declared.entries.Outside.{Outside}
use Rattle.group_model.specs.declared.entries.SymReply.{SymReply}
use Rattle.group_records.specs.declared.heads.Head.{Head}
use Rattle.gcks_core.specs.Stored.{stored_list}
use Rattle.server_steps.specs.Messages.{KeptAreMessages}
use Rattle.tree_store.specs.Groups.{IsGroup}
use Rattle.group_steps.specs.Counts.{CountsFaults, faults_in}
use Rattle.group_steps.specs.Crashes.{LeavesMoments}
use Rattle.group_steps.specs.Devices.{Devices, Keying}
use Rattle.group_steps.specs.Laws.{IsSure}
use Rattle.group_steps.specs.Moments.{IsMoment, IsTrueMoment}
use Rattle.group_steps.specs.Mails.{AnswersMember, AreMessages, RepliesToWaiting}
use Rattle.group_steps.specs.Runs.{Run, no_run, outset_of}
use Rattle.group_steps.specs.Steps.{AreRunSteps, IsHistory, IsRunStep}
use Rattle.group_steps.specs.TrueSteps.{batches_in}
use Rattle.law_member_roots.specs.Groups.{Checks}
use Rattle.sym_closure.specs.Secrecy.{MembersDerive, NoOthersDerive, NobodyDerivesYet}
use Rattle.script_text.specs.Report.{entries_text}
use Rattle.script_text.specs.Soak.{soak_script}
use Rattle.run_report.specs.declared.endings.Ending.{Ending}
use Rattle.run_report.specs.declared.endings.Ending.TheVariants.{Whole, NoGroup, Memory, NotOpened}
use Rattle.console_run.specs.Following.{KeepsReplies, StoresFollow}
use Rattle.console_run.specs.Memory.{EndsWithoutMemory}
use Rattle.console_run.specs.Names.{console_name}
use Rattle.console_run.specs.OwnFourths.{TakesOwnFourths}
use Rattle.console_run.specs.Serving.{ServesAlong}
use Rattle.console_run.specs.Blocks.{AreLines}
use Rattle.console_run.specs.Scripts.{script_lines}
use Rattle.console_run.specs.Causes.{CameFrom, CauseOf, Given, IsInParts, SourceAt}
use Rattle.run_report.specs.Reports.{LastLineEnds, Puts, SummaryEnds}
use Rattle.console_run.specs.Breaks.{LineBreaksOff}

-- the depth of the tree of a soak
abbrev pub soak_depth : ℕ
soak_depth = 7

-- the opening that a command asks for
abbrev pub request_of : Opening → Asked
request_of (New depth) = Create depth
request_of (Soak number) = Create soak_depth
request_of Open = Begin

-- whether an opening is followed by the script of a source
abbrev pub is_followed : Opening → Bool
is_followed (Soak number) = false
is_followed opening = true

-- whether words ask for a run of that
abbrev pub reads_source : Option Command → Bool
reads_source None = false
reads_source (Some command) = is_followed command.opening

-- how many phase 1 SAs may be introduced
abbrev pub most_phases : ℕ
most_phases = 1024

-- before the opening: the disk as it was, and the draws of the server and of the members at these places
abbrev pub start_of : {D : Type 0} → Command → D → ℕ → ℕ → Run D
start_of command disk place members_place = no_run (outset_of disk console_name command.limit place members_place most_phases)

-- what the source gave, the source before and after, and the sink likewise
pub record Streams : Type 0 where
  pub given : Given
  pub source_before : Shown
  pub source_after : Shown
  pub sink_before : Shown
  pub sink_after : Shown

-- the streams of a run: what the source gave, the source before and after it, and the sink before and after it
abbrev pub streams_of : Given → Shown → Shown → Shown → Shown → Streams
streams_of given had left was now = record { given = given; source_before = had; source_after = left; sink_before = was; sink_after = now }

-- the source exposes what it has, and that is a script of the grammar
abbrev pub ShowsScript : Option (List ℕ) → Type 0
ShowsScript None = ⊥
ShowsScript (Some octets) = AreLines (script_lines octets)

-- the source of a soak: its script
abbrev pub soak_source : ℕ → Shown
soak_source number = record { octets = Some (soak_script number); faults = 0 }

-- a report that nobody keeps
abbrev pub no_report : Shown
no_report = record { octets = None; faults = 0 }

-- how the script of a soak may end: whole, out of memory, or since no group could be made
abbrev pub EndsSoak : Ending → Type 0
EndsSoak Whole = Unit {0}
EndsSoak Memory = Unit {0}
EndsSoak NotOpened = Unit {0}
EndsSoak ending = ⊥

module _ {D G V : Type 0} (on : Devices D G V) (by : Keying G) where
  -- ---- report and ending

  -- The whole history was reported, and then the last line of the ending that was due. Where that line broke off, the run ended because the
  -- sink failed or memory ran out.
  pub record IsEnded (workers : ℕ) (streams : Streams) (request : Asked) (start : Run D) (ending : Ending) (entries : List Entry) (after : Run D) : Type 0 where
    pub due : Ending
    pub cause : CauseOf on by workers streams.given request start due entries after
    pub source : SourceAt due streams.source_before.faults streams.source_after.faults
    pub middle : Shown
    pub report : Puts streams.sink_before middle (entries_text entries)
    pub last : LastLineEnds due ending middle streams.sink_after

  -- The report of the history broke off in the last entry that the opening or the line begun last gave, or, where that ended a block, in any entry of the block;
  -- all before that was reported. There is no last line.
  pub record IsBroken (workers : ℕ) (streams : Streams) (request : Asked) (start : Run D) (ending : Ending) (entries : List Entry) (after : Run D) : Type 0 where
    pub history : IsInParts on by workers streams.given request start entries after
    pub source : streams.source_after.faults ≡ streams.source_before.faults
    pub middle : Shown
    pub report : Puts streams.sink_before middle (entries_text history.done)
    pub breaks : LineBreaksOff ending middle streams.sink_after history.more

  -- ---- completeness

  -- a group is made, or the disk exposes the journal of one
  abbrev pub CanOpen : Opening → D → Type 0
  CanOpen (New depth) disk = Unit {0}
  CanOpen (Soak number) disk = Unit {0}
  CanOpen Open disk = (file : List ℕ) × (shown on.disks disk ≡ Some file) × (head : Head) × (list : List Made) × IsGroup file head (stored_list head.depth list)

  -- what there must be so that the whole script is run, as far as memory goes: a group that can be opened, a script, and no fault
  pub record CanRun (streams : Streams) (opening : Opening) (old new : D) : Type 0 where
    pub group : CanOpen opening old
    pub script : ShowsScript streams.source_before.octets
    pub source : Rose streams.source_before.faults streams.source_after.faults → ⊥
    pub sink : Rose streams.sink_before.faults streams.sink_after.faults → ⊥
    pub disk : Rose (on.disks.faults old) (on.disks.faults new) → ⊥

  -- ---- crashes

  -- The first entry is that of the opening. Where that opened the group, and the disk is honest and exposes its octets, then from any place of the history on
  -- a crash leaves the journal as it was at some moment from that place on, with all batches that were stored up to there, and perhaps with the one that is
  -- being written.
  pub record LeavesMomentsAfterOpening (start : Run D) (entries : List Entry) (after : Run D) : Type 0 where
    pub first : Entry
    pub later : List Entry
    pub parts : entries ≡ first ∷ later
    pub opened : Run D
    pub step : IsRunStep on by [] start first opened
    pub steps : AreRunSteps on by (first ∷ []) opened later after
    pub moments : is_open first.answer ≡ true → (front rest : List Entry) (middle : Run D) → later ≡ front ++ rest
        → AreRunSteps on by (first ∷ []) opened front middle → AreRunSteps on by (first ∷ front) middle rest after
        → LeavesMoments on by (first ∷ front) middle rest after

  -- ---- all of it

  -- Of a run that a command asked for: what came of source and sink, how it ended, its history, the disk before it, and the disk after it.
  pub record PromisesRun (streams : Streams) (command : Command) (place members_place : ℕ) (ending : Ending) (entries : List Entry) (old new : D) : Type 0 where
    -- the run after the history, which has the disk
    pub after : Run D
    pub disk : after.host.disk ≡ new
    -- History, report and ending belong together. That memory ran out is taken on the console's word.
    pub run : IsEnded command.workers streams (request_of command.opening) (start_of command old place members_place) ending entries after
        ⊎ IsBroken command.workers streams (request_of command.opening) (start_of command old place members_place) ending entries after
    -- Where a group is made, or the disk exposes the journal of one, the source exposes a script, and nothing fails, all lines are run, or memory ran out.
    pub complete : CanRun streams command.opening old new → (ending ≡ Whole) ⊎ (ending ≡ Memory)
    -- Each entry is a step, from the opening on: of the server, its disk and its draws, of the members and their stores. So each push is the text of its batch,
    -- and each refusal but `NoMemory` has its cause, as far as the disk shows it.
    pub history : IsHistory on by (start_of command old place members_place) entries after
    -- Where memory ran out for an entry, nothing more was asked, but for what ended its block.
    pub memory : EndsWithoutMemory false entries
    -- At each moment each batch fits the tree that the batches before it left, whatever openings read. One that is in doubt is not counted.
    pub valid : (front : List Entry) (mid : Run D) → IsMoment on by (start_of command old place members_place) entries after front mid
        → IsValid mid.host.server.depth (batches_in mid)
    -- By key names: from all that the batches of a moment could ever send, and all that they could ever give to some names, these derive the traffic key of
    -- an epoch only if one of them is a member of it (RFC 6407 section 7.4).
    pub secrecy : (front : List Entry) (mid : Run D) → IsMoment on by (start_of command old place members_place) entries after front mid
        → NoOthersDerive mid.host.server.depth (batches_in mid)
    -- And nobody derives that of an epoch to come. Nothing is said of guessing what is drawn.
    pub to_come : (front : List Entry) (mid : Run D) → IsMoment on by (start_of command old place members_place) entries after front mid
        → NobodyDerivesYet mid.host.server.depth (batches_in mid)
    -- A member at each epoch from one to another derives the traffic key of the second from what it may be told at the first, whether it was told or not, by
    -- the encryptions since.
    pub members : (front : List Entry) (mid : Run D) → IsMoment on by (start_of command old place members_place) entries after front mid
        → 1 ≤ mid.host.server.depth
        → MembersDerive mid.host.server.depth (batches_in mid)
    -- A batch encrypts two keys at most for the root and for each position between it and a changed leaf, and the traffic key. Replies are not counted.
    pub few_wraps : (front : List Entry) (mid : Run D) (output : Output) (outside : Outside) (next : Run D)
        → IsMoment on by (start_of command old place members_place) entries after front mid
        → IsRunStep on by front mid (record { asked = Batch; outside = outside; answer = Batched output }) next
        → length output.wraps ≤ most_wraps mid.host.server.depth (length mid.host.server.queue)
    -- Where the disk is honest and exposes its octets, or nothing was opened again up to a moment, each opening again found the group that there was.
    pub sure : (front : List Entry) (mid : Run D) → IsMoment on by (start_of command old place members_place) entries after front mid
        → IsSure on.disks old front
        → IsTrueMoment on by (start_of command old place members_place) entries after front mid
    -- From any opening on, as long as each later one found the group that there was: what was sent since leads nobody but members to a traffic key, and
    -- leads there each who was sent a reply since and stayed.
    pub serves : ServesAlong on by (start_of command old place members_place) entries after
    -- A datagram of a member is answered by a message to it, if by any. One that its session took last is answered by what that keeps, octet for octet. Any
    -- other is answered by a message of the present epoch: a second one with the present policies, or a fourth one with the keys that the member has now. Its
    -- session keeps what was answered, as the answer to that datagram.
    pub pulls : (front : List Entry) (mid : Run D) (m : Name) (datagram octets : List ℕ) (names : Option SymReply) (outside : Outside) (next : Run D)
        → IsMoment on by (start_of command old place members_place) entries after front mid
        → IsRunStep on by front mid (record { asked = Serve m datagram; outside = outside; answer = Datagram octets names }) next
        → AnswersMember (on.signers.kind_of by.signer) mid.host next.host next.members.all m datagram octets names
    -- Each reply of a batch is such a fourth message, with the keys of the epoch that the batch made, and is kept so. There is one for each whose join
    -- waited, in that order.
    pub batch_replies : (front : List Entry) (mid : Run D) (output : Output) (outside : Outside) (next : Run D)
        → IsMoment on by (start_of command old place members_place) entries after front mid
        → IsRunStep on by front mid (record { asked = Batch; outside = outside; answer = Batched output }) next
        → RepliesToWaiting (on.signers.kind_of by.signer) mid.host next.host next.members.all output.replies
    -- At each moment the datagram that the session of a member keeps, if it keeps one, is a message of the group to the member, and one of that session's own
    -- pull.
    pub sessions_keep : (front : List Entry) (mid : Run D) → IsMoment on by (start_of command old place members_place) entries after front mid
        → KeptAreMessages (on.signers.kind_of by.signer) 0 mid.host
    -- At each moment each datagram that is on its way is a message to whom it goes: a second one with policies, or a fourth one with keys, of some epoch.
    pub mail : (front : List Entry) (mid : Run D) → IsMoment on by (start_of command old place members_place) entries after front mid
        → AreMessages (on.signers.kind_of by.signer) mid
    -- A datagram that a member takes went missing, or is a fourth message: then the member has its keys, unless its store has later ones. Supposed is that
    -- it has no store yet, or one of the group.
    pub replies : KeepsReplies on by (start_of command old place members_place) entries after
    -- A member whose pull is in step with its session can keep the fourth message that the session keeps, and does not ignore it. It has its keys then, unless
    -- its store has later ones or the datagram goes missing. Supposed is that they are in step, and that it has no store yet, or one of the group.
    pub own_fourths : TakesOwnFourths on by (start_of command old place members_place) entries after
    -- As long as each opening again found the group that there was, and where the verifier accepts what the signer signs: a store of the group takes the pushes
    -- that are due to it, and, where keys are apart, refuses all others that were sent.
    pub stores : Checks on.signers by.signer on.verifiers on.verifier → StoresFollow on by (start_of command old place members_place) entries after
    -- nothing was done at all, or a crash leaves the journal of some moment of the history
    pub crash : (entries ≡ []) ⊎ LeavesMomentsAfterOpening (start_of command old place members_place) entries after
    -- the disk counts at least one fault for each that is noted, as far as its count goes, and none where none is
    pub faults : CountsFaults on.disks (faults_in entries) old new

  -- The soak of a number: the source is untouched. Its script is run as any other is, but for the report. That is the summary of the history, and then the last
  -- line of the ending that was due.
  pub record PromisesSoak (number : ℕ) (streams : Streams) (command : Command) (place members_place : ℕ) (ending : Ending) (entries : List Entry) (old new : D) :
      Type 0 where
    pub none_taken : streams.given.taken ≡ []
    pub source : streams.source_after ≡ streams.source_before
    pub given : Given
    pub left : Shown
    pub came : CameFrom (Some (soak_script number)) left.octets given
    pub due : Ending
    pub ends : EndsSoak due
    pub run : PromisesRun (streams_of given (soak_source number) left no_report no_report) command place members_place due entries old new
    pub last : SummaryEnds number entries due ending streams.sink_before streams.sink_after

  -- by the opening that is asked for
  abbrev pub PromisesBy : Opening → Streams → Command → ℕ → ℕ → Ending → List Entry → D → D → Type 0
  PromisesBy (Soak number) streams command place members_place ending entries old new =
      PromisesSoak number streams command place members_place ending entries old new
  PromisesBy opening streams command place members_place ending entries old new = PromisesRun streams command place members_place ending entries old new

  -- words that ask for no group: source and disk are untouched, and there is only a last line
  pub record PromisesNothing (streams : Streams) (ending : Ending) (entries : List Entry) (old new : D) : Type 0 where
    pub none_taken : streams.given.taken ≡ []
    pub source : streams.source_after ≡ streams.source_before
    pub disk : new ≡ old
    pub nothing : entries ≡ []
    pub last : LastLineEnds NoGroup ending streams.sink_before streams.sink_after

  -- by what the words ask for
  abbrev pub PromisesOf : Option Command → Streams → ℕ → ℕ → Ending → List Entry → D → D → Type 0
  PromisesOf None streams place members_place ending entries old new = PromisesNothing streams ending entries old new
  PromisesOf (Some command) streams place members_place ending entries old new =
      PromisesBy command.opening streams command place members_place ending entries old new

  -- the octets that were taken are the source's, and the rest is as promised
  pub record Promises (asked : Option Command) (streams : Streams) (place members_place : ℕ) (ending : Ending) (entries : List Entry) (old new : D) : Type 0
    where
      pub came : CameFrom streams.source_before.octets streams.source_after.octets streams.given
      pub promised : PromisesOf asked streams place members_place ending entries old new
