-- What follows from how a run ended.
use Rattle.std.proofs.Common.{◌≡◌, ◌∙◌, ◌⊎◌, ℕ, true, List, [], ◌∷◌, refl, ap, subst, inl, inr}
use Rattle.gd_disk.specs.declared.disks.Disk.{Ghosts as DiskGhosts}
use Rattle.gd_edges.specs.Shown.{Shown}
use Rattle.group_terms.specs.Faults.{Rose}
use Rattle.command_words.specs.declared.commands.Command.{Command}
use Rattle.command_words.specs.declared.commands.Opening.{Opening}
use Rattle.command_words.specs.declared.commands.Opening.TheVariants.{New, Open, Soak}
use Rattle.group_model.specs.Answers.{opens}
use Rattle.group_model.specs.declared.entries.Answer.{Answer}
use Rattle.group_model.specs.declared.entries.Answer.TheVariants.{Refused}
use Rattle.group_model.specs.declared.entries.Asked.{Asked}
use Rattle.group_model.specs.declared.entries.Entry.{Entry}
use Rattle.group_model.specs.declared.entries.Outside.{Outside}
use Rattle.group_model.specs.declared.entries.Refusal.{Refusal}
use Rattle.group_model.specs.declared.entries.Refusal.TheVariants.{DiskFault}
use Rattle.group_records.specs.declared.batches.Stored.{Stored}
use Rattle.group_records.specs.declared.heads.Head.{Head}
use Rattle.tree_store.specs.Groups.{IsGroup, IsNoGroup}
use Rattle.group_steps.specs.Crashes.{CrashesLeaveMoments, OpenedHaveJournals}
use Rattle.server_steps.specs.Disks.{Counts}
use Rattle.server_steps.specs.Hosts.{Host}
use Rattle.server_steps.specs.Openings.{IsBeginning, IsCreation}
use Rattle.server_steps.specs.Outsides.{beside_refusal}
use Rattle.group_steps.specs.Runs.{Run}
use Rattle.group_steps.specs.Steps.{IsAnswered, IsHistory}
use Rattle.run_report.specs.declared.endings.Ending.{Ending}
use Rattle.run_report.specs.declared.endings.Ending.TheVariants.{Whole, NoGroup, BadLine, Source, Sink, Memory, NotOpened}
use Rattle.group_steps.specs.Devices.{Devices, Keying}
use Rattle.console_run.specs.Causes.{CameFrom, CannotOpen, CauseOf, EndsUnopened, SourceAt}
use Rattle.run_report.specs.Reports.{BreaksOff}
use Rattle.console_run.specs.Promises.{CanOpen, CanRun, IsBroken, IsEnded, LeavesMomentsAfterOpening, ShowsScript, Streams, request_of, soak_depth, start_of}
use Rattle.console_run.proofs.FaultyLineLemmas.{no_faulty_line}
use Rattle.console_run.proofs.HistoryLemmas.{HasRun, cause_history, parts_history}

-- a command asks for an opening
pub opens_group : (opening : Opening) → opens (request_of opening) ≡ true
opens_group (New depth) = refl
opens_group (Soak number) = refl
opens_group Open = refl

-- a fault that is noted was counted
rose_where_noted : {D : Type 0} (d : DiskGhosts D) (host : Host D) (outside : Outside) (why : Refusal) (old new : D) → outside ≡ beside_refusal host why
    → why ≡ DiskFault → Counts d outside.disk_failed old new → Rose (d.faults old) (d.faults new)
rose_where_noted d host outside why old new beside fault counts =
    subst (λ failed. Counts d failed old new) (ap (λ (outside : Outside). outside.disk_failed) (beside ∙ ap (beside_refusal host) fault)) counts

module _ {D G V : Type 0} (on : Devices D G V) (by : Keying G) where
  -- however a run ends, its history is one of steps, and nothing more was asked where memory ran out
  pub ran_history : (workers : ℕ) (request : Asked) (start : Run D) → opens request ≡ true → (streams : Streams) (ending : Ending) (entries : List Entry) (after : Run D)
      → IsEnded on by workers streams request start ending entries after ⊎ IsBroken on by workers streams request start ending entries after
      → HasRun on by start entries after
  ran_history workers request start opening streams ending entries after (inl h) = cause_history on by workers request opening start streams.given h.due entries after h.cause
  ran_history workers request start opening streams ending entries after (inr h) = parts_history on by workers request opening start streams.given entries after h.history

  -- ---- a group that could be opened was

  -- a law that the store promises
  abbrev IsOneOrOther : Type 0
  IsOneOrOther = (file : List ℕ) (head : Head) (list : List Stored) (at : ℕ) → IsGroup file head list → IsNoGroup file at → ⊥

  create_fails : (depth : ℕ) (start : Host D) (answer : Answer) (outside : Outside) (after : Host D) (why : Refusal) → answer ≡ Refused why → CannotOpen why
      → IsCreation on.disks by.block depth start answer outside after → Counts on.disks outside.disk_failed start.disk after.disk
      → Rose (on.disks.faults start.disk) (on.disks.faults after.disk)
  create_fails depth start answer outside after why refused cannot h counts = elim h.ends [
    | inl makes ↦ cc (makes.answers, refused)
    | inr fails ↦ elim fails.causes [
      | inl fault ↦ rose_where_noted on.disks start outside fails.why start.disk after.disk fails.beside fault counts
      | inr memory ↦ elim cannot [ inl disk ↦ cc (memory.0, fails.answers, refused, disk) | inr journal ↦ cc (memory.0, fails.answers, refused, journal.1) ]
    ]
  ]

  begin_fails : IsOneOrOther → (start : Host D) (answer : Answer) (outside : Outside) (after : Host D) (why : Refusal) → answer ≡ Refused why → CannotOpen why
      → CanOpen on by Open start.disk
      → IsBeginning on.disks on.signers by.signer start answer outside after → Counts on.disks outside.disk_failed start.disk after.disk
      → Rose (on.disks.faults start.disk) (on.disks.faults after.disk)
  begin_fails other start answer outside after why refused cannot can h counts = elim h.ends [
    | inl begins ↦ cc (begins.finds.answers, refused)
    | inr fails ↦ elim fails.causes [
      | inl fault ↦ rose_where_noted on.disks start outside fails.why start.disk after.disk fails.beside fault counts
      | inr more ↦ elim more [
        | inl memory ↦ elim cannot [ inl disk ↦ cc (memory, fails.answers, refused, disk) | inr journal ↦ cc (memory, fails.answers, refused, journal.1) ]
        | inr none ↦ absurd (other can.0 can.2 _ none.0 can.4 (none.2 can.0 can.1).0)
      ]
    ]
  ]

  -- it was refused for a fault alone
  fails : IsOneOrOther → (opening : Opening) (start : Run D) (entry : Entry) (after : Run D) (why : Refusal) → entry.answer ≡ Refused why → CannotOpen why
      → CanOpen on by opening start.host.disk
      → IsAnswered on by [] (request_of opening) start entry.answer entry.outside after
      → Counts on.disks entry.outside.disk_failed start.host.disk after.host.disk
      → Rose (on.disks.faults start.host.disk) (on.disks.faults after.host.disk)
  fails other (New depth) start entry after why refused cannot can h counts =
      create_fails depth start.host entry.answer entry.outside after.host why refused cannot h.opens counts
  fails other (Soak number) start entry after why refused cannot can h counts =
      create_fails soak_depth start.host entry.answer entry.outside after.host why refused cannot h.opens counts
  fails other Open start entry after why refused cannot can h counts =
      begin_fails other start.host entry.answer entry.outside after.host why refused cannot can h.opens counts

  -- ---- endings

  -- the source has a script, and neither it nor the sink failed
  module _ (streams : Streams) (command : Command) (place members_place : ℕ) (old : D) (entries : List Entry) (after : Run D)
      (came : CameFrom streams.source_before.octets streams.source_after.octets streams.given) (script : ShowsScript streams.source_before.octets)
      (source : Rose streams.source_before.faults streams.source_after.faults → ⊥) (sink : Rose streams.sink_before.faults streams.sink_after.faults → ⊥) where
    -- an ending that is due then; the last of them for this reason
    abbrev pub Ends : Ending → Type 0
    Ends ending = ((ending ≡ Whole) ⊎ (ending ≡ Memory))
        ⊎ ((ending ≡ NotOpened) × EndsUnopened on by command.workers streams.given (request_of command.opening) (start_of command old place members_place) entries after)

    breaks : (ending : Ending) (middle : Shown) (text : List ℕ) → middle.faults ≡ streams.sink_before.faults → BreaksOff ending middle streams.sink_after text
        → Ends ending
    breaks Whole middle text same h = inl (inl refl)
    breaks NoGroup middle text same h = absurd h
    breaks (BadLine line) middle text same h = absurd h
    breaks Source middle text same h = absurd h
    breaks Sink middle text same h = absurd (sink (subst (λ faults. Rose faults streams.sink_after.faults) same h.0))
    breaks Memory middle text same h = inl (inr refl)
    breaks NotOpened middle text same h = absurd h

    due_one : (due : Ending) → CauseOf on by command.workers streams.given (request_of command.opening) (start_of command old place members_place) due entries after
        → SourceAt due streams.source_before.faults streams.source_after.faults → Ends due
    due_one Whole cause faults = inl (inl refl)
    due_one NoGroup cause faults = absurd cause
    due_one (BadLine line) cause faults =
        absurd (no_faulty_line on by command.workers streams.given (request_of command.opening)
        (start_of command old place members_place) line entries after streams.source_before.octets streams.source_after.octets
        script came cause)
    due_one Source cause faults = absurd (source faults)
    due_one Sink cause faults = absurd cause
    due_one Memory cause faults = inl (inr refl)
    due_one NotOpened cause faults = inr (refl, cause)

    pub ran_to_end : (ending : Ending) → IsEnded on by command.workers streams (request_of command.opening) (start_of command old place members_place) ending entries after
        ⊎ IsBroken on by command.workers streams (request_of command.opening) (start_of command old place members_place) ending entries after → Ends ending
    ran_to_end ending (inl h) = elim h.last [
      | inl put ↦ subst Ends put.0 (due_one h.due h.cause h.source)
      | inr broke ↦ breaks ending h.middle _ h.report.no_fault broke
    ]
    ran_to_end ending (inr h) =
        let broke = h.breaks.breaks in breaks ending broke.middle _ (broke.puts.no_fault ∙ h.report.no_fault) broke.breaks

  -- ---- completeness

  module _ (other : IsOneOrOther) (streams : Streams) (command : Command) (place members_place : ℕ) (old new : D) (entries : List Entry) (after : Run D)
      (left : after.host.disk ≡ new) (came : CameFrom streams.source_before.octets streams.source_after.octets streams.given)
      (can : CanRun on by streams command.opening old new) where
    not_opened : EndsUnopened on by command.workers streams.given (request_of command.opening) (start_of command old place members_place) entries after → ⊥
    not_opened h =
        can.disk (subst (λ disk. Rose (on.disks.faults old) (on.disks.faults disk)) left
        (fails other command.opening (start_of command old place members_place) h.first.entry after h.why
        h.refused h.cause can.group
        (subst (λ asked. IsAnswered on by [] asked (start_of command old place members_place) h.first.entry.answer
        h.first.entry.outside after) h.first.asked h.first.step.answered)
        h.first.step.counts))

    pub ran_whole : (ending : Ending) → IsEnded on by command.workers streams (request_of command.opening) (start_of command old place members_place) ending entries after
        ⊎ IsBroken on by command.workers streams (request_of command.opening) (start_of command old place members_place) ending entries after → (ending ≡ Whole)
        ⊎ (ending ≡ Memory)
    ran_whole ending ran = elim (ran_to_end streams command place members_place old entries after came can.script can.source can.sink ending ran) [
      | inl either ↦ either
      | inr unopened ↦ absurd (not_opened unopened.1)
    ]

  -- ---- crashes

  module _ (journals : OpenedHaveJournals on by)
      (crashes : CrashesLeaveMoments on by) where
    pub leaves_moments : (start : Run D) (entries : List Entry) (after : Run D) → IsHistory on by start entries after
        → (entries ≡ []) ⊎ LeavesMomentsAfterOpening on by start entries after
    leaves_moments start [] after h = inl refl
    leaves_moments start (first ∷ later) after h = inr (record {
      first = first;
      later = later;
      parts = refl;
      opened = h.steps.0;
      step = h.steps.1;
      steps = h.steps.2;
      moments = λ opened front rest middle parts goes going. crashes first front middle rest after going
          (crashes first [] h.steps.0 front middle goes (journals [] start first h.steps.0 h.begins.0 opened h.steps.1)).journal;
    })
