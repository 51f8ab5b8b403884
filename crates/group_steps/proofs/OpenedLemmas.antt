-- A group that was made, or first opened, has a journal.
use Rattle.std.proofs.Common.{◌≡◌, ◌∙◌, ℕ, true, List, sym, ap, inl, inr}
use Rattle.std.proofs.lemmas.Bool.{false≢true}
use Rattle.group_model.specs.Answers.{is_open, opens}
use Rattle.group_model.specs.declared.entries.Answer.{Answer}
use Rattle.group_model.specs.declared.entries.Answer.TheVariants.{Refused}
use Rattle.group_model.specs.declared.entries.Asked.{Asked}
use Rattle.group_model.specs.declared.entries.Asked.TheVariants.{Begin, Create}
use Rattle.group_model.specs.declared.entries.Entry.{Entry}
use Rattle.group_model.specs.declared.entries.Outside.{Outside}
use Rattle.group_model.specs.declared.entries.Refusal.{Refusal}
use Rattle.server_steps.specs.Disks.{HasJournal}
use Rattle.server_steps.specs.Hosts.{Host}
use Rattle.server_steps.specs.Openings.{IsBeginning, IsCreation}
use Rattle.group_steps.specs.Crashes.{OpenedHaveJournals}
use Rattle.group_steps.specs.Devices.{Devices, Keying}
use Rattle.group_steps.specs.Runs.{Run, with_members}
use Rattle.group_steps.specs.Steps.{IsAnswered}

module _ {D G V : Type 0} (on : Devices D G V) (by : Keying G) where
  -- an answer that refuses opens nothing
  opens_none : (answer : Answer) (why : Refusal) (P : Type 0) → answer ≡ Refused why → is_open answer ≡ true → P
  opens_none answer why P is opened = absurd (false≢true (sym (ap is_open is) ∙ opened))

  made_has : (depth : ℕ) (start : Host D) (answer : Answer) (outside : Outside) (host : Host D) → is_open answer ≡ true
      → IsCreation on.disks by.block depth start answer outside host → HasJournal on.disks host
  made_has depth start answer outside host opened creation = elim creation.ends [
    | inl makes ↦ makes.journal
    | inr fails ↦ opens_none answer fails.why (HasJournal on.disks host) fails.answers opened
  ]

  begun_has : (start : Host D) (answer : Answer) (outside : Outside) (host : Host D) → is_open answer ≡ true
      → IsBeginning on.disks on.signers by.signer start answer outside host → HasJournal on.disks host
  begun_has start answer outside host opened beginning = elim beginning.ends [
    | inl begins ↦ begins.finds.journal
    | inr fails ↦ opens_none answer fails.why (HasJournal on.disks host) fails.answers opened
  ]

  has_by : (before : List Entry) (start : Run D) (asked : Asked) (answer : Answer) (outside : Outside) (run : Run D) → opens asked ≡ true
      → is_open answer ≡ true
      → IsAnswered on by before asked start answer outside run → HasJournal on.disks run.host
  has_by before start (Create depth) answer outside run first opened step = made_has depth start.host answer outside run.host opened step.opens
  has_by before start Begin answer outside run first opened step = begun_has start.host answer outside run.host opened step.opens
  has_by before start asked answer outside run first opened step = absurd (false≢true first)

  pub opened_have : OpenedHaveJournals on by
  opened_have before start entry run first opened step =
      has_by before (with_members start step.acted) entry.asked entry.answer entry.outside run first opened step.answered.answered
