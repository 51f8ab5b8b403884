-- Where a disk is honest and exposes its octets, or nothing was opened again, all that was opened again was the group that there was.
use Rattle.std.proofs.Common.{◌≡◌, ◌∙◌, ◌↔◌, ℕ, true, false, Bool, List, [], ◌∷◌, ◌++◌, Option, None, Some, refl, sym, ap, subst, inl, inr}
use Rattle.std.specs.Prelude.{IsSome, if◌then◌else◌}
use Rattle.std.specs.List.{list_any}
use Rattle.std.proofs.lemmas.Bool.{false≢true, or_parts, and_parts}
use Rattle.gd_disk.specs.Moments.{Keeps, shown}
use Rattle.gd_disk.specs.declared.disks.Disk.{Ghosts as DiskGhosts}
use Rattle.group_model.specs.Answers.{is_open}
use Rattle.group_model.specs.declared.entries.Answer.{Answer}
use Rattle.group_model.specs.declared.entries.Asked.{Asked}
use Rattle.group_model.specs.declared.entries.Asked.TheVariants.{Reopen}
use Rattle.group_model.specs.declared.entries.Entry.{Entry}
use Rattle.group_model.specs.declared.entries.Outside.{Outside}
use Rattle.server_steps.specs.Hosts.{Host}
use Rattle.server_steps.specs.Openings.{IsOpeningAgain, IsSame}
use Rattle.group_steps.specs.Devices.{Devices, Keying}
use Rattle.group_steps.specs.Laws.{IsSure, asks_again, is_opened_again}
use Rattle.group_steps.specs.Runs.{Run, with_members}
use Rattle.group_steps.specs.Steps.{IsAnswered}
use Rattle.group_steps.specs.TrueSteps.{SureStepsAreTrue}

-- what is known of a disk that is as honest, and exposes its octets as before
known_still : (was now : Bool) (had has : Option (List ℕ)) → now ≡ was → (IsSome has ↔ IsSome had) → IsSome (if was then had else None)
    → IsSome (if now then has else None)
known_still true true had has same exposed known = exposed.1 known
known_still true false had has same exposed known = absurd (false≢true same)
known_still false now had has same exposed known = absurd (false≢true known)

pub some_file : (octets : Option (List ℕ)) → IsSome octets → (file : List ℕ) × (octets ≡ Some file)
some_file None some = absurd (false≢true some)
some_file (Some file) some = (file, refl)

module _ {D : Type 0} (d : DiskGhosts D) where
  pub shown_still : (old new : D) → Keeps d old new → IsSome (shown d old) → IsSome (shown d new)
  shown_still old new keeps = known_still (d.honest old) (d.honest new) (d.image old) (d.image new) keeps.honest keeps.exposed

  -- what is sure of a history is sure of its first entry, and of the others
  sure_first : (disk : D) (entry : Entry) (entries : List Entry) → IsSure d disk (entry ∷ entries) → is_opened_again entry ≡ true → IsSome (shown d disk)
  sure_first disk entry entries (inl some) again = some
  sure_first disk entry entries (inr none) again =
      absurd (false≢true (sym (or_parts (is_opened_again entry) (list_any is_opened_again entries) none).0 ∙ again))

  sure_later : (old new : D) (entry : Entry) (entries : List Entry) → Keeps d old new → IsSure d old (entry ∷ entries) → IsSure d new entries
  sure_later old new entry entries keeps (inl some) = inl (shown_still old new keeps some)
  sure_later old new entry entries keeps (inr none) = inr (or_parts (is_opened_again entry) (list_any is_opened_again entries) none).1

module _ {D G V : Type 0} (on : Devices D G V) (by : Keying G) where
  true_again : (host : Host D) (answer : Answer) (outside : Outside) (next : Host D) → IsSome (shown on.disks host.disk) → is_open answer ≡ true
      → IsOpeningAgain on.disks on.signers by.signer host answer outside next → IsSame host (record { head = next.head; list = next.server.list })
  true_again host answer outside next some opened again = elim again.ends [
    | inl reopens ↦ (
        let file = some_file (shown on.disks host.disk) some in
        subst (λ (given : Host D). IsSame host (record { head = given.head; list = given.server.list })) (sym reopens.finds.now) (reopens.same file.0 file.1)
        )
    | inr fails ↦ absurd (false≢true (sym (ap is_open fails.answers) ∙ opened))
  ]

  true_answered : (before : List Entry) (run : Run D) (asked : Asked) (answer : Answer) (outside : Outside) (next : Run D)
      → IsSome (shown on.disks run.host.disk) → asks_again asked ≡ true → is_open answer ≡ true → IsAnswered on by before asked run answer outside next
      → IsSame run.host (record { head = next.host.head; list = next.host.server.list })
  true_answered before run Reopen answer outside next some again opened step = true_again run.host answer outside next.host some opened step.served
  true_answered before run asked answer outside next some again opened step = absurd (false≢true again)

  pub sure_true : SureStepsAreTrue on by
  sure_true before run [] after steps sure = steps
  sure_true before run (entry ∷ entries) after steps sure =
      let next = steps.0 in (
        next,
        (
          steps.1,
          λ again. (
              let both = and_parts (asks_again entry.asked) (is_open entry.answer) again in
              true_answered before (with_members run steps.1.acted) entry.asked entry.answer entry.outside next
              (sure_first on.disks run.host.disk entry entries sure again) both.0 both.1 steps.1.answered.answered
              ),
        ),
        sure_true (before ++ entry ∷ []) next entries after steps.2
            (sure_later on.disks run.host.disk next.host.disk entry entries steps.1.answered.keeps sure),
      )
