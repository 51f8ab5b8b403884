-- What a crash leaves of a group at any moment of a history.
use Rattle.std.proofs.Common.{◌≡◌, ◌∙◌, ◌⊎◌, ℕ, List, Some, is_some, [], ◌∷◌, ◌++◌, refl, sym, ap, subst, inl}
use Rattle.std.proofs.lemmas.List.{append_assoc, append-nil}
use Rattle.gd_disk.specs.MomentLaws.{joined, started, weaker}
use Rattle.gd_disk.specs.Moments.{shown}
use Rattle.group_model.specs.Servers.{in_doubt}
use Rattle.group_model.specs.declared.entries.Entry.{Entry}
use Rattle.group_records.specs.declared.heads.Head.{Head}
use Rattle.gcks_core.specs.Stored.{IsFileOf}
use Rattle.server_steps.specs.Batches.{made_next}
use Rattle.server_steps.specs.Disks.{HasJournal}
use Rattle.group_steps.specs.Crashes.{CrashesLeaveMoments, IsOfMoment, LeavesMoments}
use Rattle.group_steps.specs.Devices.{Devices, Keying}
use Rattle.group_steps.specs.Runs.{Run}
use Rattle.group_steps.specs.ServedCrashes.{HasAtLeast, IsToWrite}
use Rattle.group_steps.specs.Steps.{AreRunSteps, IsRunStep}
use Rattle.group_steps.proofs.JournalLemmas.{IsMeanwhile, StepLeaves, leaves_answered}
use Rattle.group_steps.proofs.ServedCrashLemmas.{has_first, has_later, has_now}
use Rattle.group_steps.proofs.SureLemmas.{shown_still, some_file}

module _ {D G V : Type 0} (on : Devices D G V) (by : Keying G)
    (only_now : (disk : D) (c : List ℕ) → on.disks.left_since disk (on.disks.moment disk) c → on.disks.may_leave disk c) where
  abbrev Steps : List Entry → Run D → List Entry → Run D → Type 0
  Steps = AreRunSteps on by

  abbrev Leaves : List Entry → Run D → List Entry → Run D → Type 0
  Leaves = LeavesMoments on by

  abbrev Moment : List Entry → Run D → List Entry → Run D → List ℕ → Type 0
  Moment = IsOfMoment on by

  -- no entry
  leaves_none : (before : List Entry) (run : Run D) → HasJournal on.disks run.host → Leaves before run [] run
  leaves_none before run had = record {
    journal = had;
    head = λ file shows. refl;
    moments = λ file shows. started on.disks run.host.disk (Moment before run [] run) (only_now run.host.disk) (λ c now. record {
      front = [];
      later = [];
      is = refl;
      mid = run;
      so_far = refl;
      goes_on = refl;
      image = inl (had.crash file shows c now);
    });
    kept = λ file shows.
        started on.disks run.host.disk (HasAtLeast run.host) (only_now run.host.disk)
        (λ c now. has_now run.host c (had.crash file shows c now));
  }

  module _ (before : List Entry) (run : Run D) (entry : Entry) (entries : List Entry) (after next : Run D)
      (step : IsRunStep on by before run entry next) (rest : Steps (before ++ entry ∷ []) next entries after) where
    -- what is left during the first entry
    at_first : (c : List ℕ) → IsMeanwhile on.disks on.signers by.signer by.block run.host entry.asked c → Moment before run (entry ∷ entries) after c
    at_first c meanwhile = record {
      front = [];
      later = entry ∷ entries;
      is = refl;
      mid = run;
      so_far = refl;
      goes_on = subst (λ given. Steps given run (entry ∷ entries) after) (sym (append-nil before)) (next, step, rest);
      image = meanwhile;
    }

    -- what is left during the others
    at_later : (c : List ℕ) → next.host.head ≡ run.host.head → Moment (before ++ entry ∷ []) next entries after c
        → Moment before run (entry ∷ entries) after c
    at_later c same moment = record {
      front = entry ∷ moment.front;
      later = moment.later;
      is = ap (λ given. entry ∷ given) moment.is;
      mid = moment.mid;
      so_far = (next, step, moment.so_far);
      goes_on = subst (λ given. Steps given moment.mid moment.later after) (append_assoc before (entry ∷ []) moment.front) moment.goes_on;
      image = subst (λ (head : Head). IsFileOf head moment.mid.host.server c
          ⊎ (IsToWrite moment.mid.host moment.later
          × IsFileOf head (in_doubt moment.mid.host.server (made_next on.disks on.signers by.signer by.block moment.mid.host)) c)) same moment.image;
    }

    -- the first entry, and then the others
    leaves_more : StepLeaves on.disks on.signers by.signer by.block run.host entry.asked next.host → Leaves (before ++ entry ∷ []) next entries after
        → Leaves before run (entry ∷ entries) after
    leaves_more first later =
        let still : (file : List ℕ) → shown on.disks run.host.disk ≡ Some file → (now : List ℕ) × (shown on.disks next.host.disk ≡ Some now)
        = λ file shows. some_file (shown on.disks next.host.disk) (shown_still on.disks run.host.disk next.host.disk step.answered.keeps (ap is_some shows)) in
        record {
          journal = later.journal;
          head = λ file shows. let now = still file shows in later.head now.0 now.1 ∙ first.head file shows;
          moments = λ file shows.
              let now = still file shows in
              joined on.disks run.host.disk next.host.disk after.host.disk (Moment before run (entry ∷ entries) after)
              (weaker on.disks run.host.disk next.host.disk _ _ at_first (first.moments file shows))
              (weaker on.disks next.host.disk after.host.disk _ _ (λ c. at_later c (first.head file shows)) (later.moments now.0 now.1));
          kept = λ file shows.
              let now = still file shows in
              joined on.disks run.host.disk next.host.disk after.host.disk (HasAtLeast run.host)
              (weaker on.disks run.host.disk next.host.disk _ _ (has_first on.disks on.signers by.signer by.block run.host entry.asked)
              (first.moments file shows))
              (weaker on.disks next.host.disk after.host.disk _ _
              (λ c. has_later run.host next.host c (first.head file shows) (first.list file shows)) (later.kept now.0 now.1));
        }

  pub crashes_leave : CrashesLeaveMoments on by
  crashes_leave first before run [] after steps had =
      subst (λ (given : Run D). Leaves (first ∷ before) run [] given) (sym steps) (leaves_none (first ∷ before) run had)
  crashes_leave first before run (entry ∷ entries) after steps had =
      let next = steps.0 in
      let leaves = leaves_answered on by run had (only_now run.host.disk) first before entry next steps.1 in
      leaves_more (first ∷ before) run entry entries after next steps.1 steps.2 leaves
      (crashes_leave first (before ++ entry ∷ []) next entries after steps.2 leaves.journal)
