-- How members read what is on its way to them, entry by entry.
use Rattle.std.specs.Prelude.{◌≡◌, ◌⊎◌, false, List, [], ◌∷◌, ◌++◌, None, Some}
use Rattle.group_model.specs.Answers.{any_ran_out, ran_out}
use Rattle.group_model.specs.declared.entries.Entry.{Entry}
use Rattle.group_run.specs.Reads.{ReadsMail}
use Rattle.group_steps.specs.Devices.{Devices, Keying}
use Rattle.group_steps.specs.Runs.{Run}
use Rattle.console_run.specs.Lines.{IsGivenAfter}
use Rattle.member_steps.specs.Members.{Members}
use Rattle.console_run.specs.Private.Runs.{Giving}

module _ {D G V : Type 0} (on : Devices D G V) where
  -- Each entry comes of the next datagram that is not ignored, and memory ran out in the last of them at most.
  abbrev pub begun_by_mail : Giving D G
  begun_by_mail by before run [] after = after ≡ run
  begun_by_mail by before run (entry ∷ more) after =
      (acted : Members) × ReadsMail run.members (Some (entry.asked, acted)) × ((more ≡ []) ⊎ (ran_out entry.answer ≡ false))
      × (next : Run D) × IsGivenAfter on by acted before run entry next × begun_by_mail by (before ++ entry ∷ []) next more after

  -- and at last nothing is left but what they ignore
  pub record ReadsAll (by : Keying G) (before : List Entry) (run : Run D) (more : List Entry) (after : Run D) : Type 0 where
    pub begins : begun_by_mail by before run more after
    pub no_more : ReadsMail after.members None
    pub enough_memory : any_ran_out more ≡ false

  abbrev pub by_mail : Giving D G
  by_mail by before run more after = ReadsAll by before run more after
