-- What the definition of a stage distinguishes: after a failed sync a file is at no stage but the last one, without its lock it is not held, and before its
-- folder has it on the device it is not listed.
use Rattle.std.proofs.Common.{◌≡◌, ◌∙◌, false, Bool, sym}
use Rattle.std.specs.Prelude.{IsTrue}
use Rattle.std.proofs.lemmas.Bool.{false≢true}
use Rattle.folder_files.specs.Files.{Standing}
use Rattle.folder_files.specs.Stages.{Fits}
use Rattle.folder_files.specs.declared.stages.Stage.{Stage}
use Rattle.folder_files.specs.declared.stages.Stage.TheVariants.{Held, Listed, Unopened}

module _ (standing : Standing) where
  not_both : (b : Bool) → b ≡ false → IsTrue b → ⊥
  not_both b is_false is_true = absurd (false≢true (sym is_false ∙ is_true))

  held_after_a_failed_sync : standing.is_sound ≡ false → Fits Held standing → ⊥
  held_after_a_failed_sync lost held = not_both standing.is_sound lost held.sound

  listed_after_a_failed_sync : standing.is_sound ≡ false → Fits Listed standing → ⊥
  listed_after_a_failed_sync lost listed = not_both standing.is_sound lost listed.0.sound

  unopened_after_a_failed_sync : standing.is_sound ≡ false → Fits Unopened standing → ⊥
  unopened_after_a_failed_sync lost sound = not_both standing.is_sound lost sound

  held_without_its_lock : standing.is_locked ≡ false → Fits Held standing → ⊥
  held_without_its_lock free held = not_both standing.is_locked free held.locked

  listed_before_its_folder_was_synced : standing.is_listed ≡ false → Fits Listed standing → ⊥
  listed_before_its_folder_was_synced not_yet listed = not_both standing.is_listed not_yet listed.1
