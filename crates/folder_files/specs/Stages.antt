-- How far the file of a disk is.
use Rattle.std.specs.Prelude.{⊤, Bool, true, false, IsTrue}
use Rattle.folder_files.specs.Files.{Standing, IsHeld}
use Rattle.folder_files.specs.declared.stages.Stage.{Stage}
use Rattle.folder_files.specs.declared.stages.Stage.TheVariants.{Unopened, Held, Listed, Lost}

-- what is known of a file at this stage
abbrev pub Fits : Stage → Standing → Type 0
Fits Unopened standing = IsTrue standing.is_sound
Fits Held standing = IsHeld standing
Fits Listed standing = IsHeld standing × IsTrue standing.is_listed
Fits Lost standing = ⊤

-- a sync failed
abbrev pub is_lost : Stage → Bool
is_lost Unopened = false
is_lost Held = false
is_lost Listed = false
is_lost Lost = true
