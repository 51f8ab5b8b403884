-- What making and opening a core answer.
use Rattle.std.specs.Prelude.{◌≡◌, ℕ, List, Result, Ok, Err}
use Rattle.group_model.specs.declared.entries.Refusal.TheVariants.{DiskFault}
use Rattle.group_records.specs.declared.heads.Head.{Head}
use Rattle.gcks_core.specs.declared.outputs.CoreOpened.{CoreOpened}
use Rattle.gcks_core.specs.declared.outputs.NewGroup.{NewGroup}
use Rattle.gcks_core.specs.declared.outputs.Opening.{Opening}
use Rattle.gcks_core.specs.Views.{View}

-- the head of a group that is made with this SPI
abbrev pub head_of : NewGroup → List ℕ → Head
head_of group spi = record { depth = group.depth; name = group.name; spi = spi; limit = group.limit }

-- the disk of a core that was made, or the one that is given back where none was
abbrev pub core_disk : {D G R : Type 0} → Result (View D G R) (Opening D G R) → D
core_disk (Ok core) = core.disk
core_disk (Err opening) = opening.parts.disk

-- the disk of a core that was opened, or the one that is given back where none was
abbrev pub opened_disk : {D G R : Type 0} → Result (CoreOpened D G R) (Opening D G R) → D
opened_disk (Ok opened) = opened.core.disk
opened_disk (Err opening) = opening.parts.disk

-- an answer that is a fault of the disk
abbrev pub FoundFault : {T D G R : Type 0} → Result T (Opening D G R) → Type 0
FoundFault (Ok made) = ⊥
FoundFault (Err opening) = opening.refusal ≡ DiskFault
