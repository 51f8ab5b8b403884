-- What is known while a journal is read.
use Rattle.std.specs.Prelude.{◌≡◌, List, [], ◌∷◌, ◌++◌, Option, None, Some}
use Rattle.std.specs.List.{All}
use Rattle.group_values.specs.Values.{Made, batches_made}
use Rattle.key_tree.specs.Marks.{IsMarkedFor}
use Rattle.key_tree.specs.Present.{Present}
use Rattle.group_pushes.specs.Fits.{MadeFits}
use Rattle.group_records.specs.declared.heads.Head.{Head}
use Rattle.tree_store.specs.declared.dues.Due.{Due}
use Rattle.tree_store.specs.Groups.{IsDueAfter, made_of}
use Rattle.tree_store.specs.Replays.{IsReplayOf}
use Rattle.tree_store.specs.Views.{ReadSoFar}
use Rattle.gcks_core.specs.Private.Cores.{IsGroupOf}
use Rattle.gcks_core.specs.Stored.{AreDue, stored_list}

-- the batch that was read last, if there is one, is due after these, which made a tree, and is marked in it; with it they are the other list
abbrev pub IsLast : Head → Present → List Made → Option Due → List Made → Type 0
IsLast head present before None list = (before ≡ []) × (list ≡ [])
IsLast head present before (Some next) list =
    IsDueAfter head.depth head.limit (batches_made before) next.stored × IsMarkedFor present next.stored.batch head.limit next.marked
    × (list ≡ before ++ made_of next.stored ∷ [])

-- These batches were read of a store, and the values of each are keys. The tree is what all of them made but the last one.
pub record IsRead (head : Head) (replay : ReadSoFar) (list : List Made) : Type 0 where
  pub replayed : IsReplayOf head replay (stored_list head.depth list)
  pub due : AreDue head.depth head.limit list
  pub fit : All MadeFits list
  pub before : List Made
  pub group : IsGroupOf head replay.tree before
  pub last : IsLast head replay.tree before replay.last list
