-- What was read of a store, batch after batch.
use Rattle.std.specs.Prelude.{◌≡◌, ◌+◌, ◌^◌, List, [], ◌∷◌, ◌++◌, length, map, Option, None, Some}
use Rattle.group_values.specs.Values.{KeepsLast}
use Rattle.group_records.specs.declared.batches.Stored.{Stored}
use Rattle.group_records.specs.declared.heads.Head.{Head}
use Rattle.key_tree.specs.Marks.{IsMarkedFor}
use Rattle.key_tree.specs.Present.{Present, StandsFor}
use Rattle.tree_store.specs.declared.dues.Due.{Due}
use Rattle.tree_store.specs.Groups.{IsDue, batches_of, made_of}
use Rattle.tree_store.specs.Views.{ReadSoFar}

-- these batches made a tree of a group with this head, and it has the values of their keys, and room for one of each position
pub record IsTreeOf (head : Head) (tree : Present) (list : List Stored) : Type 0 where
  pub depth : tree.depth ≡ head.depth
  pub stands : StandsFor tree (batches_of list)
  pub room : length tree.kept.nodes ≡ 2 ^ (tree.depth + 1)
  pub keeps : KeepsLast tree.kept (map made_of list)

-- a batch is due after these, and is marked in the tree that they made
pub record IsDueIn (head : Head) (tree : Present) (before : List Stored) (next : Due) : Type 0 where
  pub due : IsDue head before next.stored
  pub marked : IsMarkedFor tree next.stored.batch head.limit next.marked

-- the list is these batches and the last one, which is due after them; without a last one it is these batches
abbrev pub IsLastOf : Head → Present → List Stored → Option Due → List Stored → Type 0
IsLastOf head tree before None list = list ≡ before
IsLastOf head tree before (Some next) list = IsDueIn head tree before next × (list ≡ before ++ next.stored ∷ [])

-- These batches were read: those that made the tree, and the last one, which is due after them.
pub record IsReplayOf (head : Head) (replay : ReadSoFar) (list : List Stored) : Type 0 where
  pub before : List Stored
  pub tree : IsTreeOf head replay.tree before
  pub last : IsLastOf head replay.tree before replay.last list

-- One batch more was read: it is due after these, which made the tree, and is the last one now.
pub record IsReadAfter (head : Head) (list : List Stored) (next : Due) (replay : ReadSoFar) : Type 0 where
  pub tree : IsTreeOf head replay.tree list
  pub due : IsDueIn head replay.tree list next
  pub last : replay.last ≡ Some next
  pub replayed : IsReplayOf head replay (list ++ next.stored ∷ [])
