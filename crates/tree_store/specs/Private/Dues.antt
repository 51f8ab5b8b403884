-- What is found out about a batch that was stored.
use Rattle.std.specs.Prelude.{◌≡◌, ℕ, List, Option, None, Some}
use Rattle.group_values.specs.Values.{ids_of}
use Rattle.group_terms.specs.declared.changes.Change.{Change}
use Rattle.key_tree.specs.Present.{Present, StandsFor}
use Rattle.key_tree.specs.Marks.{IsMarkedFor, IsReady}
use Rattle.key_tree.specs.declared.marks.Marked.{Marked}
use Rattle.group_records.specs.declared.batches.Stored.{Stored}
use Rattle.group_records.specs.Records.{IsBatchOf}
use Rattle.tree_store.specs.declared.dues.Due.{Due}
use Rattle.tree_store.specs.Groups.{IsDueAfter}

-- it is marked in a tree, and is due whatever list the tree stands for; none where it is not due
abbrev pub IsFollowed : Present → Stored → ℕ → Option Marked → Type 0
IsFollowed tree stored limit None =
    (batches : List (List Change)) → StandsFor tree batches → IsDueAfter tree.depth limit batches stored → ⊥
IsFollowed tree stored limit (Some marked) =
    IsMarkedFor tree stored.batch limit marked × (ids_of stored.values.nodes ≡ marked.drawn)
    × ((batches : List (List Change)) → StandsFor tree batches → IsDueAfter tree.depth limit batches stored)

-- the batch of a record, or none where there is no batch in it that is due
abbrev pub IsNext : List ℕ → Present → ℕ → Option Due → Type 0
IsNext body tree limit None =
    (batches : List (List Change)) → StandsFor tree batches → (stored : Stored) → IsBatchOf body stored → IsDueAfter tree.depth limit batches stored → ⊥
IsNext body tree limit (Some next) = IsBatchOf body next.stored × IsFollowed tree next.stored limit (Some next.marked)

-- a batch that a tree can take in as it is
pub record IsInstallable (tree : Present) (next : Due) : Type 0 where
  pub ready : IsReady tree next.marked
  pub drawn : ids_of next.stored.values.nodes ≡ next.marked.drawn
