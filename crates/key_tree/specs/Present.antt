-- The key tree at the present epoch, which knows nothing of older ones.
use Rattle.std.specs.Prelude.{◌≡◌, ◌⊎◌, ℕ, ◌<◌, ◌≤◌, List, [], ◌∷◌, ◌++◌, length, slice_get, slice_index_or, Option, None, Some}
use Rattle.std.specs.Option.{unwrap_or}
use Rattle.group_terms.specs.declared.changes.Change.{Change}
use Rattle.group_terms.specs.declared.paths.PathKey.{PathKey}
use Rattle.group_values.specs.Values.{Kept}
use Rattle.group_model.specs.Places.{Holders, IsValid, holders_of}
use Rattle.group_model.specs.LastChanges.{changes_at}
use Rattle.group_model.specs.Stayed.{sequence_at}

-- What contracts see of it. `changes` has for each number up to that of the last leaf the last epoch in which that position was fresh (0 is no position).
-- `kept` has the values of the keys.
pub record Present : Type 0 where
  pub depth : ℕ
  pub epoch : ℕ
  pub sequence : ℕ
  pub holders : Holders
  pub changes : List (Option ℕ)
  pub kept : Kept

-- the tree is what a valid list of batches has made of it
pub record StandsFor (tree : Present) (batches : List (List Change)) : Type 0 where
  pub valid : IsValid tree.depth batches
  pub epoch : tree.epoch ≡ length batches
  pub sequence : tree.sequence ≡ sequence_at tree.depth batches (length batches)
  pub holders : tree.holders ≡ holders_of tree.depth batches
  pub changes : tree.changes ≡ changes_at tree.depth batches (length batches)

-- a tree after these batches, or none where they are more than a limit, or the number of the last push is past it
abbrev pub IsTreeWithin : ℕ → List (List Change) → ℕ → Option Present → Type 0
IsTreeWithin depth batches limit None = (limit < length batches) ⊎ (limit < sequence_at depth batches (length batches))
IsTreeWithin depth batches limit (Some tree) =
    (tree.depth ≡ depth) × StandsFor tree batches × (length batches ≤ limit) × (sequence_at depth batches (length batches) ≤ limit)

-- that tree after one batch more, whatever list the tree before it stands for
abbrev pub IsTreeAfter : Present → List Change → ℕ → Option Present → Type 0
IsTreeAfter tree batch limit after =
    (batches : List (List Change)) → StandsFor tree batches → IsTreeWithin tree.depth (batches ++ batch ∷ []) limit after

-- A key as the tree has it: made in the epoch of the position's last change, with the value drawn last for the position. Where a member stands below, that
-- value is this key's.
pub record IsPresentKey (tree : Present) (key : PathKey) : Type 0 where
  pub made : key.made ≡ unwrap_or (slice_index_or tree.changes key.id None) 0
  pub value : slice_get tree.kept.nodes key.id ≡ Some key.value
