-- The keys of the tree after a batch, with their values.
use Rattle.std.specs.Prelude.{◌≡◌, List, [], ◌∷◌, ◌++◌, Some, None, slice_index_or}
use Rattle.std.specs.Option.{unwrap_or}
use Rattle.group_terms.specs.declared.paths.PathKey.{PathKey}
use Rattle.group_terms.specs.declared.changes.Change.{Change}
use Rattle.group_terms.specs.declared.values.BatchValues.{BatchValues}
use Rattle.group_terms.specs.declared.values.NodeValue.{NodeValue}
use Rattle.group_values.specs.Values.{KeepsLast, Made, Rises, ids_of, last_value}
use Rattle.key_tree.specs.declared.marks.Marked.{Marked}
use Rattle.key_tree.specs.Present.{Present}
use Rattle.key_tree.specs.Marks.{installed}

-- a position's key with its last change after a batch, and its last value after it with these values
pub record IsNextKey (tree : Present) (marked : Marked) (values : BatchValues) (key : PathKey) : Type 0 where
  pub made : key.made ≡ unwrap_or (slice_index_or (installed tree marked).changes key.id None) 0
  pub value : (list : List Made) (changes : List Change) (value : NodeValue) → KeepsLast tree.kept list → Rises (ids_of values.nodes)
      → last_value (list ++ record { changes = changes; values = values } ∷ []) key.id ≡ Some value → key.value ≡ value
