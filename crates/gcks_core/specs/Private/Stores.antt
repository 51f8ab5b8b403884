-- What is known of a batch that is to be stored.
use Rattle.std.specs.Prelude.{◌≤◌, List, length}
use Rattle.group_terms.specs.declared.changes.Change.{Change}
use Rattle.group_values.specs.Values.{Made, batches_made}
use Rattle.key_tree.specs.Present.{Present}
use Rattle.key_tree.specs.Marks.{IsMarkedFor}
use Rattle.group_records.specs.declared.heads.Head.{Head}
use Rattle.group_records.specs.Records.{IsBatchOf}
use Rattle.tree_store.specs.Groups.{IsDueAfter}
use Rattle.gcks_core.specs.Prepares.{PreparedBatch}
use Rattle.gcks_core.specs.Stored.{stored_after}

-- After these batches it is the batch of these changes, which is due, with its record and what it makes of the tree.
pub record IsStorable (head : Head) (present : Present) (queue : List Change) (list : List Made) (ready : PreparedBatch) : Type 0 where
  pub due : IsDueAfter head.depth head.limit (batches_made list) (stored_after head.depth (batches_made list) (record { changes = queue; values = ready.values }))
  pub text_is : IsBatchOf ready.text (stored_after head.depth (batches_made list) (record { changes = queue; values = ready.values }))
  pub short : length ready.text ≤ 65536
  pub is_marked : IsMarkedFor present queue head.limit ready.marked
