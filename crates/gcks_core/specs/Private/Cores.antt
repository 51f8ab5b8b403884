-- What is always known of a core.
use Rattle.std.specs.Prelude.{◌≡◌, ◌+◌, ◌^◌, ◌≤◌, Bool, false, List, length, IsSome}
use Rattle.std.specs.List.{All}
use Rattle.gd_disk.specs.Disks.{Knows}
use Rattle.gd_disk.specs.Moments.{shown}
use Rattle.gd_disk.specs.declared.disks.Disk.{Ghosts}
use Rattle.group_terms.specs.declared.changes.Change.{Change}
use Rattle.group_values.specs.Values.{KeepsLast, Made, batches_made}
use Rattle.group_model.specs.Places.{Fits}
use Rattle.key_tree.specs.Present.{Present, StandsFor}
use Rattle.group_records.specs.declared.heads.Head.{Head}
use Rattle.group_pushes.specs.Fits.{MadeFits}
use Rattle.tree_store.specs.Groups.{IsGroup}
use Rattle.tree_store.specs.Views.{View}
use Rattle.gcks_core.specs.Stored.{AreDue, stored_list}

-- a tree is what these batches made, with the values of its keys; each of the batches was due after those before it, and has keys
pub record IsGroupOf (head : Head) (present : Present) (list : List Made) : Type 0 where
  pub depth : present.depth ≡ head.depth
  pub tree : StandsFor present (batches_made list)
  pub room : length present.kept.nodes ≡ 2 ^ (present.depth + 1)
  pub keeps : KeepsLast present.kept list
  pub due : AreDue head.depth head.limit list
  pub fit : All MadeFits list

-- a store is open and at its end, and where the disk is honest and shows its octets, these are the journal of these batches
pub record IsAtEnd {D : Type 0} (g : Ghosts D) (store : View D) (head : Head) (list : List Made) : Type 0 where
  pub open_still : store.closed ≡ false
  pub walked : IsSome store.end
  pub file : Knows (shown g store.disk) (λ file. IsGroup file head (stored_list head.depth list))

-- Some batches made the tree of a core. What waits fits, and unless it has to be opened again its journal has these batches.
pub record IsCore {D : Type 0} (g : Ghosts D) (store : View D) (head : Head) (present : Present) (queue : List Change)
    (needs_reopen : Bool) : Type 0 where
  pub list : List Made
  pub group : IsGroupOf head present list
  pub limited : 1 ≤ head.limit
  pub fits : Fits present.holders queue
  pub at_end : needs_reopen ≡ false → IsAtEnd g store head list
