-- What the journal of a group has when these batches made its epochs.
use Rattle.std.specs.Prelude.{ℕ, ◌+◌, List, [], ◌∷◌, ◌++◌, length}
use Rattle.gd_disk.specs.Disks.{Knows}
use Rattle.gd_disk.specs.Moments.{shown}
use Rattle.gd_disk.specs.declared.disks.Disk.{Ghosts}
use Rattle.group_terms.specs.declared.changes.Change.{Change}
use Rattle.group_values.specs.Values.{Made}
use Rattle.group_model.specs.Servers.{Server, MayHave}
use Rattle.group_model.specs.Stayed.{sequence_at}
use Rattle.group_records.specs.declared.batches.Stored.{Stored}
use Rattle.group_records.specs.declared.heads.Head.{Head}
use Rattle.tree_store.specs.Groups.{IsDueAfter, IsGroup}

-- a batch after others, with the epoch that it makes and the number of the last push after it
abbrev pub stored_after : ℕ → List (List Change) → Made → Stored
stored_after depth before made = record {
  batch = made.changes;
  epoch = length before + 1;
  sequence = sequence_at depth (before ++ made.changes ∷ []) (length before + 1);
  values = made.values;
}

-- batches after others, one after the other
abbrev pub stored_from : ℕ → List (List Change) → List Made → List Stored
stored_from depth before [] = []
stored_from depth before (made ∷ list) = stored_after depth before made ∷ stored_from depth (before ++ made.changes ∷ []) list

-- batches from the first one on, as a journal has them
abbrev pub stored_list : ℕ → List Made → List Stored
stored_list depth list = stored_from depth [] list

-- each of them is due after those before it
abbrev pub AreDueFrom : ℕ → ℕ → List (List Change) → List Made → Type 0
AreDueFrom depth limit before [] = Unit {0}
AreDueFrom depth limit before (made ∷ list) =
    IsDueAfter depth limit before (stored_after depth before made) × AreDueFrom depth limit (before ++ made.changes ∷ []) list

-- batches from the first one on are due, each after those before it
abbrev pub AreDue : ℕ → ℕ → List Made → Type 0
AreDue depth limit list = AreDueFrom depth limit [] list

-- a file is the journal of a group with this head, and of a list of batches that a server may find in its journal
abbrev pub IsFileOf : Head → Server → List ℕ → Type 0
IsFileOf head server file = (list : List Made) × MayHave server list × IsGroup file head (stored_list head.depth list)

-- where a disk is honest and shows its octets, these are such a file
abbrev pub IsOnDisk : {D : Type 0} → Ghosts D → D → Head → Server → Type 0
IsOnDisk g disk head server = Knows (shown g disk) (IsFileOf head server)
