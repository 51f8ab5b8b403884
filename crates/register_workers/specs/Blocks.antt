-- What a block promises.
use Rattle.std.specs.Prelude.{◌≡◌, ℕ, ◌<◌, Bool, true, List, [], length, slice_index_or, Option, None, Some}
use Rattle.desk.specs.Calls.{AreCallsOf}
use Rattle.desk.specs.declared.calls.Call.{Call}
use Rattle.epoch_board.specs.declared.pairs.Seen.{Seen}
use Rattle.gd_disk.specs.declared.disks.Disk.{Ghosts as DiskGhosts}
use Rattle.gd_edges.specs.declared.draws.Draws.{Ghosts as DrawGhosts}
use Rattle.gd_edges.specs.declared.signers.Signer.{Ghosts as SignerGhosts}
use Rattle.group_model.specs.declared.entries.Entry.{Entry}
use Rattle.server_steps.specs.Serves.{IsSince, Start}
use Rattle.work_shares.specs.Shares.{share}
use Rattle.group_steps.specs.Shows.{pairs_shown}
use Rattle.register_workers.specs.Views.{View}
use Rattle.register_workers.specs.Workers.{RanAll}
use Rattle.register_workers.specs.declared.lines.BlockLine.{BlockLine}

-- where a block begins: the server and the history of a book
abbrev pub start_of : {D G R : Type 0} → View D G R → Start D G R
start_of book = record { server = book.server; before = book.entries }

-- What one of so many workers made of its lines: those at its place, and then each n-th. It knew of all that was published before.
pub record Worked (memory : Bool) (before after : List Entry) (workers w : ℕ) (lines news : List BlockLine) (calls : List (List (Call Entry))) : Type 0 where
  pub known : List Seen
  pub ran : RanAll (length before) after (pairs_shown after) memory (share workers w lines) (pairs_shown before) (slice_index_or calls w [])
      (share workers w news) known

module _ {D G R : Type 0} (d : DiskGhosts D) (g : SignerGhosts G) (draws : DrawGhosts R) where
  -- The entries since the block began are steps of the server, and just the calls of the workers, each at its place; and each line is what the calls that its
  -- worker made for it left of it.
  pub record IsBlock (memory : Bool) (workers : ℕ) (lines news : List BlockLine) (old new : View D G R) (calls : List (List (Call Entry))) : Type 0 where
    pub since : IsSince d g draws (start_of old) new.server new.entries
    pub whole : AreCallsOf since.news calls
    pub a_list_each : length calls ≡ workers
    pub as_many : length news ≡ length lines
    pub worked : (w : ℕ) → w < workers → Worked memory old.entries new.entries workers w lines news calls

  -- there was no memory for the block itself, and nothing was done
  pub record IsUntouched (memory : Bool) (lines news : List BlockLine) (old new : View D G R) : Type 0 where
    pub short : memory ≡ true
    pub same_lines : news ≡ lines
    pub same_book : new ≡ old

  -- by whether the workers' calls are told
  abbrev pub LeavesBlock : Option (List (List (Call Entry))) → Bool → ℕ → List BlockLine → List BlockLine → View D G R → View D G R → Type 0
  LeavesBlock None memory workers lines news old new = IsUntouched memory lines news old new
  LeavesBlock (Some calls) memory workers lines news old new = IsBlock memory workers lines news old new calls
