-- Workers that sit down at a desk, and what they leave.
use Rattle.std.specs.Prelude.{◌≡◌, ℕ, ◌+◌, ◌<◌, ◌≤◌, Bool, true, Option, None, Some, List, [], ◌++◌, length, map, slice_index_or, All}
use Rattle.desk.specs.Calls.{AreCallsOf}
use Rattle.desk.specs.Views.{DeskId, Holder, Told as DeskTold}
use Rattle.desk.specs.declared.calls.Call.{Call}
use Rattle.group_model.specs.declared.entries.Entry.{Entry}
use Rattle.server_steps.specs.Views.{View as ServerView}
use Rattle.work_shares.specs.Shares.{rounds, share}
use Rattle.register_workers.specs.Blocks.{Worked}
use Rattle.register_workers.specs.Lines.{IsReady}
use Rattle.register_workers.specs.Private.Running.{Worker}
use Rattle.group_steps.specs.Shows.{pairs_shown}
use Rattle.register_workers.specs.Views.{View}
use Rattle.register_workers.specs.Workers.{RanAll}
use Rattle.register_workers.specs.declared.desk_books.OnBoard.{OnBoard}
use Rattle.register_workers.specs.declared.lines.BlockLine.{BlockLine}

-- ---- room that is taken before a block begins

-- nothing is there yet, and there is room for so many
pub record IsRoomFor {X : Type 0} (many : ℕ) (items : List X) (capacity : ℕ) : Type 0 where
  pub empty : items ≡ []
  pub enough : many ≤ capacity

-- Hands, by what each has and for how many lines it has room: none has anything yet, and each has room for its share of so many lines.
pub record AreHands {Y : Type 0} (hands : List Y) (had : Y → List BlockLine) (room : Y → ℕ) (workers count : ℕ) : Type 0 where
  pub many : length hands ≡ workers
  pub empty : All (λ hand. had hand ≡ []) hands
  pub roomy : (lines : List BlockLine) → length lines ≡ count → (w : ℕ) → w < workers → length (share workers w lines) ≤ slice_index_or (map room hands) w 0
  pub even : All (λ hand. rounds workers count ≤ room hand) hands

-- ---- how workers begin

-- a pass of this desk that has made no turn
pub record IsNewPass (desk : DeskId Entry OnBoard) (pass : Holder Entry OnBoard) : Type 0 where
  pub own : pass.desk ≡ desk
  pub fresh : pass.mine ≡ []

-- lines for which so many turns suffice
pub record HasWork (turns : ℕ) (lines : List BlockLine) : Type 0 where
  pub few : length lines + length lines ≤ turns
  pub ready : All IsReady lines

-- ---- what they leave

-- Workers at a desk, each of which ran its share of these lines. It knew of all that was published before.
pub record HaveRun (lines : List BlockLine) (desk : DeskTold Entry OnBoard) (seated : List Worker) : Type 0 where
  pub own : All (λ worker. worker.pass.desk ≡ desk.id) seated
  pub reads : All (λ worker. worker.reader.board ≡ desk.terms.tag.board) seated
  pub ran : (w : ℕ) (other : Worker) → w < length seated → let worker = slice_index_or seated w other in
      RanAll (length desk.terms.start) worker.pass.seen worker.reader.seen worker.memory (share (length seated) w lines) (pairs_shown desk.terms.start)
      worker.pass.mine worker.done worker.reader.seen

-- what is said of a block that ended, but for its server: the history before and after, and the calls of the workers
pub record IsEnded (memory : Bool) (workers : ℕ) (lines news : List BlockLine) (before after : List Entry) (calls : List (List (Call Entry))) : Type 0 where
  pub added : List Entry
  pub history : after ≡ before ++ added
  pub whole : AreCallsOf added calls
  pub a_list_each : length calls ≡ workers
  pub as_many : length news ≡ length lines
  pub worked : (w : ℕ) → w < workers → Worked memory before after workers w lines news calls

module _ {D G R : Type 0} where
  -- there was no memory for the block itself, and all comes back
  pub record IsReturned (memory : Bool) (lines news : List BlockLine) (server : ServerView D G R) (entries : List Entry) (new : View D G R) : Type 0 where
    pub short : memory ≡ true
    pub same_lines : news ≡ lines
    pub same_server : new.server ≡ server
    pub same_entries : new.entries ≡ entries

  -- by whether the workers' calls are told, where this server came to the desk with this history
  abbrev pub LeavesDesk : Option (List (List (Call Entry))) → Bool → ℕ → List BlockLine → List BlockLine → ServerView D G R → List Entry → View D G R → Type 0
  LeavesDesk None memory workers lines news server entries new = IsReturned memory lines news server entries new
  LeavesDesk (Some calls) memory workers lines news server entries new = IsEnded memory workers lines news entries new.entries calls
