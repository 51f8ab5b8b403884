-- How a worker runs its lines.
use Rattle.std.specs.Prelude.{◌≡◌, ◌⊎◌, ℕ, ◌+◌, ◌≤◌, Bool, MatchBool, List, [], ◌∷◌, ◌++◌, length, reverse, All}
use Rattle.desk.specs.Views.{Holder, Told as DeskTold}
use Rattle.desk.specs.declared.calls.Call.{Call}
use Rattle.epoch_board.specs.Pairs.{StartsWith}
use Rattle.epoch_board.specs.Passes.{PassState}
use Rattle.group_terms.specs.Names.{Name}
use Rattle.group_model.specs.declared.entries.Asked.{Asked}
use Rattle.group_model.specs.declared.entries.Entry.{Entry}
use Rattle.register_workers.specs.Lines.{Agrees, Ends, HadMemory, IsReady, PassesOver, StopsBetween}
use Rattle.register_workers.specs.Private.Requests.{Tells}
use Rattle.register_workers.specs.Workers.{LearnsBy, Ran, RanAll, turns_in}
use Rattle.register_workers.specs.declared.desk_books.OnBoard.{OnBoard}
use Rattle.register_workers.specs.declared.lines.BlockLine.{BlockLine}
use Rattle.register_workers.specs.declared.running.Given.{Given}
use Rattle.register_workers.specs.declared.running.Given.TheVariants as given
use Rattle.register_workers.specs.declared.turns.Told.{Told}

-- ---- what workers have

-- a worker: its pass, its pass of the board, the lines that it has to run, the last one first, those that it ran, and whether want of memory ended one
pub record Worker : Type 0 where
  pub pass : Holder Entry OnBoard
  pub reader : PassState
  pub due : List BlockLine
  pub done : List BlockLine
  pub memory : Bool

-- ---- turns of a worker

-- after so many calls the pass has them at the end, and knows of what was published up to the last one
pub record Moves (begun : ℕ) (calls : List (Call Entry)) (old new : Holder Entry OnBoard) (was now : PassState) : Type 0 where
  pub own : new.desk ≡ old.desk
  pub mine : new.mine ≡ old.mine ++ calls
  pub seen : StartsWith new.seen old.seen
  pub board : now.board ≡ was.board
  pub learns : LearnsBy begun new.seen was.seen calls now.seen
  pub later : StartsWith now.seen was.seen

-- by some calls, at most so many, whose entries are such
pub record MovesBy (begun most : ℕ) (P : List Entry → Type 0) (old new : Holder Entry OnBoard) (was now : PassState) : Type 0 where
  pub calls : List (Call Entry)
  pub moves : Moves begun calls old new was now
  pub few : length calls ≤ most
  pub are : P (turns_in calls)

-- one turn, which asks this
abbrev pub IsOneTurn : Asked → List Entry → Type 0
IsOneTurn request turns = (turn : Entry) × (turns ≡ turn ∷ []) × (turn.asked ≡ request)

-- one turn, of whose answer this is told
abbrev pub IsTold : Asked → Told → List Entry → Type 0
IsTold request told turns = (turn : Entry) × (turns ≡ turn ∷ []) × (turn.asked ≡ request) × Tells turn.answer told

-- these are all turns of what was to be done; or want of memory ended it, maybe before its end
abbrev pub UnlessShort : Bool → Type 0 → Type 0 → List Entry → Type 0
UnlessShort short whole cut turns = MatchBool short (whole ⊎ cut) (whole × HadMemory turns)

-- ---- a line whose member sends

-- what comes of a datagram that is given to the pull of a line
abbrev pub IsGiven : BlockLine → List ℕ → Given → BlockLine → Type 0
IsGiven line datagram given.Agrees new = (third : List ℕ) × Agrees line datagram third new
IsGiven line datagram given.PassesOver new = PassesOver line datagram × (new ≡ line)
IsGiven line datagram given.NoMemory new = new ≡ line

-- a datagram came, and no turn follows
abbrev pub ComesShort : List ℕ → BlockLine → List Entry → BlockLine → Type 0
ComesShort datagram line turns new = (turns ≡ []) × ((new ≡ line) ⊎ ((third : List ℕ) × Agrees line datagram third new))

-- the line of a member that sends ended before its first turn, or between two
abbrev pub StopsInPull : Name → BlockLine → List Entry → BlockLine → Type 0
StopsInPull m line turns new = Ends line turns new ⊎ StopsBetween m line turns new

-- ---- any line

-- a worker ran one line, by at most two calls
pub record RunsLine (begun : ℕ) (memory : Bool) (line new : BlockLine) (old now : Holder Entry OnBoard) (was shows : PassState) : Type 0 where
  pub calls : List (Call Entry)
  pub few : length calls ≤ 2
  pub own : now.desk ≡ old.desk
  pub mine : now.mine ≡ old.mine ++ calls
  pub seen : StartsWith now.seen old.seen
  pub board : shows.board ≡ was.board
  pub later : StartsWith shows.seen was.seen
  pub ran : Ran begun now.seen shows.seen memory line was.seen calls new shows.seen

-- ---- all lines of a worker

-- a worker that has not begun, and may make two turns for each of its lines
pub record IsFresh (desk : DeskTold Entry OnBoard) (worker : Worker) : Type 0 where
  pub own : worker.pass.desk ≡ desk.id
  pub fresh : worker.pass.mine ≡ []
  pub reads : worker.reader.board ≡ desk.terms.tag.board
  pub none_done : worker.done ≡ []
  pub turns : length worker.due + length worker.due ≤ desk.terms.turns
  pub ready : All IsReady worker.due

-- a worker that ran all its lines
pub record HasRun (desk : DeskTold Entry OnBoard) (old new : Worker) : Type 0 where
  pub own : new.pass.desk ≡ desk.id
  pub reads : new.reader.board ≡ desk.terms.tag.board
  pub ran : RanAll (length desk.terms.start) new.pass.seen new.reader.seen new.memory (reverse old.due) old.reader.seen new.pass.mine new.done
      new.reader.seen
