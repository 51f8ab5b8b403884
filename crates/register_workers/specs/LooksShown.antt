-- What the looks of a block showed.
use Rattle.std.specs.Prelude.{◌≡◌, ℕ, ◌<◌, ◌≤◌, Bool, List, ◌++◌, All, IfSome}
use Rattle.desk.specs.declared.calls.Call.{Call}
use Rattle.epoch_board.specs.Pairs.{last_pair}
use Rattle.epoch_board.specs.declared.pairs.Seen.{Seen}
use Rattle.group_model.specs.declared.entries.Entry.{Entry}
use Rattle.group_steps.specs.Shows.{pairs_shown}
use Rattle.register_workers.specs.Blocks.{Worked}
use Rattle.register_workers.specs.declared.lines.BlockLine.{BlockLine}

-- some first part of a history showed this pair last
pub record WasShown (history : List Entry) (seen : Seen) : Type 0 where
  pub upto : List Entry
  pub later : List Entry
  pub are : history ≡ upto ++ later
  pub is : seen ≡ last_pair (pairs_shown upto)

-- so it is of what a line shows, if it shows a pair
abbrev pub ShowsOnly : List Entry → BlockLine → Type 0
ShowsOnly history line = IfSome line.seen (λ (seen : Seen). WasShown history seen)

-- and of all lines of a block
abbrev pub LooksWereShown : Type 0
LooksWereShown = (short : Bool) (workers : ℕ) (before turns : List Entry) (lines news : List BlockLine) (calls : List (List (Call Entry)))
    → 1 ≤ workers → ((w : ℕ) → w < workers → Worked short before (before ++ turns) workers w lines news calls)
    → All (ShowsOnly (before ++ turns)) news
