-- How many turns a block has.
use Rattle.std.specs.Prelude.{◌≡◌, ℕ, ◌+◌, ◌*◌, ◌<◌, ◌≤◌, Bool, List, ◌++◌, length}
use Rattle.desk.specs.Calls.{AreCallsOf}
use Rattle.desk.specs.declared.calls.Call.{Call}
use Rattle.group_model.specs.declared.entries.Entry.{Entry}
use Rattle.work_shares.specs.Shares.{rounds}
use Rattle.register_workers.specs.Blocks.{Worked}
use Rattle.register_workers.specs.declared.lines.BlockLine.{BlockLine}

-- at most two for each worker in each round, however the block was run
abbrev pub BlocksHaveFewTurns : Type 0
BlocksHaveFewTurns = (short : Bool) (workers : ℕ) (before turns : List Entry) (lines news : List BlockLine) (calls : List (List (Call Entry)))
    → 1 ≤ workers → length calls ≡ workers → AreCallsOf turns calls
    → ((w : ℕ) → w < workers → Worked short before (before ++ turns) workers w lines news calls)
    → length turns ≤ workers * (rounds workers (length lines) + rounds workers (length lines))
