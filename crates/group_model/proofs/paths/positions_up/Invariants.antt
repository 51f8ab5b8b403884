use Rattle.std.proofs.Common.{ℕ, ◌+◌, ◌^◌, ◌<◌, ◌≤◌}
use Rattle.std.specs.Option.{option_map, unwrap_or}
use Rattle.group_model.proofs.PathLemmas.{IsLeft}
use Rattle.group_model.proofs.paths.positions_up.Given as goal

-- the positions so far, and those that are left
abbrev pub invariant-loop-at : goal.invariant-loop-at
invariant-loop-at l = (depth : ℕ) → 2 ^ depth ≤ l.fn.leaf → l.fn.leaf < 2 ^ (depth + 1) → IsLeft depth l.fn.leaf l.positions l.at

abbrev pub decreases-loop-at : goal.decreases-loop-at
decreases-loop-at l = unwrap_or (option_map (λ id. id + 1) l.at) 0
