use Rattle.std.proofs.Common.{◌≡◌, take}
use Rattle.journal_listing.proofs.rows.copied.Given as goal

-- the changes so far
abbrev pub invariant-loop-change : goal.invariant-loop-change
invariant-loop-change l = l.copy ≡ take l.change-index l.batch
