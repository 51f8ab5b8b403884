use Rattle.std.proofs.Common.{◌≡◌, ◌++◌, drop}
use Rattle.group_terms.specs.Changes.{leavers}
use Rattle.key_tree.specs.Private.Seats.{vacancies}
use Rattle.key_tree.proofs.seats.leave_all.Given as goal

-- those so far, and those that are left
abbrev pub invariant-loop-change : goal.invariant-loop-change
invariant-loop-change l = l.seats ++ vacancies l.holders (leavers (drop l.change-index l.batch)) ≡ vacancies l.holders (leavers l.batch)
