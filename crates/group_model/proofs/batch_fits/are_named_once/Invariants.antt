use Rattle.std.proofs.Common.{◌≡◌, drop, map}
use Rattle.group_terms.specs.Changes.{member_of}
use Rattle.group_model.specs.Places.{names_once}
use Rattle.group_model.proofs.batch_fits.are_named_once.Given as goal

-- what is left decides
abbrev pub invariant-loop-i : goal.invariant-loop-i
invariant-loop-i l = names_once (map member_of (drop l.i l.changes)) ≡ names_once (map member_of l.changes)
