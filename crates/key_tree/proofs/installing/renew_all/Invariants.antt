use Rattle.std.proofs.Common.{◌≡◌, drop, length}
use Rattle.key_tree.specs.Marks.{ids_renewed}
use Rattle.key_tree.proofs.DrawLemmas.{noted}
use Rattle.key_tree.proofs.installing.renew_all.Given as goal

-- those that are left make of the changes what all make of the first ones
abbrev pub invariant-loop-position : goal.invariant-loop-position
invariant-loop-position l = (noted l.epoch l.made (ids_renewed (drop l.position-index l.positions)) ≡ noted l.epoch l.fn.made (ids_renewed l.positions)) × (length l.made ≡ length l.fn.made)
