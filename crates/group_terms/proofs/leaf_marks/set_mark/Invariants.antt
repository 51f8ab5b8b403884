use Rattle.std.proofs.Common.{◌-◌, ◌+◌, ◌^◌, drop, set}
use Rattle.group_terms.proofs.LeafMarkLemmas.{Climbs, MarkedBut}
use Rattle.group_terms.proofs.leaf_marks.set_mark.Given as goal

abbrev pub invariant-loop-v : goal.invariant-loop-v
invariant-loop-v l =
    MarkedBut l.depth (set (drop (2 ^ l.depth) l.fn.marks) l.place l.mark) l.v l.marks × Climbs l.depth (drop (2 ^ l.depth) l.fn.marks) (2 ^ l.depth + l.place) l.v l.marks

abbrev pub decreases-loop-v : goal.decreases-loop-v
decreases-loop-v l = l.v - 1
