use Rattle.std.proofs.Common.{◌^◌, ◌<◌, drop}
use Rattle.group_terms.proofs.LeafMarkLemmas.{IsAbove}
use Rattle.group_terms.proofs.leaf_marks.lowest_in.Given as goal

abbrev pub invariant-loop : goal.invariant-loop
invariant-loop l = IsAbove l.depth (drop (2 ^ l.depth) l.marks) l.counter l.v × (l.v < 1024)
