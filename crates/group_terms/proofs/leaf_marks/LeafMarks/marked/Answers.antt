use Rattle.std.proofs.Common.{◌^◌, Bool, List, drop, arith}
use Rattle.std.proofs.lemmas.List.Sums.{count_by-le-length}
use Rattle.group_terms.proofs.LeafMarkLemmas.{long_leaves, few_leaves}
use Rattle.group_terms.proofs.leaf_marks.LeafMarks.marked.Goals as goal

pub returns-clause-small : goal.returns-clause-small
returns-clause-small c =
    let depth = c.self.inside.depth in
    let leaves : List Bool = drop (2 ^ depth) c.self.inside.marks in
    omega (arith, c.self.invariant.2, count_by-le-length (λ mark. mark) leaves, long_leaves depth c.self.inside.marks leaves c.self.invariant.1, few_leaves depth c.self.invariant.0)
