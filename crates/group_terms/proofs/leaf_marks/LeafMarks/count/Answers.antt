use Rattle.std.proofs.Common.{◌≡◌, ◌/◌, ◌^◌, ◌∙◌, Bool, List, drop, length, ap, arith}
use Rattle.std.proofs.lemmas.Grind.{pow_more}
use Rattle.group_terms.specs.LeafMarks.{Marked}
use Rattle.group_terms.proofs.LeafMarkLemmas.{long_marks, long_leaves}
use Rattle.group_terms.proofs.leaf_marks.LeafMarks.count.Goals as goal

pub returns-clause-leaves : goal.returns-clause-leaves
returns-clause-leaves c =
    let depth = c.self.inside.depth in
    let half : c.len.result / 2 ≡ 2 ^ depth =
    omega (arith, c.len.ensures, long_marks depth c.self.inside.marks (drop (2 ^ depth) c.self.inside.marks) c.self.invariant.1, pow_more 2 depth) in
    half ∙ ap (λ (marked : Marked). 2 ^ marked.depth) c.self.view_is

pub returns-clause-each : goal.returns-clause-each
returns-clause-each c =
    let depth = c.self.inside.depth in
    let leaves : List Bool = drop (2 ^ depth) c.self.inside.marks in
    let half : c.len.result / 2 ≡ length leaves =
    omega (arith, c.len.ensures, long_marks depth c.self.inside.marks leaves c.self.invariant.1, long_leaves depth c.self.inside.marks leaves c.self.invariant.1, pow_more 2 depth) in
    half ∙ ap (λ (marked : Marked). length marked.leaves) c.self.view_is
