use Rattle.std.proofs.Common.{◌^◌, ◌∙◌, Bool, false, List, drop, length, get_or, ap, arith}
use Rattle.std.specs.List.{list_any}
use Rattle.std.proofs.lemmas.Grind.{pow_more}
use Rattle.group_terms.specs.LeafMarks.{Marked}
use Rattle.group_terms.proofs.BelowLemmas.{pow_pos}
use Rattle.group_terms.proofs.LeafMarkLemmas.{get_or-marks_of, any-marked, long_marks, long_leaves}
use Rattle.group_terms.proofs.leaf_marks.LeafMarks.any.Goals as goal

pub bounds-as_slice-1 : goal.bounds-as_slice-1
bounds-as_slice-1 c =
    let depth = c.self.inside.depth in
    omega (arith, ap length c.as_slice.ensures, long_marks depth c.self.inside.marks (drop (2 ^ depth) c.self.inside.marks) c.self.invariant.1, pow_more 2 depth, pow_pos depth)

pub returns : goal.returns
returns c =
    let depth = c.self.inside.depth in
    let leaves : List Bool = drop (2 ^ depth) c.self.inside.marks in
    ap (λ (marks : List Bool). get_or marks 1 false) (c.as_slice.ensures ∙ c.self.invariant.1)
    ∙ get_or-marks_of depth leaves 1 (omega (arith, pow_more 2 depth, pow_pos depth))
    ∙ any-marked depth (2 ^ depth) leaves (pow_pos depth) (omega (arith, long_leaves depth c.self.inside.marks leaves c.self.invariant.1, pow_more 2 depth))
    ∙ ap (λ (marked : Marked). list_any (λ mark. mark) marked.leaves) c.self.view_is
