use Rattle.std.proofs.Common.{◌+◌, ◌^◌, ◌<◌, ◌∙◌, Bool, false, List, drop, length, get_or, sym, ap, subst, arith}
use Rattle.group_terms.specs.LeafMarks.{Marked}
use Rattle.group_terms.specs.Positions.{some_leaf_below}
use Rattle.group_terms.proofs.LeafMarkLemmas.{get_or-marks_of, long_marks}
use Rattle.group_terms.proofs.leaf_marks.LeafMarks.is_below.Goals as goal

pub bounds-as_slice-v : goal.bounds-as_slice-v
bounds-as_slice-v c =
    let depth = c.self.inside.depth in
    let less : c.args.v < 2 ^ (depth + 1) = subst (λ (marked : Marked). c.args.v < 2 ^ (marked.depth + 1)) (sym c.self.view_is) c.requires in
    omega (arith, less, ap length c.as_slice.ensures, long_marks depth c.self.inside.marks (drop (2 ^ depth) c.self.inside.marks) c.self.invariant.1)

pub returns : goal.returns
returns c =
    let depth = c.self.inside.depth in
    let leaves : List Bool = drop (2 ^ depth) c.self.inside.marks in
    let less : c.args.v < 2 ^ (depth + 1) = subst (λ (marked : Marked). c.args.v < 2 ^ (marked.depth + 1)) (sym c.self.view_is) c.requires in
    ap (λ (marks : List Bool). get_or marks c.args.v false) (c.as_slice.ensures ∙ c.self.invariant.1)
    ∙ get_or-marks_of depth leaves c.args.v less
    ∙ ap (λ (marked : Marked). some_leaf_below marked.depth marked.leaves c.args.v) c.self.view_is
