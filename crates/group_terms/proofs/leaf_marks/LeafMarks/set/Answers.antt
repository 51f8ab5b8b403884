use Rattle.std.proofs.Common.{◌≡◌, ◌+◌, ◌<◌, ◌^◌, ◌∙◌, ℕ, Bool, false, cond, List, drop, length, get_or, set, sym, ap, subst, arith}
use Rattle.std.specs.List.{count_by}
use Rattle.std.proofs.lemmas.List.{length-set, get_or-drop}
use Rattle.std.proofs.lemmas.List.Sums.{count_by-le-length}
use Rattle.group_terms.specs.LeafMarks.{Marked}
use Rattle.group_terms.specs.Lends.{overwritten}
use Rattle.group_terms.specs.Positions.{marks_of}
use Rattle.group_terms.proofs.LeafMarkLemmas.{leaves-marks_of, long_leaves, overwritten_whole, count_by-set, few_leaves}
use Rattle.group_terms.proofs.leaf_marks.LeafMarks.set.Goals as goal

pub recounted-self-inside-requires-clause-few : goal.recounted-self-inside-requires-clause-few
recounted-self-inside-requires-clause-few c =
    let depth = c.self.inside.depth in
    let leaves : List Bool = drop (2 ^ depth) c.self.inside.marks in
    omega (arith, c.self.invariant.2, count_by-le-length (λ mark. mark) leaves, long_leaves depth c.self.inside.marks leaves c.self.invariant.1, few_leaves depth c.self.invariant.0)

pub invariant_of-self : goal.invariant_of-self
invariant_of-self c =
    let depth = c.self.inside.depth in
    let before : List Bool = drop (2 ^ depth) c.self.inside.marks in
    let after : List Bool = set before c.args.place c.args.mark in
    let same : length after ≡ 2 ^ depth = length-set before c.args.place c.args.mark ∙ long_leaves depth c.self.inside.marks before c.self.invariant.1 in
    let now : overwritten c.self.inside.marks c.set_mark.new.marks ≡ marks_of depth after = overwritten_whole depth c.self.inside.marks c.set_mark.new.marks before after c.self.invariant.1
    (c.set_mark.ensures ∙ ap (λ (marks : List Bool). marks_of depth (set (drop (2 ^ depth) marks) c.args.place c.args.mark)) c.as_mut_slice.ensures.value) in
    let first : c.count.result ≡ 2 ^ depth = c.count.ensures.leaves ∙ ap (λ (marked : Marked). 2 ^ marked.depth) (sym c.self.view_is) in
    let was : get_or c.as_slice.result.now (c.count.result + c.args.place) false ≡ get_or before c.args.place false =
    (λ i. get_or (c.as_slice.ensures i) (first i + c.args.place) false) ∙ sym (get_or-drop (2 ^ depth) c.self.inside.marks c.args.place false) in
    let low : c.args.place < length before =
    omega (arith, subst (λ (marked : Marked). c.args.place < 2 ^ marked.depth) (sym c.self.view_is) c.requires, long_leaves depth c.self.inside.marks before c.self.invariant.1) in
    let counted : c.recounted-self-inside.result ≡ count_by (λ mark. mark) (drop (2 ^ depth) (overwritten c.self.inside.marks c.set_mark.new.marks)) =
    omega (
      arith,
      c.recounted-self-inside.ensures,
      ap (λ b. cond {A = ℕ} b 1 0) was,
      count_by-set before c.args.place c.args.mark low,
      c.self.invariant.2,
      ap (count_by (λ mark. mark)) (ap (drop (2 ^ depth)) now ∙ leaves-marks_of depth after same),
    ) in
    (c.self.invariant.0, now ∙ ap (marks_of depth) (sym (ap (drop (2 ^ depth)) now ∙ leaves-marks_of depth after same)), counted)

pub returns : goal.returns
returns c =
    let depth = c.self.inside.depth in
    let before : List Bool = drop (2 ^ depth) c.self.inside.marks in
    let after : List Bool = set before c.args.place c.args.mark in
    let same : length after ≡ 2 ^ depth = length-set before c.args.place c.args.mark ∙ long_leaves depth c.self.inside.marks before c.self.invariant.1 in
    let now : overwritten c.self.inside.marks c.set_mark.new.marks ≡ marks_of depth after = overwritten_whole depth c.self.inside.marks c.set_mark.new.marks before after c.self.invariant.1
    (c.set_mark.ensures ∙ ap (λ (marks : List Bool). marks_of depth (set (drop (2 ^ depth) marks) c.args.place c.args.mark)) c.as_mut_slice.ensures.value) in
    (λ i. record { depth = depth; leaves = (ap (drop (2 ^ depth)) now ∙ leaves-marks_of depth after same) i })
    ∙ ap (λ (marked : Marked). record { depth = marked.depth; leaves = set marked.leaves c.args.place c.args.mark }) c.self.view_is
