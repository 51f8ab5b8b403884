use Rattle.std.proofs.Common.{◌^◌, ◌∙◌, drop, ap, sym}
use Rattle.std.specs.List.{count_by}
use Rattle.group_terms.specs.Positions.{marks_of}
use Rattle.group_terms.proofs.LeafMarkLemmas.{leaves-marks_of}
use Rattle.group_terms.proofs.leaf_marks.LeafMarks.of.Goals as goal

pub invariant_of-result : goal.invariant_of-result
invariant_of-result c = (
  c.requires.not_deep,
  c.in_ok-marks.ensures.marks
      ∙ ap (marks_of c.args.depth) (sym (leaves-marks_of c.args.depth c.args.leaves.now c.requires.leaves) ∙ ap (λ marks. drop (2 ^ c.args.depth) marks) (sym c.in_ok-marks.ensures.marks)),
  c.count_marked.ensures ∙ ap (count_by (λ mark. mark)) (sym (leaves-marks_of c.args.depth c.args.leaves.now c.requires.leaves) ∙ ap (λ marks. drop (2 ^ c.args.depth) marks) (sym c.in_ok-marks.ensures.marks)),
)

pub returns : goal.returns
returns c = λ i. record {
  depth = c.args.depth;
  leaves = (ap (λ marks. drop (2 ^ c.args.depth) marks) c.in_ok-marks.ensures.marks ∙ leaves-marks_of c.args.depth c.args.leaves.now c.requires.leaves) i;
}
