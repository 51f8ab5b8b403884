use Rattle.std.proofs.Common.{◌∙◌, ◌^◌, sym, ap}
use Rattle.std.specs.List.{count_by}
use Rattle.group_terms.proofs.LeafMarkLemmas.{none_marked, none_counted}
use Rattle.group_terms.proofs.leaf_marks.LeafMarks.none.Goals as goal

pub invariant_of-result : goal.invariant_of-result
invariant_of-result c = (
  c.requires,
  (none_marked c.args.depth c.in_ok-marks.marks c.in_ok-marks.ensures).1,
  sym (ap (count_by (λ mark. mark)) (none_marked c.args.depth c.in_ok-marks.marks c.in_ok-marks.ensures).0 ∙ none_counted (2 ^ c.args.depth)),
)

pub returns : goal.returns
returns c = λ i. record { depth = c.args.depth; leaves = (none_marked c.args.depth c.in_ok-marks.marks c.in_ok-marks.ensures).0 i }
