use Rattle.std.proofs.Common.{◌^◌, arith}
use Rattle.std.proofs.lemmas.Grind.{pow_more}
use Rattle.group_terms.proofs.MarkLemmas.{zero_unmarked, children_marked}
use Rattle.group_terms.proofs.marks.a_mark_is_that_of_a_child.Goals as goal

pub returns-clause-none : goal.returns-clause-none
returns-clause-none c depth leaves = zero_unmarked depth (2 ^ depth) leaves (omega arith)

pub returns-clause-child : goal.returns-clause-child
returns-clause-child c depth leaves v same some inner = children_marked depth (2 ^ depth) leaves v some inner (omega arith) (omega (arith, same, pow_more 2 depth))
