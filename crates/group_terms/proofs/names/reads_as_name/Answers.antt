-- Behind the tests of the length, the octets decide.
use Rattle.std.proofs.Common.{sym, ◌∙◌}
use Rattle.group_terms.proofs.NameLemmas.{is_name-within}
use Rattle.group_terms.proofs.names.reads_as_name.Goals as goal

pub returns-then-text-le-MOST_OCTETS-clause-test : goal.returns-then-text-le-MOST_OCTETS-clause-test
returns-then-text-le-MOST_OCTETS-clause-test c = c.each_is_of_a_name.ensures ∙ sym (is_name-within c.args.text.now c.if-text-le-MOST_OCTETS.true.0 c.if-text-le-MOST_OCTETS.true.1)
