use Rattle.sent_pushes.proofs.LawLemmas.{next_greater, next_least, next_noted, none_next}
use Rattle.sent_pushes.proofs.laws.the_next_number_is_the_least.Goals as goal

pub returns-clause-greater : goal.returns-clause-greater
returns-clause-greater c = next_greater

pub returns-clause-noted : goal.returns-clause-noted
returns-clause-noted c = next_noted

pub returns-clause-least : goal.returns-clause-least
returns-clause-least c = next_least

pub returns-clause-last : goal.returns-clause-last
returns-clause-last c = none_next
