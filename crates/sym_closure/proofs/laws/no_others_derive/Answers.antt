use Rattle.sym_closure.proofs.SecrecyLemmas.{no_others, nobody_yet, all_in_reach}
use Rattle.sym_closure.proofs.laws.no_others_derive.Goals as goal

pub returns-clause-traffic : goal.returns-clause-traffic
returns-clause-traffic c = no_others c.laws_hold.ensures c.each_law_holds.ensures

pub returns-clause-to_come : goal.returns-clause-to_come
returns-clause-to_come c = nobody_yet c.laws_hold.ensures c.each_law_holds.ensures

pub returns-clause-within_reach : goal.returns-clause-within_reach
returns-clause-within_reach c = all_in_reach c.laws_hold.ensures c.each_law_holds.ensures
