use Rattle.sym_closure.proofs.EarlierLemmas.{earlier_too}
use Rattle.sym_closure.proofs.ServeLemmas.{serves}
use Rattle.sym_closure.proofs.laws.a_history_serves_its_members.Goals as goal

pub returns-clause-serves : goal.returns-clause-serves
returns-clause-serves c = serves c.laws_hold.ensures c.each_law_holds.ensures

pub returns-clause-earlier : goal.returns-clause-earlier
returns-clause-earlier c = earlier_too c.laws_hold.ensures c.each_law_holds.ensures
