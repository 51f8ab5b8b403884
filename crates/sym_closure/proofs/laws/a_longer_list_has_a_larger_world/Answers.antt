use Rattle.sym_closure.proofs.PrefixLemmas.{world-take, holdings-take}
use Rattle.sym_closure.proofs.laws.a_longer_list_has_a_larger_world.Goals as goal

pub returns-clause-sent : goal.returns-clause-sent
returns-clause-sent c = world-take c.laws_hold.ensures

pub returns-clause-held : goal.returns-clause-held
returns-clause-held c = holdings-take c.laws_hold.ensures
