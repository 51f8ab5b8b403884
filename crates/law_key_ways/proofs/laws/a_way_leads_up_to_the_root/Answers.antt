use Rattle.law_key_ways.proofs.WayLemmas.{halved_root, below_parent}
use Rattle.law_key_ways.proofs.laws.a_way_leads_up_to_the_root.Goals as goal

pub returns-clause-root : goal.returns-clause-root
returns-clause-root c = halved_root

pub returns-clause-parent : goal.returns-clause-parent
returns-clause-parent c = below_parent
