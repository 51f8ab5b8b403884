use Rattle.group_steps.specs.Devices.{devices}
use Rattle.group_steps.proofs.GrowthLemmas.{grow}
use Rattle.group_steps.proofs.SureLemmas.{sure_true}
use Rattle.group_steps.proofs.laws.a_group_grows_by_what_is_sent.Goals as goal

pub returns-clause-grows : goal.returns-clause-grows
returns-clause-grows g c verifier by =
    grow c.laws_hold.ensures (devices g.D.Disk g.G.Signer g.V.Verifier verifier) by (c.messages_are_of_the_group.ensures by.signer by.block)

pub returns-clause-sure : goal.returns-clause-sure
returns-clause-sure g c verifier by = sure_true (devices g.D.Disk g.G.Signer g.V.Verifier verifier) by
