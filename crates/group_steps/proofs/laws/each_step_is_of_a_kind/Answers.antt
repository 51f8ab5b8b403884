use Rattle.group_steps.specs.Devices.{devices}
use Rattle.group_steps.proofs.KindLemmas.{each_kind}
use Rattle.group_steps.proofs.laws.each_step_is_of_a_kind.Goals as goal

pub returns : goal.returns
returns g c verifier by = each_kind c.laws_hold.ensures (devices g.D.Disk g.G.Signer g.V.Verifier verifier) by
