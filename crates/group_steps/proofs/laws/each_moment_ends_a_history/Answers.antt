use Rattle.group_steps.specs.Devices.{devices}
use Rattle.group_steps.proofs.MomentLemmas.{moments_end}
use Rattle.group_steps.proofs.laws.each_moment_ends_a_history.Goals as goal

pub returns : goal.returns
returns g c verifier by = moments_end (devices g.D.Disk g.G.Signer g.V.Verifier verifier) by
