use Rattle.group_steps.specs.Devices.{devices}
use Rattle.group_steps.proofs.CrashLemmas.{crashes_leave}
use Rattle.group_steps.proofs.OpenedLemmas.{opened_have}
use Rattle.group_steps.proofs.laws.a_crash_leaves_a_moment_of_the_history.Goals as goal

pub returns-clause-opened : goal.returns-clause-opened
returns-clause-opened g c verifier by = opened_have (devices g.D.Disk g.G.Signer g.V.Verifier verifier) by

pub returns-clause-crashes : goal.returns-clause-crashes
returns-clause-crashes g c verifier by = crashes_leave (devices g.D.Disk g.G.Signer g.V.Verifier verifier) by g.met.D.Disk.only_now
