use Rattle.group_steps.proofs.ServedCrashLemmas.{crashes_leave_served}
use Rattle.group_steps.proofs.laws.a_crash_leaves_a_moment_of_what_was_served.Goals as goal

pub returns : goal.returns
returns g c signer block = crashes_leave_served g.D.Disk g.G.Signer signer block g.met.D.Disk.only_now
