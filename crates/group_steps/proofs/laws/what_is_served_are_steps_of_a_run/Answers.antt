use Rattle.group_steps.specs.Devices.{devices}
use Rattle.group_steps.proofs.CountLemmas.{served_counted}
use Rattle.group_steps.proofs.ServedLemmas.{reach, run_steps}
use Rattle.group_steps.proofs.laws.what_is_served_are_steps_of_a_run.Goals as goal

pub returns-clause-members : goal.returns-clause-members
returns-clause-members g c signer block = reach g.D.Disk g.G.Signer signer block

pub returns-clause-steps : goal.returns-clause-steps
returns-clause-steps g c verifier by = run_steps (devices g.D.Disk g.G.Signer g.V.Verifier verifier) by

pub returns-clause-faults : goal.returns-clause-faults
returns-clause-faults g c signer block = served_counted g.D.Disk g.G.Signer signer block
