use Rattle.group_steps.specs.Devices.{devices}
use Rattle.group_steps.proofs.CountLemmas.{all_counted, disks_stay}
use Rattle.group_steps.proofs.laws.faults_are_counted.Goals as goal

pub returns-clause-counted : goal.returns-clause-counted
returns-clause-counted g c verifier by = all_counted (devices g.D.Disk g.G.Signer g.V.Verifier verifier) by

pub returns-clause-honest : goal.returns-clause-honest
returns-clause-honest g c verifier by = disks_stay (devices g.D.Disk g.G.Signer g.V.Verifier verifier) by
