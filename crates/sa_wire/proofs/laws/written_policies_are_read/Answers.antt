use Rattle.sa_wire.proofs.WrittenLemmas.{policy_reads}
use Rattle.sa_wire.proofs.laws.written_policies_are_read.Goals as goal

pub returns : goal.returns
returns c = λ policy base fits. policy_reads policy fits base
