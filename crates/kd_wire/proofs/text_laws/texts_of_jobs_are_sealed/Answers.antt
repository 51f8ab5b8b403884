use Rattle.kd_wire.proofs.JobLemmas.{sealed_jobs}
use Rattle.kd_wire.proofs.text_laws.texts_of_jobs_are_sealed.Goals as goal

pub returns : goal.returns
returns c = sealed_jobs
