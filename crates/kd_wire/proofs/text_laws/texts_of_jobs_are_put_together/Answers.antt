use Rattle.kd_wire.proofs.JobLemmas.{one_more_text, both_texts}
use Rattle.kd_wire.proofs.text_laws.texts_of_jobs_are_put_together.Goals as goal

pub returns-clause-one_more : goal.returns-clause-one_more
returns-clause-one_more c = one_more_text

pub returns-clause-both : goal.returns-clause-both
returns-clause-both c = both_texts
