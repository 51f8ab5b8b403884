use Rattle.kd_wire.proofs.JobLemmas.{job_size, jobs_size}
use Rattle.kd_wire.proofs.SizeLemmas.{updates_size, traffic_kd_size, update_kd_size, reply_kd_size}
use Rattle.kd_wire.proofs.text_laws.written_texts_have_their_size.Goals as goal

pub returns : goal.returns
returns c = record {
  update = job_size;
  updates = jobs_size;
  sealed = updates_size;
  traffic_kd = traffic_kd_size;
  update_kd = update_kd_size;
  reply_kd = λ keyed fits. reply_kd_size keyed fits.spi fits.keys fits.traffic;
}
