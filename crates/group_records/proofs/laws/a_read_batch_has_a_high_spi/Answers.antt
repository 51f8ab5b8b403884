use Rattle.group_records.proofs.HighLemmas.{read_high}
use Rattle.group_records.proofs.laws.a_read_batch_has_a_high_spi.Goals as goal

pub returns : goal.returns
returns c = read_high
