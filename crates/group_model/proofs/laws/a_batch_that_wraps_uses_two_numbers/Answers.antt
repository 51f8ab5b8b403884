use Rattle.group_model.proofs.SequenceLemmas.{sequence_at-new}
use Rattle.group_model.proofs.laws.a_batch_that_wraps_uses_two_numbers.Goals as goal

pub returns : goal.returns
returns c depth batches batch = sequence_at-new depth batches batch
