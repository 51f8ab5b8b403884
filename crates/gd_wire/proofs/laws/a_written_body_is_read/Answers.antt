use Rattle.gd_wire.proofs.BodyLemmas.{hash_written, nonce_written, signature_written, sequence_written, identification_written}
use Rattle.gd_wire.proofs.laws.a_written_body_is_read.Goals as goal

pub returns : goal.returns
returns c = record {
  hash = hash_written;
  nonce = nonce_written;
  signature = signature_written;
  sequence = sequence_written;
  identification = identification_written;
}
