use Rattle.std.proofs.Common.{length, refl}
use Rattle.gd_wire.proofs.FieldLemmas.{octets_written, octet_written, number_written, long_number_written}
use Rattle.gd_wire.proofs.laws.a_written_field_is_read.Goals as goal

pub returns : goal.returns
returns c = record {
  octets = λ base at field later. octets_written (length field) base at field later refl;
  octet = octet_written;
  number = number_written;
  long_number = long_number_written;
}
