use Rattle.group_records.proofs.WrittenLemmas.{head_reads, batch_reads}
use Rattle.group_records.proofs.laws.a_written_record_is_read.Goals as goal

pub returns-clause-head : goal.returns-clause-head
returns-clause-head c =
    let field = c.a_written_field_is_read.ensures in
    head_reads (record { octets = field.octets; octet = field.octet; number = field.number; long_number = field.long_number })

pub returns-clause-batch : goal.returns-clause-batch
returns-clause-batch c =
    let field = c.a_written_field_is_read.ensures in
    batch_reads (record { octets = field.octets; octet = field.octet; number = field.number; long_number = field.long_number })
