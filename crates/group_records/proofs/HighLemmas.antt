-- The SPI of the traffic key of a batch that is read has its highest bit set.
use Rattle.std.proofs.Common.{◌≡◌, ℕ, ◌≤◌, List, Ok}
use Rattle.std.proofs.lemmas.Bool.{leb-true}
use Rattle.std.specs.Prelude.{nat_le}
use Rattle.group_terms.specs.Octets.{key_octets, integrity_octets, traffic_spi_octets}
use Rattle.group_terms.specs.declared.values.TrafficValue.{TrafficValue}
use Rattle.group_terms.specs.declared.wires.WireWhat.TheVariants.{Value, Version}
use Rattle.gd_wire.specs.Readings.{from_start, value_of, here, octets, octet, octet_at, number, long_number, due_octet, end}
use Rattle.gd_wire.proofs.AlwaysLemmas.{Always, always_give, always_check, always_from, always_then, always_next}
use Rattle.gd_wire.proofs.ReadingLemmas.{value_ok}
use Rattle.group_records.specs.Readings.{many, change, node, traffic, batch_record}
use Rattle.group_records.specs.Texts.{batch_kind, batch_version}
use Rattle.group_records.specs.declared.batches.Stored.{Stored}

abbrev IsHigh : TrafficValue → Type 0
IsHigh value = 128 ≤ octet_at value.spi 0

traffic_high : Always IsHigh traffic
unfolding traffic
traffic_high =
    let P = IsHigh in
    always_then P (octets key_octets) _ (λ cipher_key. always_then P (octets integrity_octets) _ (λ integrity_key. always_then P here _ (λ at.
    always_then P (octets traffic_spi_octets) _ (λ spi. always_check P (nat_le 128 (octet_at spi 0)) Value at _ (λ due.
    always_give P (record { cipher_key = cipher_key; integrity_key = integrity_key; spi = spi }) (leb-true 128 (octet_at spi 0) due))))))

batch_high : Always (λ stored. IsHigh stored.values.traffic) batch_record
unfolding batch_record
batch_high =
    let P : Stored → Type 0 = λ stored. IsHigh stored.values.traffic in
    always_next P (due_octet batch_kind Value) _ (always_next P (due_octet batch_version Version) _ (always_then P long_number _ (λ epoch.
    always_then P long_number _ (λ sequence. always_then P here _ (λ at. always_then P octet _ (λ count.
    always_check P (nat_le count 32) Value at _ (λ few. always_then P (many change count) _ (λ batch. always_then P number _ (λ size.
    always_then P (many node size) _ (λ nodes. always_from P IsHigh traffic _ traffic_high (λ value high. always_next P end _ (
    always_give P (record { batch = batch; epoch = epoch; sequence = sequence; values = record { nodes = nodes; traffic = value } }) high))))))))))))

pub read_high : (body : List ℕ) (stored : Stored) → value_of (batch_record (from_start 0 body)) ≡ Ok stored → 128 ≤ octet_at stored.values.traffic.spi 0
read_high body stored is = let read = value_ok (batch_record (from_start 0 body)) stored is in batch_high.holds (from_start 0 body) read.0 stored read.1
