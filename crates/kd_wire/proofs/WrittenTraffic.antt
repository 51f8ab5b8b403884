-- A traffic key that is written is read again: its text is written out octet by octet, and then the readings compute.
use Rattle.std.proofs.Common.{◌≡◌, ℕ, ◌+◌, [], map, None, Some, Ok, refl, subst}
use Rattle.std.specs.List.{range_with_len}
use Rattle.gd_wire.specs.Readings.{octet_at}
use Rattle.gd_wire.specs.Readings.{part, octets, octet, number, long_number, due_octet, due_number, due_kind, section, end}
use Rattle.gd_wire.specs.Attributes.{attribute_type, no_more_attributes}
use Rattle.gd_wire.proofs.FieldLemmas.{written_out}
use Rattle.group_terms.specs.declared.values.TrafficValue.{TrafficValue}
use Rattle.kd_wire.specs.Arrays.{long_type}
use Rattle.kd_wire.specs.Bodies.{kd, one_packet, traffic_alone, kd_view}
use Rattle.kd_wire.specs.Spis.{spi_place}
use Rattle.kd_wire.specs.Texts.{traffic_kd, TrafficFits}
use Rattle.kd_wire.specs.Traffic.{traffic, traffic_keys, key_kind, cipher_key_first}

-- what is read of the body that is written for a traffic key
abbrev ReadsTraffic : TrafficValue → Type 0
ReadsTraffic value =
    (base : ℕ) → kd_view base (traffic_kd value) ≡ Ok (record {
      tek = Some value;
      lkh_spi = None;
      download = [];
      updates = None;
      spis =
          record { tek = Some (base + 9); lkh = None };
    })

-- a traffic key and its SPI by their octets
abbrev pub traffic_of : (ℕ → ℕ) → (ℕ → ℕ) → (ℕ → ℕ) → TrafficValue
traffic_of cipher_key integrity_key spi = record {
  cipher_key = map cipher_key (range_with_len 0 16);
  integrity_key = map integrity_key (range_with_len 0 32);
  spi = map spi (range_with_len 0 4);
}

written_reads : (cipher_key integrity_key spi : ℕ → ℕ) → ReadsTraffic (traffic_of cipher_key integrity_key spi)
unfolding kd one_packet traffic_alone traffic traffic_keys key_kind cipher_key_first long_type spi_place attribute_type no_more_attributes section due_kind due_number due_octet number octet octets part end
written_reads cipher_key integrity_key spi base = refl

-- each traffic key that fits is one that is written out
pub traffic_out : (value : TrafficValue) → TrafficFits value → traffic_of (octet_at value.cipher_key) (octet_at value.integrity_key)
    (octet_at value.spi) ≡ value
traffic_out value fits = λ i. record {
  cipher_key = written_out 16 value.cipher_key fits.cipher_key i;
  integrity_key = written_out 32 value.integrity_key fits.integrity_key i;
  spi = written_out 4 value.spi fits.spi i;
}

pub traffic_reads : (value : TrafficValue) (base : ℕ) → TrafficFits value
    → kd_view base (traffic_kd value) ≡ Ok (record {
      tek = Some value;
      lkh_spi = None;
      download = [];
      updates = None;
      spis =
          record { tek = Some (base + 9); lkh = None };
    })
traffic_reads value base fits =
    subst ReadsTraffic (traffic_out value fits) (written_reads (octet_at value.cipher_key) (octet_at value.integrity_key)
    (octet_at value.spi)) base
