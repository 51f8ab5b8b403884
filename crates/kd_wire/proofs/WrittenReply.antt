-- The body that is written for a member that registers is read again.
use Rattle.std.proofs.Common.{◌≡◌, ℕ, ◌+◌, ◌*◌, List, [], ◌∷◌, ◌++◌, length, None, Some, Result, Ok, refl, ap, ◌∙◌, subst, length-append}
use Rattle.std.proofs.Common.{arith}
use Rattle.byteorder.specs.Endian.{big_bytes}
use Rattle.group_terms.specs.declared.paths.Keyed.{Keyed}
use Rattle.group_terms.specs.declared.paths.PathKey.{PathKey}
use Rattle.group_terms.specs.declared.values.TrafficValue.{TrafficValue}
use Rattle.group_terms.specs.declared.wires.WireFault.{WireFault}
use Rattle.gd_wire.specs.Readings.{octet_at}
use Rattle.gd_wire.specs.Attributes.{long_text}
use Rattle.gd_wire.specs.Attributes.{attribute_type, no_more_attributes}
use Rattle.gd_wire.specs.Readings.{Cursor, Reading, and_then, back_to, ◌>>=◌, ◌>>◌, value_of, mapped, end, inside, give, part, octets}
use Rattle.gd_wire.specs.Readings.{octet, number, due_octet, section}
use Rattle.kd_wire.specs.Arrays.{long_type, download}
use Rattle.kd_wire.specs.Bodies.{Kd, kd_view, two_packets, download_packet}
use Rattle.kd_wire.specs.Spis.{spi_place}
use Rattle.kd_wire.specs.Texts.{packet_text, traffic_text, download_text, reply_kd, TrafficFits, KeyedFits}
use Rattle.kd_wire.specs.Traffic.{traffic, traffic_keys, key_kind, cipher_key_first}
use Rattle.gd_wire.proofs.ReadsLemmas.{cursor, section_read}
use Rattle.kd_wire.proofs.FormLemmas.{both_of}
use Rattle.kd_wire.proofs.SizeLemmas.{path_size}
use Rattle.kd_wire.proofs.WrittenArrays.{download_read}
use Rattle.kd_wire.proofs.WrittenBodies.{two_of, lkh_body, lkh_text, lkh_read}
use Rattle.kd_wire.proofs.WrittenTraffic.{traffic_of, traffic_out}

-- what is in the packet of a traffic key after its header
abbrev traffic_body : TrafficValue → List ℕ
traffic_body value = 4 ∷ value.spi ++ long_text 1 value.cipher_key ++ long_text 2 value.integrity_key

-- a traffic key of which this is so: its packet has a header that fits, and then the place of its SPI and it are read
record IsRead (value : TrafficValue) : Type 0 where
  pub long : length (traffic_body value) ≡ 61
  pub text : (rest : List ℕ) → traffic_text value ++ rest ≡ 1 ∷ 0 ∷ big_bytes 2 (4 + length (traffic_body value))
      ++ (traffic_body value ++ rest)
  pub reads : (base : ℕ) → traffic (cursor base 8 (traffic_body value)) ≡ Ok ((base + 9, value), cursor base 69 [])

out_is_read : (cipher_key integrity_key spi : ℕ → ℕ) → IsRead (traffic_of cipher_key integrity_key spi)
unfolding traffic traffic_keys key_kind cipher_key_first long_type spi_place attribute_type no_more_attributes due_octet number octet octets part
out_is_read cipher_key integrity_key spi = record { long = refl; text = λ rest. refl; reads = λ base. refl }

is_read : (value : TrafficValue) → TrafficFits value → IsRead value
is_read value fits = subst IsRead (traffic_out value fits) (out_is_read (octet_at value.cipher_key) (octet_at value.integrity_key)
    (octet_at value.spi))

-- what is read of the whole body
abbrev replied : ℕ → Keyed → Kd
replied base keyed = record {
  view = record {
    tek = Some keyed.traffic;
    lkh_spi = Some keyed.spi;
    download = keyed.path;
    updates = None;
    spis =
        record { tek = Some (base + 9); lkh = Some (base + 74) };
  };
  arrays = [];
}

pub reply_reads : (keyed : Keyed) (base : ℕ) → KeyedFits keyed → kd_view base (reply_kd keyed) ≡ Ok (replied base keyed).view
unfolding two_packets download_packet end
reply_reads keyed base fits =
    let tek = is_read keyed.traffic fits.traffic in
    let attributes : List ℕ = download_text keyed.path in
    let body : List ℕ = lkh_body keyed.spi attributes in
    let packet : List ℕ = packet_text 3 keyed.spi attributes in
    let most = fits.path.most in
    let spi = fits.spi in
    let size : length body ≡ 25 + 48 * length keyed.path = omega (
      arith,
      spi,
      path_size keyed.path fits.keys,
      length-append keyed.spi
          attributes,
    ) in
    let after : Cursor = cursor base (73 + length body) [] in
    let to_end : ℕ × TrafficValue → ℕ × (List ℕ × List PathKey) → Reading Kd = λ tek lkh. end >> give (both_of tek lkh) in
    let to_second : ℕ × TrafficValue → ℕ × Cursor → Reading Kd = λ tek second. inside second.1 download_packet >>= to_end tek in
    let to_section : ℕ × TrafficValue → Reading Kd = λ tek. section (3 ∷ []) >>= to_second tek in
    let to_first : ℕ × Cursor → Reading Kd = λ first. inside first.1 traffic >>= to_section in
    let whole =
    two_of (traffic_text keyed.traffic ++ packet) base
    ∙ ap (λ left. two_packets (cursor base 4 left)) (tek.text packet)
    ∙ ap (λ (read : Result ((ℕ × Cursor) × Cursor) WireFault). and_then read to_first)
    (section_read (1 ∷ []) 1 (traffic_body keyed.traffic) base 4 packet refl (let long = tek.long in omega arith))
    ∙ ap (λ size. and_then (back_to (cursor base (8 + size) packet) (traffic (cursor base 8 (traffic_body keyed.traffic)))) to_section)
    tek.long
    ∙ ap (λ (read : Result ((ℕ × TrafficValue) × Cursor) WireFault). and_then (back_to (cursor base 69 packet) read) to_section)
    (tek.reads base)
    ∙ ap (λ left. to_section (base + 9, keyed.traffic) (cursor base 69 left)) (lkh_text keyed.spi attributes spi)
    ∙ ap (λ (read : Result ((ℕ × Cursor) × Cursor) WireFault). and_then read (to_second (base + 9, keyed.traffic)))
    (section_read (3 ∷ []) 3 body base 69 [] refl (omega (arith, size, most)))
    ∙ ap (λ (read : Result ((ℕ × (List ℕ × List PathKey)) × Cursor) WireFault). and_then (back_to after read)
    (to_end (base + 9, keyed.traffic)))
    (lkh_read download keyed.spi attributes keyed.path base 73 _ spi (download_read keyed.path fits.keys fits.path base 90)) in
    ap (λ read. value_of (mapped (λ (given : Kd). given.view) read)) whole
