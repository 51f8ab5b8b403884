-- Bodies that are written are read again.
use Rattle.std.proofs.Common.{◌≡◌, ℕ, suc, ◌+◌, ◌*◌, ◌≤◌, true, List, [], ◌∷◌, ◌++◌, map, length, None, Some, Result, Ok, if◌then◌else◌}
use Rattle.std.proofs.Common.{refl, sym, ap, ◌∙◌, append-nil, length-append, arith}
use Rattle.std.specs.Prelude.{◌==◌, ◌||◌}
use Rattle.byteorder.specs.Endian.{big_bytes}
use Rattle.group_terms.specs.Octets.{rekey_spi_octets}
use Rattle.group_terms.specs.declared.wires.WireFault.{WireFault}
use Rattle.group_terms.specs.declared.wires.WireWhat.TheVariants.{Short, Reserved, Value}
use Rattle.gd_wire.specs.Readings.{Cursor, Reading, and_then, back_to, ◌>>=◌, ◌>>◌, value_of, here, check, end, give, octets, due_number}
use Rattle.kd_wire.specs.declared.spans.UpdateSpan.{UpdateSpan}
use Rattle.kd_wire.specs.declared.updates.UpdateArray.{UpdateArray}
use Rattle.kd_wire.specs.Arrays.{PlacedUpdates, updates, gives_root}
use Rattle.kd_wire.specs.Bodies.{Kd, kd, kd_of, one_packet, two_packets, traffic_alone, updates_alone, update_packet}
use Rattle.kd_wire.specs.Spis.{spi_place}
use Rattle.kd_wire.specs.Texts.{Sealed, AreOfOnePush, packet_text, body_text, updates_text, update_kd}
use Rattle.kd_wire.specs.UpdateTexts.{AreUpdates}
use Rattle.gd_wire.proofs.ReadingLemmas.{mapped_ok}
use Rattle.gd_wire.proofs.ReadsLemmas.{cursor, reads_octets, reads_number, reads_due_octet, reads_due_number, section_read}
use Rattle.kd_wire.proofs.FormLemmas.{given_of}
use Rattle.kd_wire.proofs.WrittenUpdates.{placed_of, updates_read, jobs_long, root_same}

-- ---- what comes before the packets

pub one_of : (packet : List ℕ) (base : ℕ) → kd (cursor base 0 (body_text 1 packet)) ≡ one_packet (cursor base 4 packet)
unfolding kd
one_of packet base =
    ap (λ (read : Result (ℕ × Cursor) WireFault). and_then read (λ count. check (count == 1 || count == 2) Value (base + 0)
    >> (due_number 0 Reserved >> (if count == 2 then two_packets else one_packet))))
    ((reads_number 1 (omega arith)).reads base 0 (0 ∷ 0 ∷ packet))
    ∙ ap (λ (read : Result (Unit {0} × Cursor) WireFault). and_then read (λ done. one_packet))
    ((reads_due_number 0 Reserved (omega arith) refl).reads base 2 packet)

pub two_of : (packets : List ℕ) (base : ℕ) → kd (cursor base 0 (body_text 2 packets)) ≡ two_packets (cursor base 4 packets)
unfolding kd
two_of packets base =
    ap (λ (read : Result (ℕ × Cursor) WireFault). and_then read (λ count. check (count == 1 || count == 2) Value (base + 0)
    >> (due_number 0 Reserved >> (if count == 2 then two_packets else one_packet))))
    ((reads_number 2 (omega arith)).reads base 0 (0 ∷ 0 ∷ packets))
    ∙ ap (λ (read : Result (Unit {0} × Cursor) WireFault). and_then read (λ done. two_packets))
    ((reads_due_number 0 Reserved (omega arith) refl).reads base 2 packets)

-- ---- packets for keys of the tree

-- what is in one after its header
abbrev pub lkh_body : List ℕ → List ℕ → List ℕ
lkh_body spi attributes = 16 ∷ spi ++ attributes

pub lkh_text : (spi attributes : List ℕ) → length spi ≡ rekey_spi_octets
    → packet_text 3 spi attributes ≡ 3 ∷ 0 ∷ big_bytes 2 (4 + length (lkh_body spi attributes)) ++ (lkh_body spi attributes ++ [])
lkh_text spi attributes long =
    let size : 5 + length spi + length attributes ≡ 4 + length (lkh_body spi attributes) = omega (arith, length-append spi attributes) in
    (λ i. 3 ∷ 0 ∷ big_bytes 2 (size i) ++ (long i ∷ spi ++ attributes))
    ∙ ap (λ body. 3 ∷ 0 ∷ big_bytes 2 (4 + length (lkh_body spi attributes)) ++ body) (sym (append-nil (lkh_body spi attributes)))

-- the SPI, and then what is read so
abbrev pub lkh_reading : {A : Type 0} → Reading A → Reading (ℕ × (List ℕ × A))
lkh_reading inner = do
  at ← spi_place rekey_spi_octets
  spi ← octets rekey_spi_octets
  given ← inner
  give (at, (spi, given))

pub lkh_read : {A : Type 0} (inner : Reading A) (spi attributes : List ℕ) (given : A) (base at : ℕ) (after : Cursor) → length spi
    ≡ rekey_spi_octets
    → inner (cursor base (at + 1 + 16) attributes) ≡ Ok (given, after)
    → lkh_reading inner (cursor base at (lkh_body spi attributes)) ≡ Ok ((base + (at + 1), (spi, given)), after)
unfolding spi_place
lkh_read {A} inner spi attributes given base at after long is =
    let after_spi : ℕ → List ℕ → Reading (ℕ × (List ℕ × A)) = λ at spi. inner >>= λ given. give (at, (spi, given)) in
    ap (λ (read : Result (Unit {0} × Cursor) WireFault). and_then (and_then read (λ done. here))
    (λ (at : ℕ). octets rekey_spi_octets >>= after_spi at))
    ((reads_due_octet rekey_spi_octets Value refl).reads base at (spi ++ attributes))
    ∙ ap (λ (read : Result (List ℕ × Cursor) WireFault). and_then read (after_spi (base + (at + 1))))
    ((reads_octets rekey_spi_octets spi long).reads base (at + 1) attributes)
    ∙ ap (λ size. after_spi (base + (at + 1)) spi (cursor base (at + 1 + size) attributes)) long
    ∙ ap (λ (read : Result (A × Cursor) WireFault). and_then read (λ (given : A). give (base + (at + 1), (spi, given)))) is

-- ---- a body with update arrays

-- where this is read of the text of the arrays, with the root's key, the whole body is read
pub arrays_read : (spi text : List ℕ) (placed : PlacedUpdates) (base : ℕ) (end_of_text : Cursor) → length spi ≡ rekey_spi_octets → length text ≤ 65000
    → updates (cursor base 25 text) ≡ Ok (placed, end_of_text) → gives_root placed.arrays ≡ true
    → kd_of base (update_kd spi text) ≡ Ok (given_of (base + 9, (spi, placed)))
unfolding one_packet updates_alone update_packet end
arrays_read spi text placed base end_of_text long few is root =
    let body : List ℕ = lkh_body spi text in
    let size : length body ≡ 17 + length text = ap suc (length-append spi text ∙ ap (λ size. size + length text) long) ∙ omega arith in
    let after : Cursor = cursor base (8 + length body) [] in
    let to_packet : ℕ × Cursor → Reading Kd = λ packet. if packet.0 == 1 then traffic_alone packet.1 else updates_alone packet.1 in
    let to_end : ℕ × (List ℕ × PlacedUpdates) → Reading Kd = λ lkh. end
    >> (here >>= λ at. check (gives_root lkh.1.1.arrays) Short at >> give (given_of lkh)) in
    ap value_of (
    one_of (packet_text 3 spi text) base
    ∙ ap (λ left. one_packet (cursor base 4 left)) (lkh_text spi text long)
    ∙ ap (λ (read : Result ((ℕ × Cursor) × Cursor) WireFault). and_then read to_packet)
    (section_read (1 ∷ 3 ∷ []) 3 body base 4 [] refl (omega (arith, size, few)))
    ∙ ap (λ (read : Result ((ℕ × (List ℕ × PlacedUpdates)) × Cursor) WireFault). and_then (back_to after read) to_end)
    (lkh_read updates spi text placed base 8 end_of_text long is)
    ∙ ap (λ root. (check root Short (base + (8 + length body)) >> give (given_of (base + 9, (spi, placed)))) after) root
    )

-- so that with the arrays of a push is
pub push_reads : (spi : List ℕ) (jobs : List Sealed) (base : ℕ) → length spi ≡ rekey_spi_octets → AreOfOnePush jobs
    → kd_of base (update_kd spi (updates_text jobs)) ≡ Ok (given_of (base + 9, (spi, placed_of 25 jobs)))
push_reads spi jobs base long push =
    let few = push.few in
    arrays_read spi (updates_text jobs) (placed_of 25 jobs) base (cursor base (25 + 64 * length jobs) []) long
    (omega (arith, jobs_long jobs push.fit, few)) (updates_read base 25 jobs push) (root_same jobs ∙ push.root)

-- and that with any text of update attributes
pub text_reads : (spi text : List ℕ) (arrays : List UpdateArray) (base : ℕ) → length spi ≡ rekey_spi_octets → length text ≤ 65000 → AreUpdates arrays text
    → (span : UpdateSpan) × (kd_of base (update_kd spi text) ≡ Ok (given_of (base + 9, (spi, record { arrays = arrays; span = span }))))
text_reads spi text arrays base long few are =
    let end_of_text = cursor base (25 + length text) [] in
    let read = mapped_ok (λ (placed : PlacedUpdates). placed.arrays) (updates (cursor base 25 text)) arrays end_of_text (are.reads base 25) in
    let root : gives_root read.0.arrays ≡ true = ap gives_root read.2 ∙ are.root in (
      read.0.span,
      arrays_read spi text read.0 base end_of_text long few read.1 root
          ∙ ap (λ arrays. Ok (given_of (base + 9, (spi, record { arrays = arrays; span = read.0.span })))) read.2,
    )
