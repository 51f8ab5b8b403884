-- Where the update arrays of a body without fault are in it, and that their span has them.
use Rattle.std.proofs.Common.{◌≡◌, ℕ, ◌+◌, ◌-◌, ◌≤◌, Bool, true, false, List, [], ◌∷◌, ◌++◌, length, Some, Ok, if◌then◌else◌, refl, sym, ap}
use Rattle.std.proofs.Common.{◌∙◌, subst, append_assoc, append-nil, length-append, arith}
use Rattle.std.specs.Prelude.{◌==◌, ◌||◌, nat_le}
use Rattle.group_terms.specs.Octets.{rekey_spi_octets}
use Rattle.group_terms.specs.declared.wires.WireWhat.{WireWhat}
use Rattle.group_terms.specs.declared.wires.WireWhat.TheVariants.{Short, Length, Reserved, Value}
use Rattle.gd_wire.specs.Readings.{Cursor, Reading, ◌>>=◌, ◌>>◌, from_start, give, here, check, end, inside, octets, part, number}
use Rattle.gd_wire.specs.Readings.{due_octet, due_number, due_kind, section}
use Rattle.kd_wire.specs.declared.spans.UpdateSpan.{UpdateSpan}
use Rattle.kd_wire.specs.Arrays.{PlacedUpdates, updates, gives_root}
use Rattle.kd_wire.specs.Bodies.{Kd, kd, kd_of, update_packet, traffic_alone, updates_alone, one_packet, two_packets}
use Rattle.kd_wire.specs.Spans.{span_arrays}
use Rattle.kd_wire.specs.Spis.{spi_place}
use Rattle.gd_wire.proofs.AlwaysLemmas.{Always, always_give, always_check, always_then, always_next}
use Rattle.kd_wire.proofs.ArrayPlaces.{back_ok}
use Rattle.kd_wire.proofs.EpochLemmas.{NoUpdates, traffic_none, two_none}
use Rattle.kd_wire.proofs.FormLemmas.{given_of}
use Rattle.kd_wire.proofs.PlaceLemmas.{Passed, PartTook, part_took, local_octets, local_number, local_due_octet, local_due_number}
use Rattle.kd_wire.proofs.PlaceLemmas.{local_due_kind}
use Rattle.gd_wire.proofs.ReadingLemmas.{same_value, and_then_ok, value_ok}
use Rattle.gd_wire.proofs.ReadsLemmas.{cursor}
use Rattle.kd_wire.proofs.SpanPlaces.{updates_took, span_has}

-- what is left at a cursor is in this body, at its place
record Stands (body : List ℕ) (c : Cursor) : Type 0 where
  before : List ℕ
  later : List ℕ
  whole : body ≡ before ++ (c.left ++ later)
  at : c.at ≡ length before

module _ (body : List ℕ) where
  at_start : (base : ℕ) → Stands body (cursor base 0 body)
  at_start base = record { before = []; later = []; whole = sym (append-nil body); at = refl }

  moved : (c after : Cursor) (text : List ℕ) → Passed c after text → Stands body c → Stands body after
  moved c after text passed stands = record {
    before = stands.before ++ text;
    later = stands.later;
    whole = stands.whole ∙ ap (λ left. stands.before ++ (left ++ stands.later)) passed.left
        ∙ ap (λ left. stands.before ++ left) (append_assoc text after.left stands.later)
        ∙ sym (append_assoc stands.before text (after.left ++ stands.later));
    at = omega (arith, passed.at, stands.at, length-append stands.before text);
  }

  parted : (size : ℕ) (c v after : Cursor) → PartTook size c v after → Stands body c → Stands body v
  parted size c v after took stands = record {
    before = stands.before;
    later = after.left ++ stands.later;
    whole = stands.whole ∙ ap (λ left. stands.before ++ (left ++ stands.later)) took.passed.left
        ∙ ap (λ left. stands.before ++ left) (append_assoc v.left after.left stands.later);
    at = took.place ∙ stands.at;
  }

checked_ok : {A : Type 0} (test : Bool) (what : WireWhat) (at : ℕ) (next : Reading A) (c after : Cursor) (x : A)
    → (check test what at >> next) c ≡ Ok (x, after) → next c ≡ Ok (x, after)
checked_ok true what at next c after x is = is
checked_ok false what at next c after x is = absurd (cc)

section_stands : (body kinds : List ℕ) (c after : Cursor) (packet : ℕ × Cursor) → Stands body c → section kinds c ≡ Ok (packet, after)
    → Stands body packet.1
unfolding section
section_stands body kinds c after packet stands is =
    let given : ℕ → Cursor → Reading (ℕ × Cursor) = λ kind field. give (kind, field) in
    let sized : ℕ → ℕ → ℕ → Reading (ℕ × Cursor) = λ kind at size. check (nat_le 4 size) Length at
    >> (part (size - 4) Length at >>= given kind) in
    let kinded : ℕ → Reading (ℕ × Cursor) = λ kind. due_octet 0 Reserved >> (here >>= λ at. number >>= sized kind at) in
    let kind = and_then_ok (due_kind kinds c) kinded packet after is in
    let zero_read = and_then_ok (due_octet 0 Reserved kind.1) (λ (done : Unit {0}). here >>= λ at. number >>= sized kind.0 at) packet after
    kind.3 in
    let at : ℕ = zero_read.1.base + zero_read.1.at in
    let size = and_then_ok (number zero_read.1) (sized kind.0 at) packet after zero_read.3 in
    let tested = checked_ok (nat_le 4 size.0) Length at (part (size.0 - 4) Length at >>= given kind.0) size.1 after packet size.3 in
    let field = and_then_ok (part (size.0 - 4) Length at size.1) (given kind.0) packet after tested in
    let one = (local_due_kind kinds).took tt c kind.1 kind.0 kind.2 in
    let two = (local_due_octet 0 Reserved).took tt kind.1 zero_read.1 zero_read.0 zero_read.2 in
    let three = local_number.took tt zero_read.1 size.1 size.0 size.2 in
    let there = moved body zero_read.1 size.1 three.text three.passed (moved body kind.1 zero_read.1 two.text two.passed
    (moved body c kind.1 one.text one.passed stands)) in
    subst (Stands body) (ap (λ (read : (ℕ × Cursor) × Cursor). read.0.1) (same_value ((kind.0, field.0), field.1) (packet, after) field.3))
    (parted body (size.0 - 4) size.1 field.0 field.1 (part_took (size.0 - 4) Length at size.1 field.0 field.1 field.2) there)

-- the span of a packet with update arrays has them
packet_has : (body : List ℕ) (packet after : Cursor) (lkh : ℕ × (List ℕ × PlacedUpdates)) → length body ≤ 4294967295 → Stands body packet
    → update_packet packet ≡ Ok (lkh, after)
    → span_arrays lkh.1.1.span body ≡ lkh.1.1.arrays
unfolding update_packet spi_place
packet_has body packet after lkh small stands is =
    let given : ℕ → List ℕ → PlacedUpdates → Reading (ℕ × (List ℕ × PlacedUpdates)) = λ at spi placed. give (at, (spi, placed)) in
    let sized = and_then_ok (spi_place rekey_spi_octets packet) (λ (at : ℕ). octets rekey_spi_octets >>= λ spi. updates >>= given at spi)
    lkh after is in
    let octet = and_then_ok (due_octet rekey_spi_octets Value packet) (λ (done : Unit {0}). here) sized.0 sized.1 sized.2 in
    let spi = and_then_ok (octets rekey_spi_octets sized.1) (λ (spi : List ℕ). updates >>= given sized.0 spi) lkh after sized.3 in
    let placed = and_then_ok (updates spi.1) (given sized.0 spi.0) lkh after spi.3 in
    let one = (local_due_octet rekey_spi_octets Value).took tt packet octet.1 octet.0 octet.2 in
    let same : octet.1 ≡ sized.1 = ap (λ (read : ℕ × Cursor). read.1) (same_value (octet.1.base + octet.1.at, octet.1) (sized.0, sized.1)
    octet.3) in
    let two = (local_octets rekey_spi_octets).took tt sized.1 spi.1 spi.0 spi.2 in
    let there = moved body sized.1 spi.1 two.text two.passed (subst (Stands body) same
    (moved body packet octet.1 one.text one.passed stands)) in
    let found = updates_took spi.1 placed.1 placed.0 placed.2 in
    let whole : body ≡ (there.before ++ found.before) ++ (found.text ++ (found.later ++ there.later)) =
    there.whole ∙ ap (λ left. there.before ++ (left ++ there.later)) found.left
    ∙ ap (λ left. there.before ++ left) (append_assoc found.before (found.text ++ found.later) there.later
    ∙ ap (λ left. found.before ++ left) (append_assoc found.text found.later there.later))
    ∙ sym (append_assoc there.before found.before (found.text ++ (found.later ++ there.later))) in
    let start : placed.0.span.start ≡ length (there.before ++ found.before) = found.start
    ∙ omega (arith, there.at, length-append there.before found.before) in
    let has = span_has body (there.before ++ found.before) found.text (found.later ++ there.later) placed.0.span placed.0.arrays small whole
    start found.end (found.again 0 0 []) in
    subst (λ (lkh : ℕ × (List ℕ × PlacedUpdates)). span_arrays lkh.1.1.span body ≡ lkh.1.1.arrays)
    (ap (λ (read : (ℕ × (List ℕ × PlacedUpdates)) × Cursor). read.0) (same_value ((sized.0, (spi.0, placed.0)), placed.1) (lkh, after)
    placed.3)) has

-- ---- a whole body

-- of a body with update arrays, their span has them
abbrev HasThem : List ℕ → Kd → Type 0
HasThem body given = (span : UpdateSpan) → given.view.updates ≡ Some span → span_arrays span body ≡ given.arrays

none_has : (body : List ℕ) (given : Kd) → NoUpdates given → HasThem body given
none_has body given none span is = absurd (cc)

ends_with : (lkh : ℕ × (List ℕ × PlacedUpdates)) → Always (λ (given : Kd). given ≡ given_of lkh)
    (end >> (here >>= λ at. check (gives_root lkh.1.1.arrays) Short at >> give (given_of lkh)))
ends_with lkh =
    let P : Kd → Type 0 = λ given. given ≡ given_of lkh in
    always_next P end _ (always_then P here (λ at. check (gives_root lkh.1.1.arrays) Short at >> give (given_of lkh)) (λ at.
    always_check P (gives_root lkh.1.1.arrays) Short at (give (given_of lkh)) (λ root. always_give P (given_of lkh) refl)))

alone_has : (body : List ℕ) (packet c after : Cursor) (given : Kd) → length body ≤ 4294967295 → Stands body packet → updates_alone packet c
    ≡ Ok (given, after) → HasThem body given
unfolding updates_alone
alone_has body packet c after given small stands is span same =
    let to_end : ℕ × (List ℕ × PlacedUpdates) → Reading Kd = λ lkh. end
    >> (here >>= λ at. check (gives_root lkh.1.1.arrays) Short at >> give (given_of lkh)) in
    let read = and_then_ok (inside packet update_packet c) to_end given after is in
    let inner = back_ok c read.1 read.0 (update_packet packet) read.2 in
    let is_given : given ≡ given_of read.0 = (ends_with read.0).holds read.1 after given read.3 in
    let found : Some read.0.1.1.span ≡ Some span = sym (ap (λ (given : Kd). given.view.updates) is_given) ∙ same in
    let spans : read.0.1.1.span ≡ span = cc in
    ap (λ span. span_arrays span body) (sym spans) ∙ packet_has body packet inner.0 read.0 small stands inner.1
    ∙ sym (ap (λ (given : Kd). given.arrays) is_given)

packet_is : (body : List ℕ) (packet : ℕ × Cursor) (traffic : Bool) (c after : Cursor) (given : Kd) → length body ≤ 4294967295
    → Stands body packet.1
    → (if traffic then traffic_alone packet.1 else updates_alone packet.1) c ≡ Ok (given, after) → HasThem body given
packet_is body packet true c after given small stands is = none_has body given ((traffic_none packet.1).holds c after given is)
packet_is body packet false c after given small stands is = alone_has body packet.1 c after given small stands is

packets_are : (body : List ℕ) (two : Bool) (c after : Cursor) (given : Kd) → length body ≤ 4294967295 → Stands body c
    → (if two then two_packets else one_packet) c ≡ Ok (given, after) → HasThem body given
unfolding one_packet
packets_are body true c after given small stands is = none_has body given (two_none.holds c after given is)
packets_are body false c after given small stands is =
    let packet = and_then_ok (section (1 ∷ 3 ∷ []) c) (λ (packet : ℕ × Cursor). if packet.0 == 1 then traffic_alone packet.1 else
    updates_alone packet.1) given after is in
    packet_is body packet.0 (packet.0.0 == 1) packet.1 after given small
    (section_stands body (1 ∷ 3 ∷ []) c packet.1 packet.0 stands packet.2) packet.3

kd_has : (base : ℕ) (body : List ℕ) (given : Kd) (after : Cursor) → length body ≤ 4294967295 → kd (cursor base 0 body) ≡ Ok (given, after)
    → HasThem body given
unfolding kd
kd_has base body given after small is =
    let start = cursor base 0 body in
    let packets : ℕ → Reading Kd = λ count. if count == 2 then two_packets else one_packet in
    let count = and_then_ok (number start) (λ (count : ℕ). check (count == 1 || count == 2) Value (base + 0)
    >> (due_number 0 Reserved >> packets count)) given after is in
    let tested = checked_ok (count.0 == 1 || count.0 == 2) Value (base + 0) (due_number 0 Reserved >> packets count.0) count.1 after given
    count.3 in
    let zeros = and_then_ok (due_number 0 Reserved count.1) (λ (done : Unit {0}). packets count.0) given after tested in
    let one = local_number.took tt start count.1 count.0 count.2 in
    let two = (local_due_number 0 Reserved).took tt count.1 zeros.1 zeros.0 zeros.2 in
    packets_are body (count.0 == 2) zeros.1 after given small (moved body count.1 zeros.1 two.text two.passed
    (moved body start count.1 one.text one.passed (at_start body base))) zeros.3

pub body_has : (base : ℕ) (body : List ℕ) (given : Kd) (span : UpdateSpan) → length body ≤ 4294967295 → kd_of base body ≡ Ok given
    → given.view.updates ≡ Some span
    → span_arrays span body ≡ given.arrays
body_has base body given span small is =
    let read = value_ok (kd (from_start base body)) given is in
    kd_has base body given read.0 small read.1 span
