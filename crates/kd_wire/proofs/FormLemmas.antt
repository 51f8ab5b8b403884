-- The three forms of a body without fault.
use Rattle.std.proofs.Common.{◌≡◌, ℕ, zero, suc, ◌+◌, ◌*◌, ◌/◌, ◌≤◌, ◌⊎◌, Bool, true, false, List, [], ◌∷◌, length, Option, None, Some, Ok}
use Rattle.std.proofs.Common.{refl, sym, ap, subst, inl, inr, arith}
use Rattle.std.specs.Prelude.{◌==◌, ◌&&◌, ◌||◌, nat_le, not}
use Rattle.std.proofs.lemmas.Bool.{leb-true, eqb-true}
use Rattle.group_terms.specs.declared.paths.PathKey.{PathKey}
use Rattle.group_terms.specs.Octets.{iv_octets, key_octets, rekey_spi_octets}
use Rattle.group_terms.specs.declared.values.TrafficValue.{TrafficValue}
use Rattle.group_terms.specs.declared.wires.WireWhat.TheVariants.{Short, Length, Reserved, Version, Value}
use Rattle.gd_wire.specs.Readings.{Cursor, Reading, ◌>>=◌, ◌>>◌, give, from_start, here, end, inside, octets_left, octets, number}
use Rattle.gd_wire.specs.Readings.{long_number, due_octet, due_number, section}
use Rattle.gd_wire.specs.Attributes.{long_value, no_more_attributes}
use Rattle.kd_wire.specs.declared.arrays.ArrayKind.TheVariants.{Download}
use Rattle.kd_wire.specs.declared.bodies.KdView.{KdView}
use Rattle.kd_wire.specs.Arrays.{array_head, long_type, signature_keys, PlacedUpdates, gives_root, download_array, download}
use Rattle.kd_wire.specs.Bodies.{Kd, kd, kd_of, update_packet, traffic_alone, updates_alone, one_packet, download_packet, two_packets}
use Rattle.kd_wire.specs.Keys.{key_type, is_above, is_on_path, path_key, path_keys}
use Rattle.kd_wire.specs.Spis.{spi_place}
use Rattle.kd_wire.specs.Traffic.{traffic}
use Rattle.kd_wire.specs.Texts.{IsPath, LeadsUp}
use Rattle.kd_wire.specs.Views.{GivesTraffic, GivesUpdates, GivesPath}
use Rattle.kd_wire.proofs.WrittenKeys.{AboveFirst}
use Rattle.gd_wire.proofs.ReadingLemmas.{value_ok}
use Rattle.gd_wire.proofs.AlwaysLemmas.{Always, always_give, always_if, always_check, always_inside, always_so, always_from, always_then}
use Rattle.gd_wire.proofs.AlwaysLemmas.{always_next}

pub both_true : (a b : Bool) → (a && b) ≡ true → (a ≡ true) × (b ≡ true)
both_true true b is = (refl, is)
both_true false b is = absurd (cc)

-- ---- the keys of a path

-- what is given of a number of keys after another one, if any
IsUp : ℕ → Option ℕ → List PathKey → Type 0
IsUp zero below path = path ≡ []
IsUp (suc more) below path = (length path ≡ suc more) × LeadsUp path × AboveFirst below path

OnPath : ℕ → Option ℕ → PathKey → Type 0
OnPath more below key = is_on_path more below key.id ≡ true

key_due : (more : ℕ) (below : Option ℕ) → Always (OnPath more below) (path_key more below)
unfolding path_key OnPath
key_due more below =
    let P = OnPath more below in
    always_then P here _ (λ at. always_then P number _ (λ id. always_check P (is_on_path more below id) Value at _ (λ due.
    always_next P key_type _ (always_next P (octets 8) _ (always_then P long_number _
    (λ made. always_then P (octets iv_octets) _ (λ iv. always_then P (octets key_octets) _ (λ key.
    always_give P (record { id = id; made = made; value = record { iv = iv; key = key } }) due))))))))

one_more : (more : ℕ) (below : Option ℕ) (key : PathKey) (keys : List PathKey) → OnPath more below key → IsUp more (Some key.id) keys
    → IsUp (suc more) below (key ∷ keys)
unfolding OnPath IsUp
one_more zero below key keys due none =
    let tests = both_true (is_above below key.id) (not (0 == 0) || key.id == 1) (both_true (not (key.id == 0)) _ due).1 in
    subst (λ (keys : List PathKey). (length (key ∷ keys) ≡ 1) × LeadsUp (key ∷ keys) × (is_above below key.id ≡ true)) (sym none)
    (refl, eqb-true key.id 1 tests.1, tests.0)
one_more (suc more) below key [] due up = absurd (omega (arith, up.0))
one_more (suc more) below key (next ∷ keys) due up =
    let tests = both_true (is_above below key.id) (not (suc more == 0) || key.id == 1) (both_true (not (key.id == 0)) _ due).1 in
    (ap suc up.0, (eqb-true next.id (key.id / 2) up.2, up.1), tests.0)

none_up : (below : Option ℕ) → IsUp zero below []
unfolding IsUp
none_up below = refl

keys_up : (count : ℕ) (below : Option ℕ) → Always (IsUp count below) (path_keys count below)
keys_up zero below = always_give (IsUp zero below) [] (none_up below)
keys_up (suc more) below =
    always_from (IsUp (suc more) below) (OnPath more below) (path_key more below) _ (key_due more below) (λ key due.
    always_from (IsUp (suc more) below) (IsUp more (Some key.id)) (path_keys more (Some key.id)) _ (keys_up more (Some key.id)) (λ keys up.
    always_give (IsUp (suc more) below) (key ∷ keys) (one_more more below key keys due up)))

-- ---- a download array

AreDue : ℕ → Type 0
AreDue count = (2 ≤ count) × (count ≤ 16)

count_due : (length_at : ℕ) → Always AreDue (array_head Download length_at)
unfolding array_head AreDue
count_due length_at =
    always_then AreDue octets_left _ (λ size. always_next AreDue (due_octet 1 Version) _
    (always_then AreDue here _ (λ at. always_then AreDue number _ (λ count.
    always_check AreDue (nat_le 2 count && nat_le count 16) Value at _ (λ due. always_check AreDue (size == 4 + 48 * count) Length length_at
    _ (λ long. always_next AreDue (due_octet 0 Reserved) _ (
    let tests = both_true (nat_le 2 count) (nat_le count 16) due in
    always_give AreDue count (leb-true 2 count tests.0, leb-true count 16 tests.1))))))))

is_path : (count : ℕ) (path : List PathKey) → AreDue count → IsUp count None path → IsPath path
unfolding AreDue IsUp
is_path zero path due up = absurd (omega (arith, due.0))
is_path (suc more) path due up = record { up = up.1; least = omega (arith, due.0, up.0); most = omega (arith, due.1, up.0) }

array_is_path : (length_at : ℕ) → Always IsPath (download_array length_at)
unfolding download_array
array_is_path length_at =
    always_from IsPath AreDue (array_head Download length_at) _ (count_due length_at) (λ count due.
    always_so IsPath (IsUp count None) (path_keys count None) (keys_up count None) (λ path up. is_path count path due up))

download_is_path : Always IsPath download
unfolding download
download_is_path =
    always_next IsPath signature_keys _ (always_next IsPath (long_type (1 ∷ [])) _
    (always_then IsPath here _ (λ length_at. always_then IsPath long_value _ (λ value.
    always_from IsPath IsPath (inside value (download_array length_at)) _
    (always_inside IsPath value (download_array length_at) (array_is_path length_at)) (λ path is.
    always_next IsPath signature_keys _ (always_next IsPath no_more_attributes _ (always_give IsPath path is)))))))

-- ---- bodies

abbrev HasForm : KdView → Type 0
HasForm view = GivesTraffic view ⊎ (GivesUpdates view ⊎ GivesPath view)

abbrev KdHasForm : Kd → Type 0
KdHasForm given = HasForm given.view

traffic_form : (packet : Cursor) → Always KdHasForm (traffic_alone packet)
unfolding traffic_alone
traffic_form packet =
    always_then KdHasForm (inside packet traffic) _ (λ tek. always_next KdHasForm end _
    (always_give KdHasForm _ (inl (record { tek = refl; lkh_spi = refl; download = refl; updates = refl }))))

-- what a traffic key alone gives, and with a path
abbrev pub alone_of : ℕ × TrafficValue → Kd
alone_of tek = record {
  view = record { tek = Some tek.1; lkh_spi = None; download = []; updates = None; spis = record { tek = Some tek.0; lkh = None } };
  arrays = [];
}

abbrev pub both_of : ℕ × TrafficValue → ℕ × (List ℕ × List PathKey) → Kd
both_of tek lkh = record {
  view = record {
    tek = Some tek.1;
    lkh_spi = Some lkh.1.0;
    download = lkh.1.1;
    updates = None;
    spis =
        record { tek = Some tek.0; lkh = Some lkh.0 };
  };
  arrays = [];
}

-- what update arrays alone give
abbrev pub given_of : ℕ × (List ℕ × PlacedUpdates) → Kd
given_of lkh = record {
  view = record {
    tek = None;
    lkh_spi = Some lkh.1.0;
    download = [];
    updates = Some lkh.1.1.span;
    spis =
        record { tek = None; lkh = Some lkh.0 };
  };
  arrays = lkh.1.1.arrays;
}

updates_form : (packet : Cursor) → Always KdHasForm (updates_alone packet)
unfolding updates_alone
updates_form packet =
    always_then KdHasForm (inside packet update_packet) _ (λ lkh. always_next KdHasForm end _ (always_then KdHasForm here _ (λ at.
    always_check KdHasForm (gives_root lkh.1.1.arrays) Short at (give (given_of lkh))
    (λ root. always_give KdHasForm (given_of lkh) (inr (inl (record
    { tek = refl; lkh_spi = refl; download = refl; updates = refl })))))))

abbrev LkhIsPath : ℕ × (List ℕ × List PathKey) → Type 0
LkhIsPath lkh = IsPath lkh.1.1

packet_is_path : Always LkhIsPath download_packet
unfolding download_packet
packet_is_path =
    always_then LkhIsPath (spi_place rekey_spi_octets) _ (λ at. always_then LkhIsPath (octets rekey_spi_octets) _ (λ spi.
    always_from LkhIsPath IsPath download _ download_is_path (λ path is. always_give LkhIsPath (at, (spi, path)) is)))

two_form : Always KdHasForm two_packets
unfolding two_packets
two_form =
    always_then KdHasForm (section (1 ∷ [])) _ (λ first. always_then KdHasForm (inside first.1 traffic) _
    (λ tek. always_then KdHasForm (section (3 ∷ [])) _ (λ second.
    always_from KdHasForm LkhIsPath (inside second.1 download_packet) _ (always_inside LkhIsPath second.1 download_packet packet_is_path)
    (λ lkh is.
    always_next KdHasForm end _ (always_give KdHasForm _ (inr (inr (record
    { tek = refl; lkh_spi = refl; download = is; updates = refl }))))))))

one_form : Always KdHasForm one_packet
unfolding one_packet
one_form =
    always_then KdHasForm (section (1 ∷ 3 ∷ [])) _ (λ packet. always_if KdHasForm (packet.0 == 1) (traffic_alone packet.1)
    (updates_alone packet.1) (λ one. traffic_form packet.1) (λ other. updates_form packet.1))

kd_form : Always KdHasForm kd
unfolding kd
kd_form =
    always_then KdHasForm here _ (λ at. always_then KdHasForm number _ (λ count. always_check KdHasForm (count == 1 || count == 2) Value at
    _ (λ due.
    always_next KdHasForm (due_number 0 Reserved) _ (always_if KdHasForm (count == 2) two_packets one_packet (λ two. two_form)
    (λ one. one_form)))))

pub has_form : (base : ℕ) (body : List ℕ) (given : Kd) → kd_of base body ≡ Ok given → HasForm given.view
has_form base body given is =
    let read = value_ok (kd (from_start base body)) given is in
    kd_form.holds (from_start base body) read.0 given read.1
