-- The keys that the update arrays of a body without fault give: they have one handle, and one of them is the root's.
use Rattle.std.proofs.Common.{◌≡◌, ℕ, zero, suc, ◌+◌, ◌-◌, ◌*◌, ◌≤◌, true, List, [], ◌∷◌, length, Option, None, Some, Ok, refl, sym, ap}
use Rattle.std.proofs.Common.{◌∙◌, subst, arith}
use Rattle.std.specs.Prelude.{◌==◌, ◌&&◌, ◌||◌, nat_le, not}
use Rattle.std.specs.List.{All}
use Rattle.std.proofs.lemmas.Bool.{leb-true, eqb-true}
use Rattle.std.proofs.lemmas.List.Elements.{All-nil, All-cons, All-head, All-tail}
use Rattle.group_terms.specs.Octets.{data_octets, rekey_spi_octets}
use Rattle.group_terms.specs.declared.wires.WireWhat.TheVariants.{Short, Length, Reserved, Version, Value}
use Rattle.gd_wire.specs.Readings.{Cursor, Reading, ◌>>=◌, ◌>>◌, give, from_start, here, place, ended, end, inside, octets_left, octets}
use Rattle.gd_wire.specs.Readings.{number, long_number, due_octet, due_number, section}
use Rattle.gd_wire.specs.Attributes.{long_value}
use Rattle.kd_wire.specs.declared.arrays.ArrayKind.TheVariants.{Update}
use Rattle.kd_wire.specs.declared.spans.UpdateSpan.{UpdateSpan}
use Rattle.kd_wire.specs.declared.updates.SealedKey.{SealedKey}
use Rattle.kd_wire.specs.declared.updates.UpdateArray.{UpdateArray}
use Rattle.kd_wire.specs.declared.updates.UpdateKey.{UpdateKey}
use Rattle.kd_wire.specs.Arrays.{array_head, sealer, long_type, signature_keys, update_array, update_attribute, next_update, PlacedArray}
use Rattle.kd_wire.specs.Arrays.{arrays_of, end_after, go_on, more_updates, PlacedUpdates, updates, gives_root}
use Rattle.kd_wire.specs.Bodies.{Kd, kd, kd_of, update_packet, traffic_alone, updates_alone, one_packet, download_packet, two_packets}
use Rattle.kd_wire.specs.Keys.{key_type, has_handle, given_key, given_keys}
use Rattle.kd_wire.specs.Seals.{sealed_under, handle_after}
use Rattle.kd_wire.specs.UpdateTexts.{OneEpoch}
use Rattle.kd_wire.specs.Private.Seen.{handle_of_given}
use Rattle.kd_wire.specs.Spis.{spi_place}
use Rattle.kd_wire.specs.Traffic.{traffic}
use Rattle.gd_wire.proofs.ReadingLemmas.{value_ok}
use Rattle.kd_wire.proofs.LoopLemmas.{array_by, handle_same}
use Rattle.kd_wire.proofs.FormLemmas.{both_true, alone_of, both_of, given_of}
use Rattle.gd_wire.proofs.AlwaysLemmas.{Always, always_give, always_if, always_check, always_inside, always_so, always_from, always_then}
use Rattle.gd_wire.proofs.AlwaysLemmas.{always_next}

-- ---- the keys of an array

abbrev KeyIsOf : Option ℕ → UpdateKey → Type 0
KeyIsOf handle key = has_handle handle key.made ≡ true

key_is_of : (handle : Option ℕ) → Always (KeyIsOf handle) (given_key handle)
unfolding given_key
key_is_of handle =
    let P = KeyIsOf handle in
    always_then P here _ (λ at. always_then P number _ (λ id. always_check P (not (id == 0)) Value at _ (λ some.
    always_next P key_type _ (always_next P (octets 8) _ (always_then P here _ (λ made_at. always_then P long_number _ (λ made.
    always_check P (has_handle handle made) Value made_at _ (λ same. always_then P (octets data_octets) _
    (λ sealed. always_give P (record { id = id; made = made; sealed = sealed }) same)))))))))

-- keys of an epoch, after which its handle is due
abbrev AreOf : ℕ → List UpdateKey → Type 0
AreOf epoch keys = All (λ (key : UpdateKey). key.made ≡ epoch) keys × (handle_of_given (Some epoch) keys ≡ Some epoch)

put : (epoch : ℕ) (key : UpdateKey) (keys : List UpdateKey) → key.made ≡ epoch → AreOf epoch keys → AreOf epoch (key ∷ keys)
put epoch key keys same are = (
  All-cons (λ (key : UpdateKey). key.made ≡ epoch) key keys same are.0,
  ap
      (λ made. handle_of_given (Some made) keys) same ∙ are.1,
)

keys_of : (count epoch : ℕ) → Always (AreOf epoch) (given_keys count (Some epoch))
keys_of zero epoch = always_give (AreOf epoch) [] (All-nil (λ (key : UpdateKey). key.made ≡ epoch), refl)
keys_of (suc more) epoch =
    always_from (AreOf epoch) (KeyIsOf (Some epoch)) (given_key (Some epoch)) _ (key_is_of (Some epoch)) (λ key same.
    let made : key.made ≡ epoch = eqb-true key.made epoch same in
    always_from (AreOf epoch) (AreOf epoch) (given_keys more (Some key.made)) _
    (subst (λ handle. Always (AreOf epoch) (given_keys more (Some handle))) (sym made) (keys_of more epoch)) (λ keys are.
    always_give (AreOf epoch) (key ∷ keys) (put epoch key keys made are)))

-- the same of some keys or more after any handle, or none
abbrev AreOfOne : Option ℕ → List UpdateKey → Type 0
AreOfOne handle keys = (epoch : ℕ) × (has_handle handle epoch ≡ true) × All (λ (key : UpdateKey). key.made ≡ epoch) keys
    × (handle_of_given handle keys ≡ Some epoch)

first_of : (more : ℕ) (handle : Option ℕ) → Always (AreOfOne handle) (given_keys (suc more) handle)
first_of more handle =
    always_from (AreOfOne handle) (KeyIsOf handle) (given_key handle) _ (key_is_of handle) (λ key same.
    always_from (AreOfOne handle) (AreOf key.made) (given_keys more (Some key.made)) _ (keys_of more key.made) (λ keys are.
    always_give (AreOfOne handle) (key ∷ keys) (let all = put key.made key keys refl are in (key.made, same, all.0, all.1))))

-- ---- arrays

abbrev pub SealedOf : ℕ → SealedKey → Type 0
SealedOf epoch key = key.gives.made ≡ epoch

abbrev pub ArrayOf : ℕ → UpdateArray → Type 0
ArrayOf epoch array = All (SealedOf epoch) array.keys

all_sealed : (epoch by made : ℕ) (keys : List UpdateKey) → All (λ (key : UpdateKey). key.made ≡ epoch) keys
    → All (SealedOf epoch) (sealed_under by made keys)
all_sealed epoch by made [] all = All-nil (SealedOf epoch)
all_sealed epoch by made (key ∷ keys) all =
    let P = λ (key : UpdateKey). key.made ≡ epoch in
    All-cons (SealedOf epoch) _ _ (All-head P key keys all) (all_sealed epoch key.id key.made keys (All-tail P key keys all))

-- an array of one epoch, whose handle is due after it
abbrev IsOfOne : Option ℕ → UpdateArray → Type 0
IsOfOne handle array = (epoch : ℕ) × (has_handle handle epoch ≡ true) × ArrayOf epoch array × (handle_after handle array.keys ≡ Some epoch)

some_keys : (length_at : ℕ) → Always (λ count. 1 ≤ count) (array_head Update length_at)
unfolding array_head
some_keys length_at =
    let P : ℕ → Type 0 = λ count. 1 ≤ count in
    always_then P octets_left _ (λ size. always_next P (due_octet 1 Version) _ (always_then P here _ (λ at. always_then P number _ (λ count.
    always_check P (nat_le 1 count && nat_le count 65535) Value at _ (λ due. always_check P (size == 12 + 48 * count) Length length_at _
    (λ long. always_next P (due_octet 0 Reserved) _ (
    always_give P count (leb-true 1 count (both_true (nat_le 1 count) (nat_le count 65535) due).0))))))))

array_keys : (count : ℕ) (handle : Option ℕ) → 1 ≤ count → Always (AreOfOne handle) (given_keys count handle)
array_keys zero handle some = absurd (omega arith)
array_keys (suc more) handle some = first_of more handle

array_of_one : (handle : Option ℕ) (length_at : ℕ) → Always (IsOfOne handle) (update_array handle length_at)
unfolding update_array
array_of_one handle length_at =
    let P = IsOfOne handle in
    always_from P (λ count. 1 ≤ count) (array_head Update length_at) _ (some_keys length_at) (λ count some. always_then P sealer _ (λ by.
    always_from P (AreOfOne handle) (given_keys count handle) _ (array_keys count handle some) (λ keys are.
    always_give P (array_by by.0 by.1 keys) (
      are.0,
      are.1,
      all_sealed are.0 by.0 by.1 keys are.2,
      handle_same handle by.0 by.1 keys
          ∙ are.3,
    ))))

attribute_of_one : (handle : Option ℕ) → Always (IsOfOne handle) (update_attribute handle)
unfolding update_attribute
attribute_of_one handle =
    let P = IsOfOne handle in
    always_next P (long_type (2 ∷ [])) _ (always_then P here _ (λ length_at. always_then P long_value _ (λ value.
    always_inside P value (update_array handle length_at) (array_of_one handle length_at))))

-- the next one, where there is one
abbrev IsNext : Option ℕ → Option UpdateArray → Type 0
IsNext handle None = Unit {0}
IsNext handle (Some array) = IsOfOne handle array

next_of_one : (handle : Option ℕ) → Always (IsNext handle) (next_update handle)
unfolding next_update
next_of_one handle =
    let P = IsNext handle in
    always_next P signature_keys _ (always_then P ended _ (λ nothing.
    always_if P nothing (give None) (update_attribute handle >>= λ array. give (Some array)) (λ at_end. always_give P None tt) (λ more.
    always_from P (IsOfOne handle) (update_attribute handle) _ (attribute_of_one handle) (λ array is. always_give P (Some array) is))))

abbrev MoreOf : ℕ → List PlacedArray → Type 0
MoreOf epoch more = All (ArrayOf epoch) (arrays_of more)

goes_on : (more epoch : ℕ) (next : Option UpdateArray) → IsNext (Some epoch) next → (at : ℕ)
    → Always (MoreOf epoch) (more_updates more (Some epoch))
    → Always (MoreOf epoch) (go_on next (λ array. more_updates more (handle_after (Some epoch) array.keys)
    >>= λ arrays. give (record { array = array; end = at } ∷ arrays)))
goes_on more epoch None is at later = always_give (MoreOf epoch) [] (All-nil (ArrayOf epoch))
goes_on more epoch (Some array) is at later =
    let same : is.0 ≡ epoch = eqb-true is.0 epoch is.1 in
    let due : handle_after (Some epoch) array.keys ≡ Some epoch = is.3 ∙ ap Some same in
    always_from (MoreOf epoch) (MoreOf epoch) (more_updates more (handle_after (Some epoch) array.keys)) _
    (subst (λ handle. Always (MoreOf epoch) (more_updates more handle)) (sym due) later) (λ arrays all.
    always_give (MoreOf epoch) (record { array = array; end = at } ∷ arrays)
    (All-cons (ArrayOf epoch) array (arrays_of arrays) (subst (λ epoch. ArrayOf epoch array) same is.2) all))

more_of : (most epoch : ℕ) → Always (MoreOf epoch) (more_updates most (Some epoch))
more_of zero epoch = always_give (MoreOf epoch) [] (All-nil (ArrayOf epoch))
more_of (suc more) epoch =
    always_from (MoreOf epoch) (IsNext (Some epoch)) (next_update (Some epoch)) _ (next_of_one (Some epoch))
    (λ next is. always_then (MoreOf epoch) place _ (λ at.
    goes_on more epoch next is at (more_of more epoch)))

updates_of_one : Always (λ (placed : PlacedUpdates). OneEpoch placed.arrays) updates
unfolding updates
updates_of_one =
    let P = λ (placed : PlacedUpdates). OneEpoch placed.arrays in
    always_next P signature_keys _ (always_then P place _ (λ start. always_then P octets_left _ (λ most.
    always_from P (IsOfOne None) (update_attribute None) _ (attribute_of_one None) (λ first is. always_then P place _ (λ end.
    always_from P (MoreOf is.0) (more_updates (most - 1) (handle_after None first.keys)) _
    (subst (λ handle. Always (MoreOf is.0) (more_updates (most - 1) handle)) (sym is.3) (more_of (most - 1) is.0)) (λ more all.
    always_give P (record {
      arrays = first ∷ arrays_of more;
      span = record
          { start = start; end = end_after end more; arrays = suc (length more) };
    })
    (is.0, All-cons (ArrayOf is.0) first (arrays_of more) is.2 all)))))))

-- ---- bodies

-- of a body with update arrays
abbrev pub AreGiven : Kd → Type 0
AreGiven given = (span : UpdateSpan) → given.view.updates ≡ Some span → OneEpoch given.arrays × (gives_root given.arrays ≡ true)

abbrev LkhOfOne : ℕ × (List ℕ × PlacedUpdates) → Type 0
LkhOfOne lkh = OneEpoch lkh.1.1.arrays

packet_of_one : Always LkhOfOne update_packet
unfolding update_packet
packet_of_one =
    always_then LkhOfOne (spi_place rekey_spi_octets) _ (λ at. always_then LkhOfOne (octets rekey_spi_octets) _ (λ spi.
    always_from LkhOfOne (λ (placed : PlacedUpdates). OneEpoch placed.arrays) updates _ updates_of_one
    (λ placed is. always_give LkhOfOne (at, (spi, placed)) is)))

none_given : (given : Kd) → given.view.updates ≡ None → AreGiven given
none_given given none span is = absurd (cc)

-- bodies that have none
abbrev pub NoUpdates : Kd → Type 0
NoUpdates given = given.view.updates ≡ None

pub traffic_none : (packet : Cursor) → Always NoUpdates (traffic_alone packet)
unfolding traffic_alone
traffic_none packet = always_then NoUpdates (inside packet traffic) _ (λ tek. always_next NoUpdates end _
    (always_give NoUpdates (alone_of tek) refl))

pub two_none : Always NoUpdates two_packets
unfolding two_packets
two_none =
    always_then NoUpdates (section (1 ∷ [])) _ (λ first. always_then NoUpdates (inside first.1 traffic) _
    (λ tek. always_then NoUpdates (section (3 ∷ [])) _ (λ second.
    always_then NoUpdates (inside second.1 download_packet) _ (λ lkh. always_next NoUpdates end _
    (always_give NoUpdates (both_of tek lkh) refl)))))

updates_given : (packet : Cursor) → Always AreGiven (updates_alone packet)
unfolding updates_alone
updates_given packet =
    always_from AreGiven LkhOfOne (inside packet update_packet) _ (always_inside LkhOfOne packet update_packet packet_of_one)
    (λ lkh is. always_next AreGiven end _ (always_then AreGiven here _ (λ at.
    always_check AreGiven (gives_root lkh.1.1.arrays) Short at (give (given_of lkh))
    (λ root. always_give AreGiven (given_of lkh) (λ span same. (is, root))))))

one_given : Always AreGiven one_packet
unfolding one_packet
one_given =
    always_then AreGiven (section (1 ∷ 3 ∷ [])) _ (λ packet. always_if AreGiven (packet.0 == 1) (traffic_alone packet.1)
    (updates_alone packet.1) (λ one. always_so AreGiven NoUpdates (traffic_alone packet.1) (traffic_none packet.1) none_given)
    (λ other. updates_given packet.1))

kd_given : Always AreGiven kd
unfolding kd
kd_given =
    always_then AreGiven here _ (λ at. always_then AreGiven number _ (λ count. always_check AreGiven (count == 1 || count == 2) Value at _
    (λ due.
    always_next AreGiven (due_number 0 Reserved) _ (always_if AreGiven (count == 2) two_packets one_packet
    (λ two. always_so AreGiven NoUpdates two_packets two_none none_given) (λ one. one_given)))))

pub are_given : (base : ℕ) (body : List ℕ) (given : Kd) (span : UpdateSpan) → kd_of base body ≡ Ok given → given.view.updates ≡ Some span
    → OneEpoch given.arrays × (gives_root given.arrays ≡ true)
are_given base body given span is =
    let read = value_ok (kd (from_start base body)) given is in
    kd_given.holds (from_start base body) read.0 given read.1 span
