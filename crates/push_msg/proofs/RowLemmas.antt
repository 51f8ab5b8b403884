-- What is read of the bodies of a push that was written.
use Rattle.std.proofs.Common.{◌≡◌, ◌∙◌, ℕ, ◌+◌, List, [], Bool, true, false, Option, Some, None, Result, Ok, Err, ltb, eq-eqb, refl, ap, sym, arith}
use Rattle.std.specs.Str.{bytes_eq}
use Rattle.gd_wire.specs.Readings.{Cursor, Reading, and_then, give, told, check, value_of, mapped, from_start}
use Rattle.gd_wire.proofs.OctetLemmas.{same_octets}
use Rattle.group_terms.specs.declared.signatures.SignKind.{SignKind}
use Rattle.group_terms.specs.declared.values.TrafficValue.{TrafficValue}
use Rattle.group_terms.specs.declared.wires.WireFault.{WireFault}
use Rattle.kd_wire.specs.declared.bodies.KdView.{KdView}
use Rattle.kd_wire.specs.declared.spans.UpdateSpan.{UpdateSpan}
use Rattle.kd_wire.specs.Bodies.{Kd, kd, kd_of, kd_view}
use Rattle.kd_wire.specs.Spans.{span_arrays}
use Rattle.sa_wire.specs.declared.places.PlacedKek.{PlacedKek}
use Rattle.sa_wire.specs.declared.places.PlacedTek.{PlacedTek}
use Rattle.sa_wire.specs.declared.policies.KekPolicy.{KekPolicy}
use Rattle.sa_wire.specs.declared.policies.SaPolicy.{SaPolicy}
use Rattle.sa_wire.specs.declared.policies.TekPolicy.{TekPolicy}
use Rattle.sa_wire.specs.Policies.{placed_sa, sa, option_kek, option_tek}
use Rattle.sa_wire.proofs.PlacedLemmas.{placed_from}
use Rattle.push_msg.specs.declared.bodies.OpenBody.TheVariants.{Membership, Traffic}
use Rattle.push_msg.specs.declared.rows.Row.{Row}
use Rattle.push_msg.specs.declared.rows.Row.TheVariants as rows
use Rattle.push_msg.specs.Readings.{due_sign, membership, row_of, row, body_for, key_download, epoch_of}

-- ---- the SA payload

-- both tests of how pushes are signed hold, in either order
both_hold : (first : Bool) (kek : PlacedKek) (sign : SignKind) (cursor : Cursor) → kek.policy.sign ≡ sign → ltb kek.algorithm_at kek.key_bits_at ≡ first → due_sign sign kek cursor ≡ Ok (tt, cursor)
unfolding due_sign
both_hold true kek sign cursor same order =
    rw (order, eq-eqb kek.policy.sign.algorithm sign.algorithm (ap (λ (kind : SignKind). kind.algorithm) same), eq-eqb kek.policy.sign.key_bits sign.key_bits (ap (λ (kind : SignKind). kind.key_bits) same)) refl
both_hold false kek sign cursor same order =
    rw (order, eq-eqb kek.policy.sign.algorithm sign.algorithm (ap (λ (kind : SignKind). kind.algorithm) same), eq-eqb kek.policy.sign.key_bits sign.key_bits (ap (λ (kind : SignKind). kind.key_bits) same)) refl

kek_read : (kek : PlacedKek) (spi : List ℕ) (sign : SignKind) (cursor : Cursor) → kek.policy ≡ record { spi = spi; sign = sign } → membership spi sign kek cursor ≡ Ok (rows.Membership spi, cursor)
unfolding membership
kek_read kek spi sign cursor same =
    rw (
      ap (λ (policy : KekPolicy). bytes_eq policy.spi spi) same ∙ same_octets spi,
      both_hold (ltb kek.algorithm_at kek.key_bits_at) kek sign cursor (ap (λ (policy : KekPolicy). policy.sign) same) refl,
    ) (λ i. Ok (rows.Membership ((same i).spi), cursor))

abbrev kek_in : KekPolicy → Option KekPolicy → KekPolicy
kek_in other None = other
kek_in other (Some kek) = kek

abbrev spi_in : List ℕ → Option TekPolicy → List ℕ
spi_in other None = other
spi_in other (Some tek) = tek.spi

kek_row : (kek : Option PlacedKek) (tek : Option PlacedTek) (spi : List ℕ) (sign : SignKind) (base : ℕ) (cursor : Cursor)
    → option_kek kek ≡ Some (record { spi = spi; sign = sign }) → option_tek tek ≡ None → row_of spi sign base kek tek cursor ≡ Ok (rows.Membership spi, cursor)
kek_row (Some kek) None spi sign base cursor first second = kek_read kek spi sign cursor (ap (kek_in kek.policy) first)
kek_row None None spi sign base cursor first second = absurd (cc)
kek_row None (Some tek) spi sign base cursor first second = absurd (cc)
kek_row (Some kek) (Some tek) spi sign base cursor first second = absurd (cc)

tek_row : (kek : Option PlacedKek) (tek : Option PlacedTek) (spi traffic_spi : List ℕ) (sign : SignKind) (base : ℕ) (cursor : Cursor)
    → option_kek kek ≡ None → option_tek tek ≡ Some (record { spi = traffic_spi }) → row_of spi sign base kek tek cursor ≡ Ok (rows.Traffic traffic_spi, cursor)
tek_row None (Some tek) spi traffic_spi sign base cursor first second = λ i. Ok (rows.Traffic (ap (spi_in tek.policy.spi) second i), cursor)
tek_row None None spi traffic_spi sign base cursor first second = absurd (cc)
tek_row (Some kek) None spi traffic_spi sign base cursor first second = absurd (cc)
tek_row (Some kek) (Some tek) spi traffic_spi sign base cursor first second = absurd (cc)

pub membership_row : (spi body : List ℕ) (sign : SignKind) (base : ℕ) (cursor : Cursor)
    → sa base body ≡ Ok (record { kek = Some (record { spi = spi; sign = sign }); tek = None }) → row spi sign base body cursor ≡ Ok (rows.Membership spi, cursor)
unfolding row
membership_row spi body sign base cursor is =
    let placed = placed_from _ _ is in
    rw placed.1 (kek_row placed.0.kek placed.0.tek spi sign base cursor (ap (λ (policy : SaPolicy). policy.kek) placed.2) (ap (λ (policy : SaPolicy). policy.tek) placed.2))

pub traffic_row : (spi traffic_spi body : List ℕ) (sign : SignKind) (base : ℕ) (cursor : Cursor)
    → sa base body ≡ Ok (record { kek = None; tek = Some (record { spi = traffic_spi }) }) → row spi sign base body cursor ≡ Ok (rows.Traffic traffic_spi, cursor)
unfolding row
traffic_row spi traffic_spi body sign base cursor is =
    let placed = placed_from _ _ is in
    rw placed.1 (tek_row placed.0.kek placed.0.tek spi traffic_spi sign base cursor (ap (λ (policy : SaPolicy). policy.kek) placed.2) (ap (λ (policy : SaPolicy). policy.tek) placed.2))

-- ---- the KD payload

pub membership_keys : (spi body : List ℕ) (span : UpdateSpan) (base at : ℕ) (cursor : Cursor)
    → kd_view base body ≡ Ok (record { tek = None; lkh_spi = Some spi; download = []; updates = Some span; spis = record { tek = None; lkh = Some at } })
    → key_download (rows.Membership spi) base body cursor ≡ Ok (Membership (epoch_of (span_arrays span body)) span, cursor)
unfolding key_download
membership_keys spi body span base at cursor is = rw (is, same_octets spi) refl

pub traffic_keys : (body : List ℕ) (traffic : TrafficValue) (base at : ℕ) (cursor : Cursor)
    → kd_view base body ≡ Ok (record { tek = Some traffic; lkh_spi = None; download = []; updates = None; spis = record { tek = Some at; lkh = None } })
    → key_download (rows.Traffic traffic.spi) base body cursor ≡ Ok (Traffic traffic, cursor)
unfolding key_download
traffic_keys body traffic base at cursor is = rw (is, same_octets traffic.spi) refl

abbrev view_in : Kd → Result Kd WireFault → Result KdView WireFault
view_in other (Ok found) = Ok found.view
view_in other (Err fault) = Ok other.view

-- a body that was read, without its arrays
view_of_read : (read : Result (Kd × Cursor) WireFault) (given : Kd) → value_of read ≡ Ok given → value_of (mapped (λ (found : Kd). found.view) read) ≡ Ok given.view
view_of_read (Ok found) given is = ap (λ (result : Result Kd WireFault). view_in given result) is
view_of_read (Err fault) given is = absurd (cc)

pub view_from : (base : ℕ) (body : List ℕ) (given : Kd) → kd_of base body ≡ Ok given → kd_view base body ≡ Ok given.view
view_from base body given is = view_of_read (kd (from_start base body)) given is
