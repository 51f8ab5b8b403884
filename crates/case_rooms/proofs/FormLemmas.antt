-- A key download in any of its forms leads to the root where it gives both a traffic key and the SPI of rekey datagrams.
use Rattle.std.proofs.Common.{◌≡◌, ◌⊎◌, List, ℕ, IsSome, Result, Ok, Err, IfOk, refl, subst, inl, inr}
use Rattle.group_terms.specs.declared.wires.WireFault.{WireFault}
use Rattle.gd_wire.specs.Readings.{Cursor, from_start, value_of, mapped}
use Rattle.kd_wire.specs.Bodies.{Kd, kd, kd_of, kd_view}
use Rattle.kd_wire.specs.Views.{GivesTraffic, GivesUpdates, GivesPath}
use Rattle.kd_wire.specs.declared.bodies.KdView.{KdView}
use Rattle.case_rooms.specs.Replies.{LeadsToRoot}

-- one of the three forms
abbrev Forms : KdView → Type 0
Forms view = GivesTraffic view ⊎ (GivesUpdates view ⊎ GivesPath view)

form_leads : (view : KdView) → Forms view → LeadsToRoot view
form_leads view (inl traffic) = λ tek spi. let none = subst IsSome traffic.lkh_spi spi in absurd (cc)
form_leads view (inr (inl updates)) = λ tek spi. let none = subst IsSome updates.tek tek in absurd (cc)
form_leads view (inr (inr path)) = λ tek spi. path.download

read_leads : (read : Result (Kd × Cursor) WireFault) → ((given : Kd) → value_of read ≡ Ok given → Forms given.view)
    → IfOk (value_of (mapped (λ (given : Kd). given.view) read)) LeadsToRoot
read_leads (Ok found) forms = form_leads found.0.view (forms found.0 refl)
read_leads (Err fault) forms = tt

-- a body without fault leads to the root where it gives both
pub body_leads : ((base : ℕ) (body : List ℕ) (given : Kd) → kd_of base body ≡ Ok given → Forms given.view) → (base : ℕ) (body : List ℕ)
    → IfOk (kd_view base body) LeadsToRoot
body_leads forms base body = read_leads (kd (from_start base body)) (forms base body)
