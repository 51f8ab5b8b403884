-- What was read as a fourth message has the packets of a traffic key and of a path, and of the forms of a body one alone has both.
use Rattle.std.proofs.Common.{◌≡◌, ◌⊎◌, ◌∙◌, ◌+◌, ℕ, List, Option, Some, None, Result, Ok, Err, refl, sym, ap, subst, inl, inr}
use Rattle.std.specs.Str.{bytes_eq}
use Rattle.gd_wire.specs.declared.chains.Named.{Named}
use Rattle.gd_wire.specs.declared.chains.Part.{Part}
use Rattle.gd_wire.specs.Bodies as bodies
use Rattle.gd_wire.specs.Bodies.{body_cursor, length_place}
use Rattle.gd_wire.specs.Chains.{body_of, payload}
use Rattle.gd_wire.specs.Readings.{Cursor, Reading, ◌>>=◌, ◌>>◌, check, from_start, give, mapped, value_of}
use Rattle.group_terms.specs.declared.values.TrafficValue.{TrafficValue}
use Rattle.group_terms.specs.declared.wires.WireFault.{WireFault}
use Rattle.group_terms.specs.declared.wires.WireWhat.TheVariants.{Value}
use Rattle.kd_wire.specs.declared.bodies.KdView.{KdView}
use Rattle.kd_wire.specs.Bodies.{Kd, kd, kd_of, kd_view}
use Rattle.kd_wire.specs.Texts.{IsPath}
use Rattle.kd_wire.specs.Views.{GivesTraffic, GivesUpdates, GivesPath}
use Rattle.pull_msgs.specs.Readings.{FourthSaid, PullRead, covered, fourth, hash_payload, reply_of}
use Rattle.gd_wire.proofs.ReadingLemmas.{check_ok, same_value}
use Rattle.pull_msgs.proofs.FrontLemmas.{both_ok, told_ok, value_ok}

-- what the law of the forms of a body promises
abbrev pub HasForms : Type 0
HasForms = (base : ℕ) (body : List ℕ) (given : Kd) → kd_of base body ≡ Ok given
    → GivesTraffic given.view ⊎ (GivesUpdates given.view ⊎ GivesPath given.view)

-- a body of which a view is given, with its arrays
viewed : (read : Result (Kd × Cursor) WireFault) (view : KdView) → value_of (mapped (λ (given : Kd). given.view) read) ≡ Ok view
    → (given : Kd) × (value_of read ≡ Ok given) × (given.view ≡ view)
viewed (Ok all) view is = (all.0, refl, same_value all.0.view view is)
viewed (Err fault) view is = absurd (cc)

-- both packets are there
both_there : (base : ℕ) (tek : Option TrafficValue) (spi : Option (List ℕ)) (at : Option ℕ) (cursor : Cursor) (read : (TrafficValue × List ℕ × ℕ) × Cursor)
    → reply_of base tek spi at cursor ≡ Ok read → (tek ≡ None → ⊥) × (spi ≡ None → ⊥)
both_there base (Some traffic) (Some spi) (Some at) cursor read is = (λ none. absurd (cc), λ none. absurd (cc))
both_there base (Some traffic) (Some spi) None cursor read is = absurd (cc)
both_there base (Some traffic) None at cursor read is = absurd (cc)
both_there base None spi at cursor read is = absurd (cc)

view_has_path : HasForms → (base : ℕ) (body : List ℕ) (view : KdView) → kd_view base body ≡ Ok view → (view.tek ≡ None → ⊥) → (view.lkh_spi ≡ None → ⊥)
    → IsPath view.download
view_has_path forms base body view is has_tek has_spi =
    let read = viewed (kd (from_start base body)) view is in
    let same = read.2 in
    elim (forms base body read.0 read.1) [
      | inl traffic ↦ absurd (has_spi (ap (λ (view : KdView). view.lkh_spi) (sym same) ∙ traffic.lkh_spi))
      | inr other ↦
          elim other [
            | inl updates ↦ absurd (has_tek (ap (λ (view : KdView). view.tek) (sym same) ∙ updates.tek))
            | inr path ↦ subst (λ (view : KdView). IsPath view.download) same path.download
          ]
    ]

-- what comes after the view of the keys, of which the payload is this one
abbrev rest_of : List ℕ → List ℕ → List ℕ × ℕ × Named → ℕ → Part × Named → KdView → Reading (PullRead FourthSaid)
rest_of spi text hash sequence keys view = do
  reply ← reply_of (keys.0.at + 4) view.tek view.lkh_spi view.spis.lkh
  payloads ← covered text hash.1 keys.1
  check (bytes_eq reply.1 spi) Value reply.2
  give (record {
    hash = hash.0;
    covered = payloads;
    said = record { sequence = sequence; traffic = reply.0; spi = reply.1; path = view.download };
  })

-- both packets are there, and the path that is given is that of the view
rest_given : (spi text : List ℕ) (hash : List ℕ × ℕ × Named) (sequence : ℕ) (keys : Part × Named) (view : KdView) (cursor : Cursor)
    (all : PullRead FourthSaid × Cursor) → rest_of spi text hash sequence keys view cursor ≡ Ok all
    → (view.tek ≡ None → ⊥) × (view.lkh_spi ≡ None → ⊥) × (view.download ≡ all.0.said.path)
rest_given spi text hash sequence keys view cursor all is =
    let reply = both_ok (reply_of (keys.0.at + 4) view.tek view.lkh_spi view.spis.lkh cursor) _ all is in
    let payloads = both_ok (covered text hash.1 keys.1 reply.0.1) _ all reply.2 in
    let checked = check_ok (bytes_eq reply.0.0.1 spi) Value reply.0.0.2 payloads.0.1 _ all payloads.2 in
    let there = both_there (keys.0.at + 4) view.tek view.lkh_spi view.spis.lkh cursor reply.0 reply.1 in
    (there.0, there.1, ap (λ (found : PullRead FourthSaid × Cursor). found.0.said.path) (same_value _ all checked.1))

-- what was read as a fourth message says a path
pub said_path : HasForms → (spi text : List ℕ) (first : ℕ) (read : PullRead FourthSaid) → value_of (fourth spi text first (from_start 28 text)) ≡ Ok read
    → IsPath read.said.path
unfolding fourth
said_path forms spi text first read is =
    let all = value_ok _ read is in
    let hash = both_ok (hash_payload text first (from_start 28 text)) _ all.0 all.1 in
    let number = both_ok (payload 18 hash.0.0.2 hash.0.1) _ all.0 hash.2 in
    let sequence = told_ok (value_of (bodies.sequence (length_place number.0.0.0) (body_cursor text number.0.0.0))) number.0.1 _ all.0 number.2 in
    let keys = both_ok (payload 17 number.0.0.1 number.0.1) _ all.0 sequence.2 in
    let view = told_ok (kd_view (keys.0.0.0.at + 4) (body_of text keys.0.0.0)) keys.0.1 (rest_of spi text hash.0.0 sequence.0 keys.0.0) all.0 keys.2 in
    let given = rest_given spi text hash.0.0 sequence.0 keys.0.0 view.0 keys.0.1 all.0 view.2 in
    let path = view_has_path forms (keys.0.0.0.at + 4) (body_of text keys.0.0.0) view.0 view.1 given.0 given.1 in
    subst (λ (found : PullRead FourthSaid). IsPath found.said.path) all.2 (subst IsPath given.2 path)
