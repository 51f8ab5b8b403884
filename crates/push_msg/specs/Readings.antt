-- How the payloads of a push are read, once they are decrypted (RFC 6407 section 4). The SA payload alone says which of the two pushes it
-- is.
use Rattle.std.specs.Prelude.{ℕ, ◌+◌, ◌==◌, nat_lt, List, [], ◌∷◌, take, Option, None, Some, Result, Ok, Err, if◌then◌else◌}
use Rattle.std.specs.Option.{is_none}
use Rattle.std.specs.Str.{bytes_eq}
use Rattle.gd_wire.specs.declared.chains.Part.{Part}
use Rattle.gd_wire.specs.Bodies.{body_cursor, length_place}
use Rattle.gd_wire.specs.Bodies as bodies
use Rattle.gd_wire.specs.Chains.{payload, ends, named_first, body_of}
use Rattle.gd_wire.specs.Readings.{Reading, ◌>>=◌, ◌>>◌, give, fail, told, check, place, value_of}
use Rattle.group_terms.specs.declared.signatures.SignKind.{SignKind}
use Rattle.group_terms.specs.declared.wires.WireFault.{WireFault}
use Rattle.group_terms.specs.declared.wires.WireWhat.{WireWhat}
use Rattle.group_terms.specs.declared.wires.WireWhat.TheVariants.{Kind, Value}
use Rattle.kd_wire.specs.declared.bodies.KdView.{KdView}
use Rattle.kd_wire.specs.declared.updates.SealedKey.{SealedKey}
use Rattle.kd_wire.specs.declared.updates.UpdateArray.{UpdateArray}
use Rattle.kd_wire.specs.Bodies.{kd_view}
use Rattle.kd_wire.specs.Spans.{span_arrays}
use Rattle.sa_wire.specs.declared.places.PlacedKek.{PlacedKek}
use Rattle.sa_wire.specs.declared.places.PlacedTek.{PlacedTek}
use Rattle.sa_wire.specs.Policies.{placed_sa}
use Rattle.push_msg.specs.declared.bodies.OpenBody.{OpenBody}
use Rattle.push_msg.specs.declared.bodies.OpenBody.TheVariants.{Membership, Traffic}
use Rattle.push_msg.specs.declared.rows.Row.{Row}
use Rattle.push_msg.specs.declared.rows.Row.TheVariants as rows
use Rattle.push_msg.specs.Texts.{sequence_kind, sa_kind, kd_kind, signature_kind}

-- what is there; else this is wrong at a place
abbrev pub there : {A : Type 0} → Option A → WireWhat → ℕ → Reading A
there (Some value) what at = give value
there None what at = fail what at

-- ---- the SA payload

-- How the KEK's policy says that pushes are signed is as the verifier checks them; of two differences the one at the earlier place is told.
unfoldable pub due_sign : SignKind → PlacedKek → Reading (Unit {0})
due_sign sign kek =
    let algorithm = check (kek.policy.sign.algorithm == sign.algorithm) Value kek.algorithm_at in
    let key_bits = check (kek.policy.sign.key_bits == sign.key_bits) Value kek.key_bits_at in
    if nat_lt kek.algorithm_at kek.key_bits_at then (algorithm >> key_bits) else (key_bits >> algorithm)

-- the policy of the KEK, which is for this SPI, and for the signatures that the verifier checks
unfoldable pub membership : List ℕ → SignKind → PlacedKek → Reading Row
membership spi sign kek = do
  check (bytes_eq kek.policy.spi spi) Value kek.spi_at
  due_sign sign kek
  give (rows.Membership kek.policy.spi)

-- one policy alone
abbrev pub row_of : List ℕ → SignKind → ℕ → Option PlacedKek → Option PlacedTek → Reading Row
row_of spi sign base (Some kek) None = membership spi sign kek
row_of spi sign base None (Some tek) = give (rows.Traffic tek.policy.spi)
row_of spi sign base None None = fail (Kind sa_kind) base
row_of spi sign base (Some kek) (Some tek) = fail (Kind sa_kind) base

-- which of the two pushes it is, read of the body of the SA payload, whose first octet is at this place
unfoldable pub row : List ℕ → SignKind → ℕ → List ℕ → Reading Row
row spi sign base body = do
  sa ← told (placed_sa base body)
  row_of spi sign base sa.kek sa.tek

-- ---- the KD payload

-- the epoch in which the keys of an update array were made, by the first key; 0 where there is none
abbrev pub epoch_of_keys : List SealedKey → ℕ
epoch_of_keys [] = 0
epoch_of_keys (key ∷ keys) = key.gives.made

-- the epoch in which the keys of all these update arrays were made, by the first array; 0 where there is none
abbrev pub epoch_of : List UpdateArray → ℕ
epoch_of [] = 0
epoch_of (array ∷ arrays) = epoch_of_keys array.keys

-- update arrays alone, for this SPI
abbrev pub membership_body : List ℕ → ℕ → List ℕ → KdView → Reading OpenBody
membership_body spi base body view = do
  span ← there view.updates (Kind kd_kind) base
  lkh ← there view.lkh_spi (Kind kd_kind) base
  at ← there view.spis.lkh (Kind kd_kind) base
  check (bytes_eq lkh spi) Value at
  give (Membership (epoch_of (span_arrays span body)) span)

-- a traffic key alone, with the SPI of the policy
abbrev pub traffic_body : List ℕ → ℕ → KdView → Reading OpenBody
traffic_body spi base view = do
  check (is_none view.lkh_spi) (Kind kd_kind) base
  traffic ← there view.tek (Kind kd_kind) base
  at ← there view.spis.tek (Kind kd_kind) base
  check (bytes_eq traffic.spi spi) Value at
  give (Traffic traffic)

-- what the key packets give to the push that the SA payload says it is; other packets are a fault
abbrev pub body_for : Row → ℕ → List ℕ → KdView → Reading OpenBody
body_for (rows.Membership spi) base body view = membership_body spi base body view
body_for (rows.Traffic spi) base body view = traffic_body spi base view

-- what a push gives, read of the body of the KD payload (RFC 6407 section 5.6), whose first octet is at this place
unfoldable pub key_download : Row → ℕ → List ℕ → Reading OpenBody
key_download row base body = do
  view ← told (kd_view base body)
  body_for row base body view

-- ---- the payloads of a push

-- What is read: its number, what it gives, the body of its key download, the payloads before that of the signature, and the signature.
pub record PushRead : Type 0 where
  pub number : ℕ
  pub body : OpenBody
  pub keys : List ℕ
  pub signed : List ℕ
  pub signature : List ℕ

-- the sequence number that the body of SEQ in a text has (RFC 6407 section 5.7)
abbrev pub number_in : List ℕ → Part → Result ℕ WireFault
number_in text part = value_of (bodies.sequence (length_place part) (body_cursor text part))

-- the signature that the body of SIG in a text has (RFC 2408 section 3.12)
abbrev pub signature_in : List ℕ → Part → Result (List ℕ) WireFault
signature_in text part = value_of (bodies.signature (length_place part) (body_cursor text part))

-- A push for this SPI is read of a text, whose header names the kind of the first payload: SEQ, SA, KD and SIG in this order, and no other after
-- them (RFC 6407 section 4).
unfoldable pub push : List ℕ → SignKind → List ℕ → ℕ → Reading PushRead
push spi sign text first = do
  sequence ← payload sequence_kind (named_first first)
  number ← told (number_in text sequence.0)
  sa ← payload sa_kind sequence.1
  which ← row spi sign (sa.0.at + 4) (body_of text sa.0)
  kd ← payload kd_kind sa.1
  body ← key_download which (kd.0.at + 4) (body_of text kd.0)
  signed ← place
  last ← payload signature_kind kd.1
  signature ← told (signature_in text last.0)
  ends last.1
  give (record { number = number; body = body; keys = body_of text kd.0; signed = take signed text; signature = signature })
