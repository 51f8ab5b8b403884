-- The body of an SA payload (RFC 6407 section 5.2): the domain of interpretation in 4 octets, which is 2 for GDOI, the situation 0 in 4,
-- the kind of the first payload of a policy in 2, a reserved field of 2, and then the payloads. Our choices are that there is one for the
-- KEK at most (SAK), and then one for the TEK at most (SAT), of the two at least one, and none of another kind; and that the TEK is for ESP
-- with AES.
use Rattle.std.specs.Prelude.{ℕ, ◌==◌, List, [], ◌∷◌, Option, None, Some, Result, if◌then◌else◌}
use Rattle.group_terms.specs.declared.wires.WireFault.{WireFault}
use Rattle.group_terms.specs.declared.wires.WireWhat.TheVariants.{Reserved, Value}
use Rattle.group_terms.specs.Octets.{rekey_spi_octets, traffic_spi_octets}
use Rattle.gd_wire.specs.Readings.{Cursor, Reading, ◌>>=◌, ◌>>◌, give, here, inside, end, from_start, value_of, mapped, octets, octet}
use Rattle.gd_wire.specs.Readings.{number, due_octet, due_number, due_long_number, due_long_kind, section}
use Rattle.sa_wire.specs.declared.attributes.Found.{Found}
use Rattle.sa_wire.specs.declared.policies.SaPolicy.{SaPolicy}
use Rattle.sa_wire.specs.declared.policies.KekPolicy.{KekPolicy}
use Rattle.sa_wire.specs.declared.policies.TekPolicy.{TekPolicy}
use Rattle.sa_wire.specs.declared.places.PlacedSa.{PlacedSa}
use Rattle.sa_wire.specs.declared.places.PlacedKek.{PlacedKek}
use Rattle.sa_wire.specs.declared.places.PlacedTek.{PlacedTek}
use Rattle.sa_wire.specs.Numbers.{gdoi, no_payload, sak, sat, signature_algorithm, signature_key_length, esp, esp_aes}
use Rattle.sa_wire.specs.Rules.{kek_rules, tek_rules}
use Rattle.sa_wire.specs.Attributes.{attributes, found_of}

-- The identification of an endpoint: a type of 1 octet, a port of 2, and the length of the data in 1, before the data; it may be any.
unfoldable pub endpoint : Reading (Unit {0})
endpoint = do
  octet
  number
  size ← octet
  octets size
  give tt

-- for the source, and for the destination
unfoldable pub endpoints : Reading (Unit {0})
endpoints = do
  endpoint
  endpoint

-- the policy of a KEK whose SPI, which is at this place, and attributes were read
abbrev pub kek_of : ℕ → List ℕ → List Found → PlacedKek
kek_of at spi found = record {
  policy = record {
    spi = spi;
    sign = record { algorithm = (found_of signature_algorithm found).number; key_bits = (found_of signature_key_length found).number };
  };
  spi_at = at;
  algorithm_at = (found_of signature_algorithm found).at;
  key_bits_at = (found_of signature_key_length found).at;
}

-- The policy of the KEK (RFC 6407 section 5.3): a protocol of 1 octet, the endpoints, a SPI of 16, a reserved field of 4, and
-- attributes.
unfoldable pub kek : Reading PlacedKek
kek = do
  octet
  endpoints
  at ← here
  spi ← octets rekey_spi_octets
  due_long_number 0 Reserved
  found ← attributes kek_rules
  give (kek_of at spi found)

-- The policy of the TEK (section 5.5): the protocol's id, which is that of ESP, the protocol, the endpoints, the transform's id,
-- which is that of AES, a SPI of 4 octets, and attributes.
unfoldable pub tek : Reading PlacedTek
tek = do
  due_octet esp Value
  octet
  endpoints
  due_octet esp_aes Value
  at ← here
  spi ← octets traffic_spi_octets
  attributes tek_rules
  give (record { policy = record { spi = spi }; spi_at = at })

-- the payload for the TEK, which is the last one; octets after it are too many
unfoldable pub last_tek : Reading PlacedTek
last_tek = do
  payload ← section (no_payload ∷ [])
  policy ← inside payload.1 tek
  end
  give policy

-- after the payload for the KEK: that for the TEK, where it was named, or nothing
unfoldable pub rest_after_kek : ℕ → Reading (Option PlacedTek)
rest_after_kek next = if next == sat then (do policy ← last_tek; give (Some policy)) else (do end; give None)

-- the payload for the KEK, which is the first one and names what comes next, and the rest
unfoldable pub with_kek : Reading PlacedSa
with_kek = do
  payload ← section (no_payload ∷ sat ∷ [])
  policy ← inside payload.1 kek
  other ← rest_after_kek payload.0
  give (record { kek = Some policy; tek = other })

-- the payload for the TEK, where it is the first one and there is none for the KEK
unfoldable pub with_tek_alone : Reading PlacedSa
with_tek_alone = do
  policy ← last_tek
  give (record { kek = None; tek = Some policy })

-- what comes before the first payload, whose kind that names
unfoldable pub head : Reading ℕ
head = do
  due_long_number gdoi Value
  due_long_number 0 Value
  first ← due_long_kind (sak ∷ sat ∷ [])
  due_number 0 Reserved
  give first

-- the whole body (RFC 6407 section 5.2): what comes before the first payload, and then the payloads, the first of the kind that was named
unfoldable pub policies : Reading PlacedSa
policies = do
  first ← head
  if first == sat then with_tek_alone else with_kek

-- the policy of the KEK without its places in the datagram, where there is one
abbrev pub option_kek : Option PlacedKek → Option KekPolicy
option_kek None = None
option_kek (Some kek) = Some kek.policy

-- the policy of the TEK without its place in the datagram, where there is one
abbrev pub option_tek : Option PlacedTek → Option TekPolicy
option_tek None = None
option_tek (Some tek) = Some tek.policy

-- the policies of an SA without their places in the datagram
abbrev pub policy_of : PlacedSa → SaPolicy
policy_of sa = record { kek = option_kek sa.kek; tek = option_tek sa.tek }

-- the policies with their places, as read of a body whose first octet has this place in its datagram, or the first fault
abbrev pub placed_sa : ℕ → List ℕ → Result PlacedSa WireFault
placed_sa base body = value_of (policies (from_start base body))

-- the policies without their places, as read of a body whose first octet has this place in its datagram, or the first fault
abbrev pub sa : ℕ → List ℕ → Result SaPolicy WireFault
sa base body = value_of (mapped policy_of (policies (from_start base body)))
