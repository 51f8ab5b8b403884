-- The key packet of a traffic key (RFC 6407 section 5.6.1): after its header a SPI's size of 1 octet, the SPI, and two attributes, which
-- are the key of the cipher (1) and that of the integrity (2), in this order or the other one.
use Rattle.std.specs.Prelude.{ℕ, ◌==◌, List, [], ◌∷◌, if◌then◌else◌}
use Rattle.group_terms.specs.Octets.{key_octets, integrity_octets, traffic_spi_octets}
use Rattle.group_terms.specs.declared.values.TrafficValue.{TrafficValue}
use Rattle.group_terms.specs.declared.wires.WireWhat.TheVariants.{Kind}
use Rattle.gd_wire.specs.Readings.{Reading, ◌>>=◌, ◌>>◌, give, here, check, octets, number}
use Rattle.gd_wire.specs.Attributes.{no_more_attributes}
use Rattle.kd_wire.specs.Arrays.{long_type}
use Rattle.kd_wire.specs.Spis.{spi_place}

-- the size of the key of a kind, as the TEK's policy has it: for AES (1), and for HMAC with SHA-256 (2)
abbrev pub key_size : ℕ → ℕ
key_size kind = if kind == 1 then key_octets else integrity_octets

-- an attribute of one of these kinds, in the long form, with as many octets as its key has, which come next
unfoldable pub key_kind : List ℕ → Reading ℕ
key_kind kinds = do
  at ← here
  kind ← long_type kinds
  size ← number
  check (size == key_size kind) (Kind kind) at
  give kind

-- after the head of the cipher's key: that key, and then the key of the integrity with its head
unfoldable pub cipher_key_first : Reading (List ℕ × List ℕ)
cipher_key_first = do
  cipher_key ← octets key_octets
  key_kind (2 ∷ [])
  integrity_key ← octets integrity_octets
  give (cipher_key, integrity_key)

-- after the head of the integrity's key: that key, and then the key of the cipher with its head
unfoldable pub integrity_key_first : Reading (List ℕ × List ℕ)
integrity_key_first = do
  integrity_key ← octets integrity_octets
  key_kind (1 ∷ [])
  cipher_key ← octets key_octets
  give (cipher_key, integrity_key)

-- each of the two once
unfoldable pub traffic_keys : Reading (List ℕ × List ℕ)
traffic_keys = do
  kind ← key_kind (1 ∷ 2 ∷ [])
  if kind == 1 then cipher_key_first else integrity_key_first

-- the place of the SPI in the datagram, and the value, up to the end of the packet
unfoldable pub traffic : Reading (ℕ × TrafficValue)
traffic = do
  at ← spi_place traffic_spi_octets
  spi ← octets traffic_spi_octets
  keys ← traffic_keys
  no_more_attributes
  give (at, record { cipher_key = keys.0; integrity_key = keys.1; spi = spi })
