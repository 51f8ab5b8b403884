-- The text of policies, as the body of an SA payload (RFC 6407 sections 5.2, 5.3 and 5.5).
use Rattle.std.specs.Prelude.{◌≡◌, ℕ, ◌+◌, ◌<◌, ◌⊎◌, List, [], ◌∷◌, ◌++◌, length, Option, None, Some, IfSome, IsSome}
use Rattle.byteorder.specs.Endian.{big_bytes}
use Rattle.gd_wire.specs.Attributes.{short_text, long_text}
use Rattle.gd_wire.specs.Chains.{Payload, first_kind, payloads_text}
use Rattle.group_terms.specs.declared.signatures.SignKind.{SignKind}
use Rattle.group_terms.specs.Octets.{AreOctets, rekey_spi_octets, traffic_spi_octets}
use Rattle.sa_wire.specs.declared.policies.SaPolicy.{SaPolicy}
use Rattle.sa_wire.specs.declared.policies.KekPolicy.{KekPolicy}
use Rattle.sa_wire.specs.declared.policies.TekPolicy.{TekPolicy}
use Rattle.sa_wire.specs.Numbers.{management_algorithm, kek_algorithm, kek_key_length, kek_lifetime, signature_hash, signature_algorithm}
use Rattle.sa_wire.specs.Numbers.{signature_key_length}
use Rattle.sa_wire.specs.Numbers.{lkh, aes, sha_256, life_type, life_duration, encapsulation_mode, authentication_algorithm, tek_key_length}
use Rattle.sa_wire.specs.Numbers.{gdoi, sak, sat, udp, seconds, tunnel, hmac_sha_256, esp, esp_aes, key_bits}

-- an identification by an address of IPv4, which is type 1 (RFC 2407 section 4.6.2.1)
abbrev pub address_text : ℕ → List ℕ → List ℕ
address_text port address = 1 ∷ big_bytes 2 port ++ length address ∷ address

-- the source is 192.0.2.1, and the destination 233.252.0.1, addresses for documents (RFC 5737, RFC 6676)
abbrev pub ids_text : ℕ → List ℕ
ids_text port = address_text port (192 ∷ 0 ∷ 2 ∷ 1 ∷ []) ++ address_text port (233 ∷ 252 ∷ 0 ∷ 1 ∷ [])

-- LKH; AES; 128 bits; a day in seconds
abbrev pub cipher_attributes : List ℕ
cipher_attributes =
    short_text management_algorithm lkh
    ++ short_text kek_algorithm aes
    ++ short_text kek_key_length key_bits
    ++ long_text kek_lifetime (big_bytes 4 86400)

-- SHA-256, and how signatures are made
abbrev pub signature_attributes : SignKind → List ℕ
signature_attributes sign =
    short_text signature_hash sha_256
    ++ short_text signature_algorithm sign.algorithm
    ++ short_text signature_key_length sign.key_bits

-- rekey datagrams go from port 848 to port 848, the port of GDOI, over UDP, which is protocol 17
abbrev pub kek_text : KekPolicy → List ℕ
kek_text kek = udp ∷ ids_text 848 ++ kek.spi ++ big_bytes 4 0 ++ cipher_attributes ++ signature_attributes kek.sign

-- seconds; an hour; tunnel
abbrev pub mode_attributes : List ℕ
mode_attributes = short_text life_type seconds ++ long_text life_duration (big_bytes 4 3600) ++ short_text encapsulation_mode tunnel

-- HMAC with SHA-256; 128 bits
abbrev pub transform_attributes : List ℕ
transform_attributes = short_text authentication_algorithm hmac_sha_256 ++ short_text tek_key_length key_bits

-- ESP for any port, with AES
abbrev pub tek_text : TekPolicy → List ℕ
tek_text tek = esp ∷ udp ∷ ids_text 0 ++ esp_aes ∷ tek.spi ++ mode_attributes ++ transform_attributes

-- the payload for the KEK, where its policy is there
abbrev pub kek_payloads : Option KekPolicy → List Payload
kek_payloads None = []
kek_payloads (Some kek) = record { kind = sak; body = kek_text kek } ∷ []

-- the payload for the TEK, where its policy is there
abbrev pub tek_payloads : Option TekPolicy → List Payload
tek_payloads None = []
tek_payloads (Some tek) = record { kind = sat; body = tek_text tek } ∷ []

-- the payloads of the policies that are there, by our choice that for the KEK first
abbrev pub sa_payloads : SaPolicy → List Payload
sa_payloads policy = kek_payloads policy.kek ++ tek_payloads policy.tek

-- GDOI, no situation, the kind of the first payload, and a reserved field
abbrev pub head_text : ℕ → List ℕ
head_text first = big_bytes 4 gdoi ++ big_bytes 4 0 ++ big_bytes 2 first ++ big_bytes 2 0

-- the body of an SA payload (RFC 6407 section 5.2): what comes before the first payload, and the payloads of the policies that are there
abbrev pub sa_text : SaPolicy → List ℕ
sa_text policy = head_text (first_kind (sa_payloads policy)) ++ payloads_text (sa_payloads policy)

-- how many octets the payload for the KEK has with its header, and 0 where there is none
abbrev pub kek_size : Option KekPolicy → ℕ
kek_size None = 0
kek_size (Some kek) = 57 + rekey_spi_octets

-- how many octets the payload for the TEK has with its header, and 0 where there is none
abbrev pub tek_size : Option TekPolicy → ℕ
tek_size None = 0
tek_size (Some tek) = 47 + traffic_spi_octets

-- how many octets the body of an SA payload has: 12 before the payloads, and what each of them has
abbrev pub sa_size : SaPolicy → ℕ
sa_size policy = 12 + kek_size policy.kek + tek_size policy.tek

-- a policy of the KEK that can be written: a SPI of its due length, and numbers of 2 octets for the signature
pub record KekPolicyFits (kek : KekPolicy) : Type 0 where
  pub spi : length kek.spi ≡ rekey_spi_octets
  pub octets : AreOctets kek.spi
  pub algorithm : kek.sign.algorithm < 65536
  pub key_bits : kek.sign.key_bits < 65536

-- a policy of the TEK that can be written: a SPI of its due length
pub record TekPolicyFits (tek : TekPolicy) : Type 0 where
  pub spi : length tek.spi ≡ traffic_spi_octets
  pub octets : AreOctets tek.spi

-- policies that can be written: of KEK and TEK one at least is there, and each that is there can be written
pub record PolicyFits (policy : SaPolicy) : Type 0 where
  pub kek : IfSome policy.kek KekPolicyFits
  pub tek : IfSome policy.tek TekPolicyFits
  pub some : IsSome policy.kek ⊎ IsSome policy.tek
