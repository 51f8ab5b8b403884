-- Octets, and how many of them values have.
use Rattle.std.specs.Prelude.{ℕ, ◌+◌, ◌<◌, List, All}

-- a number of 8 bits
abbrev pub IsOctet : ℕ → Type 0
IsOctet octet = octet < 256

-- numbers of 8 bits each
abbrev pub AreOctets : List ℕ → Type 0
AreOctets octets = All IsOctet octets

-- how many octets an IV of AES has, which is one block (FIPS 197)
abbrev pub iv_octets : ℕ
iv_octets = 16

-- how many octets a key of AES with 128 bits has (FIPS 197)
abbrev pub key_octets : ℕ
key_octets = 16

-- how many octets the data of a position's key has, which is the IV and then the key (RFC 6407 section 5.6.3.1)
abbrev pub data_octets : ℕ
data_octets = iv_octets + key_octets

-- how many octets a key of HMAC with SHA-256 has (RFC 4868 section 2.1.1)
abbrev pub integrity_octets : ℕ
integrity_octets = 32

-- how many octets the SPI of rekey datagrams has, which is two cookies (RFC 6407 section 5.3)
abbrev pub rekey_spi_octets : ℕ
rekey_spi_octets = 16

-- how many octets the SPI of traffic has (RFC 6407 section 5.5)
abbrev pub traffic_spi_octets : ℕ
traffic_spi_octets = 4
