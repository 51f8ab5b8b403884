-- Keys (RFC 8017 section 3).
use Rattle.std.specs.Prelude.{◌≡◌, ℕ, ◌+◌, ◌-◌, ◌*◌, ◌/◌, ◌%◌, ◌^◌, ◌<◌, ◌≤◌, ◌⊎◌}
use Rattle.rsa_sign.specs.declared.faults.KeyFault.{KeyFault}
use Rattle.rsa_sign.specs.declared.faults.KeyFault.TheVariants.{FewBits, ManyBits, EvenModulus, PublicExponent, PrivateExponent, Pair}

-- A public key. The bits are those of the modulus.
pub record PublicKey : Type 0 where
  pub modulus : ℕ
  pub exponent : ℕ
  pub bits : ℕ

-- the octets of a signature
abbrev pub octet_count : ℕ → ℕ
octet_count bits = (bits + 7) / 8

-- the modulus has so many bits, 2,048 to 4,096, and the octets of that
pub record IsPublicKey (key : PublicKey) : Type 0 where
  pub fewest : 2048 ≤ key.bits
  pub most : key.bits ≤ 4096
  pub large : 2 ^ (key.bits - 1) ≤ key.modulus
  pub small : key.modulus < 2 ^ key.bits
  pub least : 256 ^ (octet_count key.bits - 1) ≤ key.modulus
  pub room : key.modulus < 256 ^ octet_count key.bits
  pub some : 0 < key.exponent

-- a key pair
pub record KeyPair : Type 0 where
  pub public : PublicKey
  pub private : ℕ

-- The exponents belong together: one undoes the other.
abbrev pub AreExponents : KeyPair → Type 0
AreExponents pair = (message : ℕ) → message < pair.public.modulus → message ^ (pair.private * pair.public.exponent) % pair.public.modulus ≡ message

-- why a public key of these numbers is refused
abbrev pub HasFault : KeyFault → ℕ → ℕ → Type 0
HasFault FewBits modulus exponent = modulus < 2 ^ 2047
HasFault ManyBits modulus exponent = 2 ^ 4096 ≤ modulus
HasFault EvenModulus modulus exponent = modulus % 2 ≡ 0
HasFault PublicExponent modulus exponent = (exponent ≡ 0) ⊎ (2 ^ 64 ≤ exponent)
HasFault PrivateExponent modulus exponent = ⊥
HasFault Pair modulus exponent = ⊥
