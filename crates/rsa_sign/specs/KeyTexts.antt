-- Keys as texts: three lines with the modulus, the public and the private exponent, each as octets in hexadecimal, the highest first.
use Rattle.std.specs.Prelude.{◌≡◌, ℕ, ◌+◌, ◌-◌, ◌<◌, ◌≤◌, ◌⊎◌, ⊤, List, [], ◌∷◌, length, slice_index_or, Ok, IsErr}
use Rattle.hex.specs.Hex.{decode_of}
use Rattle.big_mod.specs.Numbers.{number_of}
use Rattle.rsa_sign.specs.declared.faults.KeyFault.{KeyFault}
use Rattle.rsa_sign.specs.declared.faults.KeyFault.TheVariants.{FewBits, ManyBits, EvenModulus, PublicExponent, PrivateExponent, Pair}
use Rattle.rsa_sign.specs.declared.faults.TextFault.{TextFault}
use Rattle.rsa_sign.specs.declared.faults.TextFault.TheVariants as faults
use Rattle.rsa_sign.specs.Keys.{KeyPair, HasFault}
use Rattle.rsa_sign.specs.Signatures.{IsRefused}

-- the octets of a key pair have its numbers
pub record IsPairOf (modulus public private : List ℕ) (pair : KeyPair) : Type 0 where
  pub modulus_is : pair.public.modulus ≡ number_of modulus
  pub public_is : pair.public.exponent ≡ number_of public
  pub private_is : pair.private ≡ number_of private

-- the lines are three, and have these octets
pub record HaveOctets (lines : List (List ℕ)) (modulus public private : List ℕ) : Type 0 where
  pub count : length lines ≡ 3
  pub first : decode_of (slice_index_or lines 0 []) ≡ Ok modulus
  pub second : decode_of (slice_index_or lines 1 []) ≡ Ok public
  pub third : decode_of (slice_index_or lines 2 []) ≡ Ok private

-- the lines give this key pair
pub record GiveKey (lines : List (List ℕ)) (pair : KeyPair) : Type 0 where
  pub modulus : List ℕ
  pub public : List ℕ
  pub private : List ℕ
  pub octets : HaveOctets lines modulus public private
  pub numbers : IsPairOf modulus public private pair

-- why no key pair has the numbers of these octets
pub record HasOctetFault (fault : KeyFault) (modulus public private : List ℕ) : Type 0 where
  pub cause : HasFault fault (number_of modulus) (number_of public) ⊎ ((pair : KeyPair) × IsPairOf modulus public private pair × IsRefused fault pair)

-- the line of a number that is refused
abbrev pub line_of : KeyFault → ℕ
line_of FewBits = 1
line_of ManyBits = 1
line_of EvenModulus = 1
line_of PublicExponent = 2
line_of PrivateExponent = 3
line_of Pair = 3

-- Why lines give no key pair: one of the three is missing, there is a fourth one, one is not hexadecimal, or has a number that is refused.
abbrev pub HaveFault : TextFault → List (List ℕ) → Type 0
HaveFault faults.NoMemory lines = ⊤
HaveFault (faults.Missing line) lines = (line ≡ length lines + 1) × (line ≤ 3)
HaveFault (faults.Further line) lines = (line ≡ 4) × (4 ≤ length lines)
HaveFault (faults.NotHex line) lines = (length lines ≡ 3) × (1 ≤ line) × (line ≤ 3) × IsErr (decode_of (slice_index_or lines (line - 1) []))
HaveFault (faults.Key line fault) lines = (line ≡ line_of fault) × (modulus : List ℕ) × (public : List ℕ) × (private : List ℕ)
    × HaveOctets lines modulus public private × HasOctetFault fault modulus public private
