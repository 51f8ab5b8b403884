-- Signatures: RSASSA-PKCS1-v1_5 (RFC 8017 section 8.2).
use Rattle.std.specs.Prelude.{◌≡◌, ℕ, ◌%◌, ◌^◌, ◌≤◌, ◌==◌, ◌&&◌, nat_lt, List, Bool, false, length, replicate}
use Rattle.std.specs.Str.{bytes_eq}
use Rattle.big_mod.specs.Numbers.{number_of, octets_of}
use Rattle.rsa_sign.specs.declared.faults.KeyFault.{KeyFault}
use Rattle.rsa_sign.specs.declared.faults.KeyFault.TheVariants.{PrivateExponent, Pair}
use Rattle.rsa_sign.specs.Keys.{PublicKey, KeyPair, octet_count}
use Rattle.rsa_sign.specs.Messages.{encoded}

-- the encoded message of a digest under a key
abbrev pub message_of : PublicKey → List ℕ → List ℕ
message_of key digest = encoded (octet_count key.bits) digest

-- the signature of a digest (section 8.2.1)
abbrev pub signature_of : KeyPair → List ℕ → List ℕ
signature_of pair digest = octets_of (octet_count pair.public.bits) (number_of (message_of pair.public digest) ^ pair.private % pair.public.modulus)

-- The octets are a signature of the digest: as many as the modulus has, of a number below it whose power is the whole encoded message (section 8.2.2).
abbrev pub accepts : PublicKey → List ℕ → List ℕ → Bool
accepts key digest signature =
    (length signature == octet_count key.bits) && nat_lt (number_of signature) key.modulus &&
    bytes_eq (octets_of (octet_count key.bits) (number_of signature ^ key.exponent % key.modulus)) (message_of key digest)

-- whether what a key pair signs of a digest is accepted, tried at 32 octets of 0
abbrev pub is_tried : KeyPair → Bool
is_tried pair = accepts pair.public (replicate 32 0) (signature_of pair (replicate 32 0))

-- why a key pair is refused whose public key is not
abbrev pub IsRefused : KeyFault → KeyPair → Type 0
IsRefused PrivateExponent pair = pair.public.modulus ≤ pair.private
IsRefused Pair pair = is_tried pair ≡ false
IsRefused _ pair = ⊥
