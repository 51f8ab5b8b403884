-- The signatures of tests: HMAC with SHA-256 under a key that everybody knows.
use Rattle.std.specs.Prelude.{ℕ, List, Bool, codes}
use Rattle.std.specs.Str.{bytes_eq}
use Rattle.gd_cipher.specs.Macs.{hmac}
use Rattle.group_terms.specs.declared.signatures.SignKind.{SignKind}

-- the key of these signatures, which everybody knows
abbrev pub test_key : List ℕ
test_key = codes "gdoi test signer"

-- what is signed is a digest
abbrev pub test_signature : List ℕ → List ℕ
test_signature digest = hmac test_key digest

-- that signature is accepted, and no other
abbrev pub accepts_test : List ℕ → List ℕ → Bool
accepts_test digest signature = bytes_eq signature (test_signature digest)

-- an algorithm for private use, whose stated key length is the length of the hash, 256 bits
abbrev pub test_kind : SignKind
test_kind = record { algorithm = 128; key_bits = 256 }

-- the octets of the hash
abbrev pub test_size : ℕ
test_size = 32
