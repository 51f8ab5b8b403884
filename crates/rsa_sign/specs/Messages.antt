-- What is signed of a digest: EMSA-PKCS1-v1_5 with SHA-256 (RFC 8017 section 9.2).
use Rattle.std.specs.Prelude.{ℕ, ◌-◌, List, [], ◌∷◌, ◌++◌, replicate}

-- the name of SHA-256, and that 32 octets of a digest follow (note 1)
abbrev pub digest_name : List ℕ
digest_name =
    0x30 ∷ 0x31 ∷ 0x30 ∷ 0x0d ∷ 0x06 ∷ 0x09 ∷ 0x60 ∷ 0x86 ∷ 0x48 ∷ 0x01 ∷ 0x65 ∷ 0x03 ∷ 0x04 ∷ 0x02 ∷ 0x01 ∷ 0x05 ∷ 0x00 ∷ 0x04 ∷ 0x20 ∷ []

-- the encoded message of so many octets: 0, 1, octets of ones, 0, the name and the digest
abbrev pub encoded : ℕ → List ℕ → List ℕ
encoded size digest = 0 ∷ 1 ∷ (replicate (size - 54) 0xff ++ (0 ∷ (digest_name ++ digest)))
