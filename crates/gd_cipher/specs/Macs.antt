-- HMAC with SHA-256 (RFC 2104 section 2; the hash is FIPS 180-4's, whose blocks have 64 bytes).
use Rattle.std.specs.Prelude.{ℕ, ◌-◌, List, ◌++◌, length, take, replicate, nat_lt, if◌then◌else◌}
use Rattle.sha2.specs.Sha256.{sha256}
use Rattle.sha2.specs.Hashers.{Holds256}
use Rattle.gd_cipher.specs.declared.macs.Hmac.{Hmac}
use Rattle.gd_cipher.specs.Blocks.{xor_all}

-- a key of a block's length: one that is longer is hashed first, and a shorter one filled up with zeros
abbrev pub block_key : List ℕ → List ℕ
block_key key =
    let short = if nat_lt 64 (length key) then sha256 key else key in
    short ++ replicate (64 - length short) 0

-- the key of a block's length, with one byte added to each of its bytes
abbrev pub padded : ℕ → List ℕ → List ℕ
padded pad key = xor_all (block_key key) (replicate 64 pad)

-- the hash of the key with the outer pad and of the hash of the key with the inner pad and the text
abbrev pub hmac : List ℕ → List ℕ → List ℕ
hmac key text = sha256 (padded 0x5c key ++ sha256 (padded 0x36 key ++ text))

-- A text so far has been taken under a key: the inner hasher holds the key with the inner pad added and then the text, and the outer one
-- holds the key with the outer pad added.
abbrev pub IsHmacOf : Hmac → List ℕ → List ℕ → Type 0
IsHmacOf hash key text = Holds256 hash.inner (padded 0x36 key ++ text) × Holds256 hash.outer (padded 0x5c key)

-- The IV of the first message of a phase 2 exchange, as quick mode is (RFC 2409 appendix B), where SHA-256 is the negotiated hash: of the
-- hash of the last cipher block of phase 1 and the message id, as many bytes as a block has.
abbrev pub phase2_iv : List ℕ → List ℕ → List ℕ
phase2_iv last message = take 16 (sha256 (last ++ message))
