-- What the signature of a push is made of (RFC 6407 section 4): the hash of the octets of "rekey", the header, and the payloads before that
-- of the signature, as they are before they are encrypted.
use Rattle.std.specs.Prelude.{ℕ, List, ◌++◌, codes}
use Rattle.sha2.specs.Sha256.{sha256}

-- the digest that is signed: of the header of a push, and of the payloads before that of the signature, which are not encrypted yet (RFC 6407 section 4)
abbrev pub digest : List ℕ → List ℕ → List ℕ
digest header payloads = sha256 (codes "rekey" ++ (header ++ payloads))
