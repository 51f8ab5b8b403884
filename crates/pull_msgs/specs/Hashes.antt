-- What the HASH of each message of a pull is (RFC 6407 section 3.2): HMAC under SKEYID_a over the message id, the bodies of the nonces of
-- earlier messages, and all payloads that come after that of the HASH, each with its header.
use Rattle.std.specs.Prelude.{ℕ, List, ◌++◌}
use Rattle.gd_cipher.specs.Macs.{hmac}
use Rattle.group_terms.specs.declared.phases.Phase1.{Phase1}

-- the HASH of a message with this id, after these nonces, and with these payloads after it (RFC 6407 section 3.2)
abbrev pub hash_of : Phase1 → List ℕ → List ℕ → List ℕ → List ℕ
hash_of phase message nonces payloads = hmac phase.skeyid_a (message ++ (nonces ++ payloads))
