-- A hash is 32 octets.
use Rattle.std.proofs.Common.{◌≡◌, ◌<◌, ◌++◌, ℕ, zero, suc, List, [], ◌∷◌, length, arith}
use Rattle.std.proofs.lemmas.List.Elements.{All-append, All-cons, All-nil, All-take}
use Rattle.std.proofs.lemmas.List.{length-take-le}
use Rattle.std.specs.Prelude.{slice_index}
use Rattle.std.specs.Int.{to_be_bytes, w32}
use Rattle.sha2.specs.Sha256.{digest_bytes, final_hash, initial_hash_256, sha256}
use Rattle.sha2.proofs.Facts256.{length-sha256}
use Rattle.gd_cipher.specs.Bytes.{AreBytes}
use Rattle.gd_cipher.specs.Macs.{phase2_iv}
use Rattle.group_terms.specs.Octets.{IsOctet, AreOctets}
use Rattle.group_terms.specs.declared.phases.Phase1.{Phase1}
use Rattle.pull_msgs.specs.Hashes.{hash_of}

four_octets : (a b c d : ℕ) → a < 256 → b < 256 → c < 256 → d < 256 → AreOctets (a ∷ b ∷ c ∷ d ∷ [])
four_octets a b c d one two three four =
    All-cons IsOctet a (b ∷ c ∷ d ∷ []) one (All-cons IsOctet b (c ∷ d ∷ []) two (All-cons IsOctet c (d ∷ []) three (All-cons IsOctet d [] four (All-nil IsOctet))))

word_octets : (word : ℕ) → AreOctets (to_be_bytes w32 word)
word_octets word = four_octets _ _ _ _ (omega arith) (omega arith) (omega arith) (omega arith)

digest_octets : (words : List ℕ) (count : ℕ) → AreOctets (digest_bytes words count)
unfolding digest_bytes
digest_octets words zero = All-nil IsOctet
digest_octets words (suc count) =
    All-append IsOctet (digest_bytes words count) (to_be_bytes w32 (slice_index words count)) (digest_octets words count) (word_octets (slice_index words count))

octets-sha256 : (text : List ℕ) → AreOctets (sha256 text)
unfolding sha256
octets-sha256 text = digest_octets (final_hash initial_hash_256 text) 8

pub octets-hash_of : (phase : Phase1) (message nonces payloads : List ℕ) → AreOctets (hash_of phase message nonces payloads)
octets-hash_of phase message nonces payloads = octets-sha256 _

pub length-hash_of : (phase : Phase1) (message nonces payloads : List ℕ) → length (hash_of phase message nonces payloads) ≡ 32
length-hash_of phase message nonces payloads = length-sha256 _

-- the IV of a first message is one
pub first_iv_fits : (last message : List ℕ) → AreBytes 16 (phase2_iv last message)
first_iv_fits last message =
    let long = length-sha256 (last ++ message) in
    record { len = length-take-le 16 (sha256 (last ++ message)) (omega (arith, long)); small = All-take IsOctet 16 (sha256 (last ++ message)) (octets-sha256 (last ++ message)) }
