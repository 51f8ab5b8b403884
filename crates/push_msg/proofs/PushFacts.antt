-- What the definitions of pushes give where a wrong digest or test would give something else: a digest without the octets of "rekey", and the policy of another SPI.
use Rattle.std.proofs.Common.{◌≡◌, ℕ, [], ◌∷◌, replicate, Ok, Err, refl}
use Rattle.sha2.specs.Sha256.{compress, digest_bytes, first_words, hash_after, rounds, schedule, sha256}
use Rattle.gd_wire.specs.Faults.{fault_at}
use Rattle.gd_wire.specs.Readings.{Cursor, value_of}
use Rattle.group_terms.specs.declared.signatures.SignKind.{SignKind}
use Rattle.group_terms.specs.declared.wires.WireWhat.TheVariants.{Value}
use Rattle.sa_wire.specs.declared.places.PlacedKek.{PlacedKek}
use Rattle.push_msg.specs.Digests.{digest}
use Rattle.push_msg.specs.Readings.{due_sign, membership}
use Rattle.push_msg.specs.declared.rows.Row.TheVariants.{Membership}

-- the hash of "rekey" alone, which is not that of nothing
digest_of_nothing :
    digest [] []
    ≡ 231 ∷ 238 ∷ 176 ∷ 11 ∷ 88 ∷ 221 ∷ 224 ∷ 158 ∷ 46 ∷ 109 ∷ 64 ∷ 16 ∷ 95 ∷ 219 ∷ 127 ∷ 19 ∷ 98 ∷ 190 ∷ 255 ∷ 20 ∷ 112 ∷ 38 ∷ 212 ∷ 43 ∷ 11 ∷ 161
    ∷ 239 ∷ 76 ∷ 91 ∷ 34 ∷ 143 ∷ 255 ∷ []
unfolding sha256 digest_bytes hash_after compress rounds schedule first_words
digest_of_nothing = refl

-- a policy for the SPI of 16 times this octet
kek_for : ℕ → SignKind → PlacedKek
kek_for octet sign = record { policy = record { spi = replicate 16 octet; sign = sign }; spi_at = 70; algorithm_at = 120; key_bits_at = 124 }

policy_for_this_spi : (cursor : Cursor)
    → value_of (membership (replicate 16 1) (record { algorithm = 3; key_bits = 256 }) (kek_for 1 (record { algorithm = 3; key_bits = 256 })) cursor)
    ≡ Ok (Membership (replicate 16 1))
unfolding kek_for membership due_sign
policy_for_this_spi cursor = refl

policy_for_another_spi : (sign due : SignKind) (cursor : Cursor)
    → value_of (membership (replicate 16 1) due (kek_for 2 sign) cursor) ≡ Err (fault_at Value 70)
unfolding kek_for membership
policy_for_another_spi sign due cursor = refl
