-- The bodies of payloads of fixed fields, read as they were written.
use Rattle.std.proofs.Common.{◌≡◌, ◌≤◌, ◌<◌, ◌∙◌, ℕ, List, [], ◌∷◌, length, take, Ok, ap, refl, sym, arith, le-leb}
use Rattle.std.proofs.Math.Seq.{take-length}
use Rattle.gd_wire.specs.Bodies.{due_size, hash, nonce, sequence, sequence_text, sized, signature, identification, identification_text}
use Rattle.gd_wire.specs.Readings.{from_start, octets, part, value_of}
use Rattle.gd_wire.proofs.FieldLemmas.{octet_written, number_written, long_number_written}

pub hash_written : (base at : ℕ) (digest : List ℕ) → length digest ≡ 32 → value_of (hash at (from_start base digest)) ≡ Ok digest
unfolding hash due_size octets part
hash_written base at digest size =
    let whole : take 32 digest ≡ digest = ap (λ many. take many digest) (sym size) ∙ take-length digest in
    rw (size, le-leb 32 (length digest) (omega (arith, size)), whole) refl

pub nonce_written : (base at : ℕ) (octets : List ℕ) → 8 ≤ length octets → length octets ≤ 128 → value_of (nonce at (from_start base octets)) ≡ Ok octets
unfolding nonce sized
nonce_written base at octets least most = rw (le-leb 8 (length octets) least, le-leb (length octets) 128 most) refl

pub signature_written : (base at : ℕ) (octets : List ℕ) → 1 ≤ length octets → length octets ≤ 512
    → value_of (signature at (from_start base octets)) ≡ Ok octets
unfolding signature sized
signature_written base at octets least most = rw (le-leb 1 (length octets) least, le-leb (length octets) 512 most) refl

pub sequence_written : (number base at : ℕ) → number < 4294967296 → value_of (sequence at (from_start base (sequence_text number))) ≡ Ok number
unfolding sequence due_size
sequence_written number base at small = ap value_of (long_number_written base 0 number [] small)

pub identification_written : (type base : ℕ) (octets : List ℕ)
    → value_of (identification (from_start base (identification_text type octets))) ≡ Ok (type, octets)
unfolding identification
identification_written type base octets =
    rw (
      octet_written base 0 type (0 ∷ 0 ∷ 0 ∷ octets),
      octet_written base 1 0 (0 ∷ 0 ∷ octets),
      number_written base 2 0 octets (omega arith),
    ) refl
