-- The cookies of a datagram: those of its header, where that was read, and of the phase 1 SA under which it was written.
use Rattle.std.proofs.Common.{◌≡◌, ◌∙◌, ℕ, ◌+◌, List, ◌∷◌, ◌++◌, Ok, length, take, ap, append_assoc}
use Rattle.std.proofs.lemmas.List.{take_at}
use Rattle.byteorder.specs.Endian.{big_bytes}
use Rattle.gd_wire.specs.Headers.{header}
use Rattle.gd_wire.specs.Readings.{from_start, value_of}
use Rattle.gd_wire.specs.declared.headers.Header.{Header}
use Rattle.gd_wire.proofs.HeaderLemmas.{header_found}
use Rattle.gd_wire.proofs.ReadingLemmas.{value_ok}
use Rattle.group_terms.specs.declared.phases.Phase1.{Phase1}
use Rattle.pull_msgs.specs.Texts.{IsPullText, Message, hash_kind, plain_text, pull_exchange}

-- ---- the cookies of a header

pub cookies_read : (exchange : ℕ) (datagram : List ℕ) (found : Header) → value_of (header exchange (from_start 0 datagram)) ≡ Ok found
    → found.cookies ≡ take 16 datagram
cookies_read exchange datagram found is =
    let read = value_ok (header exchange (from_start 0 datagram)) found is in
    (header_found exchange datagram (found, read.0) read.1).cookies

-- ---- the cookies of a text

pub cookies_written : (phase : Phase1) (iv : List ℕ) (said : Message) (datagram : List ℕ) → length phase.cookies ≡ 16 → IsPullText phase iv said datagram
    → take 16 datagram ≡ phase.cookies
cookies_written phase iv said datagram sixteen text =
    let later = hash_kind ∷ 16 ∷ pull_exchange ∷ 1 ∷ said.message in
    let size = big_bytes 4 (28 + length (plain_text phase said)) in
    ap (take 16)
    (text.is_text ∙ append_assoc (phase.cookies ++ later) size text.sealed ∙ append_assoc phase.cookies later (size ++ text.sealed))
    ∙ take_at phase.cookies (later ++ (size ++ text.sealed)) 16 sixteen
