-- How many octets a datagram has whose header is read.
use Rattle.std.proofs.Common.{◌≡◌, ◌+◌, ◌<◌, ◌++◌, ◌∷◌, ℕ, List, length, get_or, Result, Ok, Err, ap, arith, length-append}
use Rattle.std.proofs.lemmas.List.Elements.{All-from_get_or}
use Rattle.byteorder.specs.Endian.{big_bytes}
use Rattle.group_terms.specs.Octets.{IsOctet}
use Rattle.group_terms.specs.declared.wires.WireFault.{WireFault}
use Rattle.gd_wire.specs.declared.headers.Header.{Header}
use Rattle.gd_wire.specs.Headers.{header, header_text, HasPayloads}
use Rattle.gd_wire.specs.Readings.{Cursor, from_start, value_of}
use Rattle.gd_wire.proofs.HeaderLemmas.{header_read}

abbrev taken : Header → Result Header WireFault → Header
taken other (Ok head) = head
taken other (Err fault) = other

-- a value that was read, with where reading went on
read_on : (read : Result (Header × Cursor) WireFault) (head : Header) → value_of read ≡ Ok head → (now : Cursor) × (read ≡ Ok (head, now))
read_on (Ok found) head is = let same : found.0 ≡ head = ap (taken head) is in (found.1, λ i. Ok (same i, found.1))
read_on (Err fault) head is = absurd (cc)

pub has_payloads : (exchange : ℕ) (datagram : List ℕ) (head : Header) → ((i : ℕ) → i < length datagram → get_or datagram i 0 < 256)
    → value_of (header exchange (from_start 0 datagram)) ≡ Ok head → HasPayloads datagram
has_payloads exchange datagram head each is =
    let read = read_on (header exchange (from_start 0 datagram)) head is in
    let found = header_read exchange datagram (head, read.0) (All-from_get_or IsOctet datagram 0 each) read.1 in
    let whole = found.text in
    let fit = found.fits in
    let front : List ℕ = head.next ∷ 16 ∷ head.exchange ∷ 1 ∷ head.message in
    let long : length datagram ≡ 28 + length read.0.left =
    omega (
      arith,
      ap length whole,
      length-append (header_text head) read.0.left,
      length-append (head.cookies ++ front) (big_bytes 4 head.length),
      length-append head.cookies front,
      fit.cookies,
      fit.message,
    ) in
    record { header = omega (arith, long); few = omega (arith, long, fit.small); whole = omega (arith, long, fit.blocks) }
