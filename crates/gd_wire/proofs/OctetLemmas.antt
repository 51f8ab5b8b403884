-- What is written is octets.
use Rattle.std.proofs.Common.{◌≡◌, ℕ, zero, suc, ◌+◌, true, List, [], ◌∷◌, ◌++◌, length, replicate, refl, arith}
use Rattle.std.specs.Int.{byte_at}
use Rattle.std.proofs.Math.Nat.{mod-lt}
use Rattle.std.proofs.lemmas.List.Elements.{All-nil, All-cons, All-append, All-head, All-tail}
use Rattle.std.proofs.lemmas.Slice.Eq.{bytes_eq-Decides}
use Rattle.std.specs.Str.{bytes_eq}
use Rattle.byteorder.specs.Endian.{big_bytes}
use Rattle.group_terms.specs.Octets.{IsOctet, AreOctets}
use Rattle.gd_wire.specs.declared.headers.Header.{Header}
use Rattle.gd_wire.specs.Attributes.{short_text, long_text}
use Rattle.gd_wire.specs.Chains.{Payload, PayloadFits, PayloadsFit, first_kind, payload_text, payloads_text}
use Rattle.gd_wire.specs.Headers.{header_text, HeaderFits}
use Rattle.gd_wire.specs.Payloads.{payload_head}

-- no octet, one more in front, and one list of octets after the other
pub none : AreOctets []
none = All-nil IsOctet

pub one_more : (octet : ℕ) (octets : List ℕ) → IsOctet octet → AreOctets octets → AreOctets (octet ∷ octets)
one_more octet octets = All-cons IsOctet octet octets

pub both : (octets more : List ℕ) → AreOctets octets → AreOctets more → AreOctets (octets ++ more)
both octets more = All-append IsOctet octets more

pub zeros_are_octets : (count : ℕ) → AreOctets (replicate count 0)
zeros_are_octets zero = none
zeros_are_octets (suc count) = one_more 0 (replicate count 0) (omega arith) (zeros_are_octets count)

-- octets are the same as themselves
pub same_octets : (octets : List ℕ) → bytes_eq octets octets ≡ true
same_octets octets = (bytes_eq-Decides octets octets).1 refl

-- the octets of a number
small_byte : (k number : ℕ) → IsOctet (byte_at k number)
small_byte zero number = mod-lt number (omega arith)
small_byte (suc k) number = mod-lt _ (omega arith)

pub number_octets : (size number : ℕ) → AreOctets (big_bytes size number)
number_octets zero number = none
number_octets (suc size) number =
    one_more (byte_at size number) (big_bytes size number) (small_byte size number) (number_octets size number)

pub short_octets : (kind number : ℕ) → AreOctets (short_text kind number)
short_octets kind number = both (big_bytes 2 (32768 + kind)) (big_bytes 2 number) (number_octets 2 (32768 + kind)) (number_octets 2 number)

pub long_octets : (kind : ℕ) (value : List ℕ) → AreOctets value → AreOctets (long_text kind value)
long_octets kind value small =
    both (big_bytes 2 kind) (big_bytes 2 (length value) ++ value) (number_octets 2 kind)
    (both (big_bytes 2 (length value)) value (number_octets 2 (length value)) small)

pub head_octets : (next size : ℕ) → IsOctet next → AreOctets (payload_head next size)
head_octets next size small =
    let length : List ℕ = big_bytes 2 (size + 4) in
    one_more next (0 ∷ length) small (one_more 0 length (omega arith) (number_octets 2 (size + 4)))

pub payload_octets : (next : ℕ) (body : List ℕ) → IsOctet next → AreOctets body → AreOctets (payload_text next body)
payload_octets next body small bodies = both (payload_head next (length body)) body (head_octets next (length body) small) bodies

pub header_octets : (header : Header) (body : List ℕ) → HeaderFits header body → AreOctets (header_text header)
header_octets header body fits =
    let flags = one_more 1 header.message (omega arith) fits.message_octets in
    let exchange = one_more header.exchange (1 ∷ header.message) fits.exchange flags in
    let version = one_more 16 (header.exchange ∷ 1 ∷ header.message) (omega arith) exchange in
    let fields : List ℕ = header.next ∷ 16 ∷ header.exchange ∷ 1 ∷ header.message in
    let next = one_more header.next (16 ∷ header.exchange ∷ 1 ∷ header.message) fits.next version in
    let front = both header.cookies fields fits.cookie_octets next in
    both (header.cookies ++ fields) (big_bytes 4 header.length) front (number_octets 4 header.length)

first_small : (payloads : List Payload) → PayloadsFit payloads → IsOctet (first_kind payloads)
first_small [] fit = omega arith
first_small (payload ∷ payloads) fit = (All-head PayloadFits payload payloads fit).kind

pub payloads_octets : (payloads : List Payload) → PayloadsFit payloads → AreOctets (payloads_text payloads)
payloads_octets [] fit = none
payloads_octets (payload ∷ payloads) fit =
    let here = All-head PayloadFits payload payloads fit in
    let later = All-tail PayloadFits payload payloads fit in
    both (payload_text (first_kind payloads) payload.body) (payloads_text payloads)
    (payload_octets (first_kind payloads) payload.body (first_small payloads later) here.octets) (payloads_octets payloads later)
