-- The ISAKMP header (RFC 2408 section 3.1): two cookies of 8 octets, the kind of the first payload, the version 1.0, the exchange, the
-- flags, a message id of 4 octets, and the length of the datagram in 4. The exchange is 32 for GROUPKEY-PULL (RFC 6407 section 3) and 33
-- for GROUPKEY-PUSH (section 4); of the flags that of encryption is set (sections 3.2 and 4.2), and by our choice no other. UDP over IPv4
-- holds 65,507 octets.
use Rattle.std.specs.Prelude.{◌≡◌, ℕ, ◌+◌, ◌-◌, ◌%◌, ◌<◌, ◌≤◌, ◌==◌, ◌&&◌, nat_le, nat_lt, not, Bool, true, List, [], ◌∷◌, ◌++◌, length}
use Rattle.std.specs.Prelude.{if◌then◌else◌, All}
use Rattle.byteorder.specs.Endian.{big_from, big_bytes}
use Rattle.group_terms.specs.declared.wires.WireWhat.TheVariants.{Short, Length, Version, Value}
use Rattle.gd_wire.specs.declared.headers.Header.{Header}
use Rattle.gd_wire.specs.Kinds.{pull_exchange, push_exchange}
use Rattle.gd_wire.specs.Readings.{Reading, ◌>>=◌, ◌>>◌, give, here, check, octets_left, octets, octet, long_number, due_octet, due_kind}

-- the text of a header
abbrev pub header_text : Header → List ℕ
header_text header = header.cookies ++ header.next ∷ 16 ∷ header.exchange ∷ 1 ∷ header.message ++ big_bytes 4 header.length

-- a push has the message id zero (RFC 6407 section 4.2), and a pull another one, since zero is that of phase 1 (RFC 2408 section 3.1); of
-- other exchanges nothing is asked
abbrev pub suits_exchange : ℕ → ℕ → Bool
suits_exchange exchange message =
    if exchange == pull_exchange then not (message == 0)
    else (if exchange == push_exchange then message == 0
    else true)

-- the length in the header is that of the datagram, which has whole blocks of 16 octets after the header (RFC 2409 appendix B), at least
-- one
abbrev pub is_due_length : ℕ → ℕ → Bool
is_due_length told long = told == long && nat_lt 28 long && ((long - 28) % 16 == 0)

-- the message id, which has to suit the exchange
unfoldable pub message_id : ℕ → Reading (List ℕ)
message_id exchange = do
  at ← here
  message ← octets 4
  check (suits_exchange exchange (big_from 0 4 message)) Value at
  give message

-- the length, in a datagram of this size
unfoldable pub told_length : ℕ → Reading ℕ
told_length size = do
  at ← here
  told ← long_number
  check (is_due_length told size) Length at
  give told

-- the fields of a header
unfoldable pub header_fields : ℕ → ℕ → Reading Header
header_fields exchange size = do
  cookies ← octets 16
  next ← octet
  due_octet 16 Version
  kind ← due_kind (exchange ∷ [])
  due_octet 1 Value
  message ← message_id exchange
  told ← told_length size
  give (record { cookies = cookies; next = next; exchange = kind; message = message; length = told })

-- the header of a datagram that is read from its start: it is not cut off, and the datagram is no longer than UDP holds
unfoldable pub header : ℕ → Reading Header
header exchange = do
  size ← octets_left
  check (nat_le 28 size) Short size
  check (nat_le size 65507) Length 65507
  header_fields exchange size

-- a header that suits what is after it
pub record HeaderFits (header : Header) (body : List ℕ) : Type 0 where
  pub cookies : length header.cookies ≡ 16
  pub cookie_octets : All (λ octet. octet < 256) header.cookies
  pub next : header.next < 256
  pub exchange : header.exchange < 256
  pub message : length header.message ≡ 4
  pub message_octets : All (λ octet. octet < 256) header.message
  pub suits : suits_exchange header.exchange (big_from 0 4 header.message) ≡ true
  pub told : header.length ≡ 28 + length body
  pub some : 0 < length body
  pub blocks : length body % 16 ≡ 0
  pub small : 28 + length body ≤ 65507

-- how many octets a datagram has whose header is read: those of the header, and whole blocks after it
pub record HasPayloads (datagram : List ℕ) : Type 0 where
  pub header : 28 ≤ length datagram
  pub few : length datagram ≤ 65507
  pub whole : (length datagram - 28) % 16 ≡ 0
