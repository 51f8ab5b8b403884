-- The bodies of payloads of fixed fields. Each is a text of its own. Where its size is not due, the length of its payload is wrong, in the
-- field at a place before it. A GAP payload (RFC 6407 section 5.4) has any octets.
use Rattle.std.specs.Prelude.{ℕ, ◌+◌, ◌==◌, ◌&&◌, nat_le, List, ◌∷◌}
use Rattle.byteorder.specs.Endian.{big_bytes}
use Rattle.group_terms.specs.declared.wires.WireWhat.TheVariants.{Length}
use Rattle.gd_wire.specs.declared.chains.Part.{Part}
use Rattle.gd_wire.specs.Readings.{Cursor, Reading, ◌>>=◌, ◌>>◌, give, check, octets_left, from_start, rest, octets, octet, number}
use Rattle.gd_wire.specs.Readings.{long_number}
use Rattle.gd_wire.specs.Chains.{body_of}

-- the body of a payload, as a text of its own, which begins after the four octets of the payload's header
abbrev pub body_cursor : List ℕ → Part → Cursor
body_cursor text part = from_start (part.at + 4) (body_of text part)

-- the place in the datagram of the length in a payload's header, after the kind of the next one and a reserved octet (RFC 2408 section 3.2)
abbrev pub length_place : Part → ℕ
length_place part = part.at + 2

-- a body of just this size
unfoldable pub due_size : ℕ → ℕ → Reading (Unit {0})
due_size size at = do
  left ← octets_left
  check (left == size) Length at

-- and one of at least and at most these sizes
unfoldable pub sized : ℕ → ℕ → ℕ → Reading (List ℕ)
sized least most at = do
  left ← octets_left
  check (nat_le least left && nat_le left most) Length at
  rest

-- how many octets a hash of HMAC with SHA-256 has
abbrev pub hash_octets : ℕ
hash_octets = 32

-- a hash (RFC 2408 section 3.11), which has just as many octets as HMAC with SHA-256 gives
unfoldable pub hash : ℕ → Reading (List ℕ)
hash at = do
  due_size hash_octets at
  octets hash_octets

-- a nonce (RFC 2408 section 3.13), which has 8 to 128 octets (RFC 6407 section 5.8)
unfoldable pub nonce : ℕ → Reading (List ℕ)
nonce at = sized 8 128 at

-- a signature (RFC 2408 section 3.12), by our choice of at most 512 octets
unfoldable pub signature : ℕ → Reading (List ℕ)
signature at = sized 1 512 at

-- a sequence number of 4 octets (RFC 6407 section 5.7)
unfoldable pub sequence : ℕ → Reading ℕ
sequence at = do
  due_size 4 at
  long_number

-- the text of a sequence number (RFC 6407 section 5.7), in 4 octets, the highest first
abbrev pub sequence_text : ℕ → List ℕ
sequence_text number = big_bytes 4 number

-- an identification (RFC 2408 section 3.8) with its type; its protocol and port (RFC 2407 section 4.6.2) say nothing here
unfoldable pub identification : Reading (ℕ × List ℕ)
identification = do
  type ← octet
  protocol ← octet
  port ← number
  octets ← rest
  give (type, octets)

-- they are written as zero
abbrev pub identification_text : ℕ → List ℕ → List ℕ
identification_text type octets = type ∷ 0 ∷ 0 ∷ 0 ∷ octets
