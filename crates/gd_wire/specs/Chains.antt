-- Payloads one after the other (RFC 2408 section 3.2): each begins with a header of four octets, the kind of the next one or 0, a reserved
-- octet, and the length of all of it in 2. After the last one zeros fill the last block of 16 octets (RFC 2409 appendix B).
use Rattle.std.specs.Prelude.{◌≡◌, ℕ, ◌+◌, ◌-◌, ◌%◌, ◌<◌, ◌≤◌, ◌==◌, nat_le, nat_lt, List, [], ◌∷◌, ◌++◌, length, map, take, drop}
use Rattle.std.specs.Prelude.{replicate, All, Result, Ok, Err}
use Rattle.byteorder.specs.Endian.{big_bytes}
use Rattle.group_terms.specs.Octets.{AreOctets}
use Rattle.group_terms.specs.declared.wires.WireFault.{WireFault}
use Rattle.group_terms.specs.declared.wires.WireWhat.TheVariants.{Short, Length, Reserved, Kind}
use Rattle.gd_wire.specs.declared.chains.ChainFault.{ChainFault}
use Rattle.gd_wire.specs.declared.chains.Named.{Named}
use Rattle.gd_wire.specs.declared.chains.Part.{Part}
use Rattle.gd_wire.specs.Readings.{Cursor, Reading, ◌>>=◌, ◌>>◌, value_of, told, give, place, here, check, octets_left}
use Rattle.gd_wire.specs.Readings.{part, octet, number, due_octet, padding_end}

-- ---- texts

-- the text of a payload
abbrev pub payload_text : ℕ → List ℕ → List ℕ
payload_text next body = next ∷ 0 ∷ big_bytes 2 (length body + 4) ++ body

-- a payload by its kind and body
pub record Payload : Type 0 where
  pub kind : ℕ
  pub body : List ℕ

-- the kind of the first of these payloads, and 0 where there is none
abbrev pub first_kind : List Payload → ℕ
first_kind [] = 0
first_kind (payload ∷ payloads) = payload.kind

-- the text of payloads one after the other, each of which names the kind of the next one, and the last one 0 (RFC 2408 section 3.2)
abbrev pub payloads_text : List Payload → List ℕ
payloads_text [] = []
payloads_text (payload ∷ payloads) = payload_text (first_kind payloads) payload.body ++ payloads_text payloads

-- as many octets, filled up to whole blocks of 16
abbrev pub filled : ℕ → ℕ
filled size = size + (16 - size % 16) % 16

-- a text filled up to whole blocks
abbrev pub padded : List ℕ → List ℕ
padded text = text ++ replicate ((16 - length text % 16) % 16) 0

-- a payload that can be written: its kind is an octet, and its body has octets, so few that the payload's length fits in 2 octets
pub record PayloadFits (payload : Payload) : Type 0 where
  pub kind : payload.kind < 256
  pub size : length payload.body ≤ 65531
  pub octets : AreOctets payload.body

-- payloads each of which can be written
abbrev pub PayloadsFit : List Payload → Type 0
PayloadsFit payloads = All PayloadFits payloads

-- ---- readings

-- the kind that is due was named, else another one is told where it was named
abbrev pub due_named : ℕ → Named → Reading (Unit {0})
due_named kind named = check (named.kind == kind) (Kind named.kind) named.at

-- A payload of a kind, which was named before it: where it is, and which kind it names. Its header is there whole, and its length counts
-- the header and stays in the text; the body is passed over.
unfoldable pub payload : ℕ → Named → Reading (Part × Named)
payload kind named = do
  due_named kind named
  at ← here
  left ← octets_left
  check (nat_le 4 left) Short at
  next ← octet
  due_octet 0 Reserved
  length_at ← here
  size ← number
  check (nat_le 4 size) Length length_at
  start ← place
  body ← part (size - 4) Length length_at
  give (record { kind = kind; at = at; start = start; length = size - 4 }, record { kind = next; at = at })

-- after the last payload: none was named, and zeros fill a block
unfoldable pub chain_end : Named → Reading (Unit {0})
chain_end named = do
  due_named 0 named
  at ← here
  left ← octets_left
  check (nat_lt left 16) Length at
  padding_end

-- nothing but zeros comes after the payloads; they are looked at, and reading stays where they begin
abbrev pub ends : Named → Reading (Unit {0})
ends named cursor = told (value_of (chain_end named cursor)) cursor

-- A chain gives its payloads, or the first fault and the payloads before that: here after some that were read before.
abbrev pub after_parts : List Part → Result (List Part) ChainFault → Result (List Part) ChainFault
after_parts before (Ok parts) = Ok (before ++ parts)
after_parts before (Err stop) = Err (record { fault = stop.fault; before = before ++ stop.before })

-- a payload was read, and the chain goes on with what it names
abbrev pub payload_then : Result ((Part × Named) × Cursor) WireFault → (Named → Cursor → Result (List Part) ChainFault)
    → Result (List Part) ChainFault
payload_then (Ok read) later = after_parts (read.0.0 ∷ []) (later read.0.1 read.1)
payload_then (Err fault) later = Err (record { fault = fault; before = [] })

-- what the end of a chain gives: no payload more, or the fault that was found there
abbrev pub no_payload : Result (Unit {0}) WireFault → Result (List Part) ChainFault
no_payload (Ok read) = Ok []
no_payload (Err fault) = Err (record { fault = fault; before = [] })

-- a chain of just these kinds, whose first one was named
abbrev pub chain_from : List ℕ → Named → Cursor → Result (List Part) ChainFault
chain_from [] named cursor = no_payload (value_of (chain_end named cursor))
chain_from (kind ∷ due) named cursor = payload_then (payload kind named cursor) (chain_from due)

-- the first kind is named in the header of the datagram, at place 16
abbrev pub named_first : ℕ → Named
named_first kind = record { kind = kind; at = 16 }

-- a chain of just these kinds, given the kind that the header of the datagram names as that of the first payload
abbrev pub chain : ℕ → List ℕ → Cursor → Result (List Part) ChainFault
chain first due cursor = chain_from due (named_first first) cursor

-- ---- what was read

-- a payload lies within its text, and its two places agree
pub record PartFits (text : List ℕ) (base : ℕ) (part : Part) : Type 0 where
  pub within : part.start + part.length ≤ length text
  pub place : part.at + 4 ≡ base + part.start

-- a cursor that goes through a text from its first octet on, which has the place `base` in the datagram
pub record GoesThrough (text : List ℕ) (base : ℕ) (cursor : Cursor) : Type 0 where
  pub base_is : cursor.base ≡ base
  pub within : cursor.at ≤ length text
  pub left : cursor.left ≡ drop cursor.at text

-- its body
abbrev pub body_of : List ℕ → Part → List ℕ
body_of text part = take part.length (drop part.start text)

-- the payloads at these places of a text
abbrev pub payloads_at : List ℕ → List Part → List Payload
payloads_at text parts = map (λ (part : Part). record { kind = part.kind; body = body_of text part }) parts

-- the kinds of some payloads, in their order
abbrev pub kinds_of : List Payload → List ℕ
kinds_of payloads = map (λ (payload : Payload). payload.kind) payloads

-- ---- for readers by places
