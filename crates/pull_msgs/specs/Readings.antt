-- How the payloads of a pull are read, once they are decrypted (RFC 6407 section 3.2).
use Rattle.std.specs.Prelude.{ℕ, ◌+◌, ◌-◌, ◌==◌, List, length, take, drop, Option, None, Some, Result, Ok, Err, if◌then◌else◌}
use Rattle.std.specs.List.{slice_get}
use Rattle.std.specs.Str.{bytes_eq}
use Rattle.gd_wire.specs.declared.chains.Named.{Named}
use Rattle.gd_wire.specs.Bodies as bodies
use Rattle.gd_wire.specs.Bodies.{body_cursor, length_place}
use Rattle.gd_wire.specs.Chains.{payload, ends, named_first, body_of}
use Rattle.gd_wire.specs.Readings.{Reading, ◌>>=◌, ◌>>◌, give, fail, told, check, place, value_of}
use Rattle.group_terms.specs.declared.paths.PathKey.{PathKey}
use Rattle.group_terms.specs.declared.values.TrafficValue.{TrafficValue}
use Rattle.group_terms.specs.declared.wires.WireFault.{WireFault}
use Rattle.group_terms.specs.declared.wires.WireWhat.TheVariants.{Kind, Value}
use Rattle.kd_wire.specs.Bodies.{kd_view}
use Rattle.sa_wire.specs.declared.policies.SaPolicy.{SaPolicy}
use Rattle.sa_wire.specs.declared.places.PlacedKek.{PlacedKek}
use Rattle.sa_wire.specs.declared.places.PlacedTek.{PlacedTek}
use Rattle.sa_wire.specs.Policies.{placed_sa}
use Rattle.pull_msgs.specs.Texts.{hash_kind, nonce_kind, identification_kind, sa_kind, gap_kind, sequence_kind, kd_kind}

-- What is read of a message: the HASH that it carries, the payloads that this covers, and what they say.
pub record PullRead (A : Type 0) : Type 0 where
  pub hash : List ℕ
  pub covered : List ℕ
  pub said : A

-- the payload of the HASH in a text: the HASH, the place after the payload, and what it names
unfoldable pub hash_payload : List ℕ → ℕ → Reading (List ℕ × ℕ × Named)
hash_payload text first = do
  part ← payload hash_kind (named_first first)
  hash ← told (value_of (bodies.hash (length_place part.0) (body_cursor text part.0)))
  after ← place
  give (hash, after, part.1)

-- the end of the payloads; gives what the HASH covers, which begins at a place
unfoldable pub covered : List ℕ → ℕ → Named → Reading (List ℕ)
covered text start named = do
  end ← place
  ends named
  give (take (end - start) (drop start text))

-- the payload of a nonce (RFC 2408 section 3.13): the nonce, and what the payload names as the next one
unfoldable pub nonce_payload : List ℕ → Named → Reading (List ℕ × Named)
nonce_payload text named = do
  part ← payload nonce_kind named
  nonce ← told (value_of (bodies.nonce (length_place part.0) (body_cursor text part.0)))
  give (nonce, part.1)

-- the member's nonce, and the type and the octets of an identification
pub record FirstSaid : Type 0 where
  pub ni : List ℕ
  pub id_type : ℕ
  pub id : List ℕ

-- the member's first message, whose header has named this kind: the HASH, its nonce, and an identification (RFC 6407 section 3.2)
unfoldable pub first : List ℕ → ℕ → Reading (PullRead FirstSaid)
first text kind = do
  hash ← hash_payload text kind
  ni ← nonce_payload text hash.2
  id ← payload identification_kind ni.1
  group ← told (value_of (bodies.identification (body_cursor text id.0)))
  payloads ← covered text hash.1 id.1
  give (record { hash = hash.0; covered = payloads; said = record { ni = ni.0; id_type = group.0; id = group.1 } })

-- both policies; another shape is told at the first octet of the body
abbrev pub both_policies : ℕ → Option PlacedKek → Option PlacedTek → Reading SaPolicy
both_policies base (Some kek) (Some tek) = give (record { kek = Some kek.policy; tek = Some tek.policy })
both_policies base kek tek = fail (Kind sa_kind) base

-- the policies of the KEK and of the TEK, read of the body of an SA payload (RFC 6407 section 5.2), whose first octet is at this place
unfoldable pub policies : ℕ → List ℕ → Reading SaPolicy
policies base body = do
  placed ← told (placed_sa base body)
  both_policies base placed.kek placed.tek

-- the server's nonce, and the policies
pub record SecondSaid : Type 0 where
  pub nr : List ℕ
  pub policy : SaPolicy

-- the server's answer, whose header has named this kind: the HASH, its nonce, and the SA payload with both policies (RFC 6407 section 3.2)
unfoldable pub second : List ℕ → ℕ → Reading (PullRead SecondSaid)
second text kind = do
  hash ← hash_payload text kind
  nr ← nonce_payload text hash.2
  sa ← payload sa_kind nr.1
  policy ← policies (sa.0.at + 4) (body_of text sa.0)
  payloads ← covered text hash.1 sa.1
  give (record { hash = hash.0; covered = payloads; said = record { nr = nr.0; policy = policy } })

-- a GAP (RFC 6407 section 5.4) or none; of what it says nothing is asked
unfoldable pub maybe_gap : Named → Reading Named
maybe_gap named =
    if named.kind == gap_kind then (payload gap_kind named >>= (λ part. give part.1)) else give named

-- the member's agreement, whose header has named this kind: the HASH, and perhaps a GAP (RFC 6407 section 3.2)
unfoldable pub third : List ℕ → ℕ → Reading (PullRead (Unit {0}))
third text kind = do
  hash ← hash_payload text kind
  last ← maybe_gap hash.2
  payloads ← covered text hash.1 last
  give (record { hash = hash.0; covered = payloads; said = tt })

-- the number of the last push, the traffic key, the SPI of the Rekey SA, and the keys of a path
pub record FourthSaid : Type 0 where
  pub sequence : ℕ
  pub traffic : TrafficValue
  pub spi : List ℕ
  pub path : List PathKey

-- the packets of a traffic key and of a path; another shape is told at the first octet of the body
abbrev pub reply_of : ℕ → Option TrafficValue → Option (List ℕ) → Option ℕ → Reading (TrafficValue × List ℕ × ℕ)
reply_of base (Some traffic) (Some spi) (Some at) = give (traffic, spi, at)
reply_of base traffic spi at = fail (Kind kd_kind) base

-- the epoch in which a key was made; 0 where there is none, though a path that was read has two keys at least
abbrev pub epoch_of_key : Option PathKey → ℕ
epoch_of_key (Some key) = key.made
epoch_of_key None = 0

-- the epoch in which the root's key was made, which is the last one of a path
abbrev pub root_made : List PathKey → ℕ
root_made path = epoch_of_key (slice_get path (length path - 1))

-- The SPI of the packet has to be that of the policy; a difference is told at it, after all else.
unfoldable pub fourth : List ℕ → List ℕ → ℕ → Reading (PullRead FourthSaid)
fourth spi text kind = do
  hash ← hash_payload text kind
  number ← payload sequence_kind hash.2
  sequence ← told (value_of (bodies.sequence (length_place number.0) (body_cursor text number.0)))
  kd ← payload kd_kind number.1
  view ← told (kd_view (kd.0.at + 4) (body_of text kd.0))
  reply ← reply_of (kd.0.at + 4) view.tek view.lkh_spi view.spis.lkh
  payloads ← covered text hash.1 kd.1
  check (bytes_eq reply.1 spi) Value reply.2
  give (record {
    hash = hash.0;
    covered = payloads;
    said = record { sequence = sequence; traffic = reply.0; spi = reply.1; path = view.download };
  })
