-- The steps of a member's store: made anew by a reply (RFC 6407 section 3.2), and given a datagram that may be a push (section 4).
use Rattle.std.specs.Prelude.{◌≡◌, ◌≢◌, ◌⊎◌, ℕ, ◌<◌, ◌≤◌, Bool, true, false, List, [], ◌∷◌, Result, Ok, Err, IsErr, MatchBool}
use Rattle.gd_edges.specs.declared.verifiers.Verifier.{Ghosts as VerifierGhosts}
use Rattle.gd_wire.specs.declared.headers.Header.{Header}
use Rattle.group_terms.specs.declared.paths.Keyed.{Keyed}
use Rattle.group_terms.specs.declared.paths.PathKey.{PathKey}
use Rattle.group_terms.specs.declared.pushes.PushRefusal.{PushRefusal}
use Rattle.group_terms.specs.declared.pushes.PushRefusal.TheVariants.{OtherSpi, Malformed, BadSignature, Stale, NoPath}
use Rattle.group_terms.specs.declared.values.NodeValue.{NodeValue}
use Rattle.group_terms.specs.declared.values.TrafficValue.{TrafficValue}
use Rattle.group_terms.specs.declared.wires.WireFault.{WireFault}
use Rattle.kd_wire.specs.Spans.{span_arrays}
use Rattle.kd_wire.specs.declared.updates.UpdateArray.{UpdateArray}
use Rattle.push_msg.specs.declared.bodies.OpenBody.{OpenBody}
use Rattle.push_msg.specs.declared.bodies.OpenBody.TheVariants as bodies
use Rattle.push_msg.specs.Pushes.{HasFault, Reads, digest_of, header_of}
use Rattle.push_msg.specs.Readings.{PushRead}
use Rattle.member_store.specs.declared.answers.Older.{Older}
use Rattle.member_store.specs.declared.answers.Taken.{Taken}
use Rattle.member_store.specs.declared.answers.Taken.TheVariants as takes
use Rattle.member_store.specs.Stores.{Store, has_position, is_older, leaf_of, root_epoch, root_of, store_of, with_traffic_key, with_tree_keys}
use Rattle.member_store.specs.Takings.{Takes, keys_given}

-- ---- a reply

-- it makes the store anew, or is refused, with both numbers, where it is older than what the store has
abbrev pub IsRenewal : Store → Keyed → Result (Unit {0}) Older → Store → Type 0
IsRenewal store keyed (Ok done) next = (is_older store keyed ≡ false) × (next ≡ store_of keyed)
IsRenewal store keyed (Err why) next =
    (is_older store keyed ≡ true) × (why ≡ record { last = store.sequence; got = keyed.sequence }) × (next ≡ store)

-- ---- a datagram

-- the key under which a store opens pushes: that of the root
abbrev pub kek_of : Store → NodeValue
kek_of store = (root_of store.path).value

module _ {V : Type 0} (v : VerifierGhosts V) (verifier : V) (store : Store) (datagram : List ℕ) where
  -- a push of the store's Rekey SA is read of it, under the root's key
  abbrev pub ReadsPush : PushRead → Type 0
  ReadsPush read = Reads datagram store.spi (kek_of store) (v.kind_of verifier) read

  -- none is, for its first fault: in the header, or else in what is read under the root's key
  abbrev pub HasFirstFault : WireFault → Type 0
  HasFirstFault fault = (header_of datagram ≡ Err fault) ⊎ HasFault datagram store.spi (kek_of store) (v.kind_of verifier) fault

  -- whether the verifier accepts the signature
  abbrev pub is_signed : PushRead → Bool
  is_signed read = v.accepts verifier (digest_of datagram read) read.signature

  -- The push that a datagram is, or why it is refused. A header that is none comes first; then other cookies than the SPI (RFC 6407 section 5.3); then
  -- payloads that are none of a push; then a signature that is not accepted; and then a number that is not greater than the last one (section 5.7). The order
  -- is our choice.
  abbrev pub IsOpening : Result PushRead PushRefusal → Type 0
  IsOpening (Ok read) = ReadsPush read × (is_signed read ≡ true) × (store.sequence < read.number)
  IsOpening (Err (OtherSpi got kept)) =
      (head : Header) × (header_of datagram ≡ Ok head) × (head.cookies ≢ store.spi) × (got ≡ head.cookies) × (kept ≡ store.spi)
  IsOpening (Err (Malformed at)) = (fault : WireFault) × HasFirstFault fault × (at ≡ fault.at)
  IsOpening (Err BadSignature) = (read : PushRead) × ReadsPush read × (is_signed read ≡ false)
  IsOpening (Err (Stale last got)) =
      (read : PushRead) × ReadsPush read × (is_signed read ≡ true) × (read.number ≤ store.sequence) × (last ≡ store.sequence) × (got ≡ read.number)
  IsOpening (Err (NoPath leaf)) = ⊥

-- a refusal leaves the store as it was
pub record IsRefused (store : Store) (why : PushRefusal) (result : Result Taken PushRefusal) (next : Store) : Type 0 where
  pub is : result ≡ Err why
  pub stays : next ≡ store

-- the store has other keys of the tree, and is at the root that is among them
pub record TakesRoot (store : Store) (number : ℕ) (taken : List PathKey) (result : Result Taken PushRefusal) (next : Store) : Type 0 where
  pub keeps : next ≡ with_tree_keys store number taken
  pub is : result ≡ Ok (takes.Root (root_epoch next))

-- Of the keys that the push gives some are taken, and are kept if that of the root is among them; else there is no path. Its body was read without fault, so
-- its span has all of its arrays.
pub record TakesTree (store : Store) (read : PushRead) (arrays : List UpdateArray) (result : Result Taken PushRefusal) (next : Store) : Type 0 where
  pub taken : List PathKey
  pub takes_all : Takes store.path (keys_given arrays) taken
  pub after : MatchBool (has_position taken 1) (TakesRoot store read.number taken result next)
      (IsRefused store (NoPath (leaf_of store.path)) result next)

-- the traffic key is kept, as that of the epoch of the root under which it came
pub record TakesTraffic (store : Store) (read : PushRead) (traffic : TrafficValue) (result : Result Taken PushRefusal) (next : Store) : Type 0 where
  pub keeps : next ≡ with_traffic_key store read.number traffic
  pub is : result ≡ Ok (takes.Traffic (root_epoch store))

-- what a push gives is taken
abbrev pub TakesBody : OpenBody → Store → PushRead → Result Taken PushRefusal → Store → Type 0
TakesBody (bodies.Membership made span) store read result next = TakesTree store read (span_arrays span read.keys) result next
TakesBody (bodies.Traffic traffic) store read result next = TakesTraffic store read traffic result next

-- after a datagram was opened the store takes what the push gives; one that is refused leaves the store as it was
abbrev pub AfterOpening : Result PushRead PushRefusal → Store → Result Taken PushRefusal → Store → Type 0
AfterOpening (Ok read) store result next = TakesBody read.body store read result next
AfterOpening (Err why) store result next = IsRefused store why result next

-- a store is given a datagram: its answer, and the store after it
pub record IsAcceptance {V : Type 0} (v : VerifierGhosts V) (verifier : V) (store : Store) (datagram : List ℕ)
    (result : Result Taken PushRefusal) (next : Store) : Type 0 where
  pub opening : Result PushRead PushRefusal
  pub is_opening : IsOpening v verifier store datagram opening
  pub after : AfterOpening opening store result next

-- what is then in the room in which it was opened: the body of the key download of a push that was opened, also where that gives no path; else no octets
abbrev pub room_after : Result PushRead PushRefusal → List ℕ
room_after (Ok read) = read.keys
room_after (Err why) = []

-- Datagrams are given one after the other: each is the next due one, or it is refused. At the end none is due any more.
abbrev pub AreDueAcceptances : {V : Type 0} → VerifierGhosts V → V → Store → List (List ℕ) → List (List ℕ) → Store → Type 0
AreDueAcceptances v verifier store due [] after = (due ≡ []) × (after ≡ store)
AreDueAcceptances v verifier store due (datagram ∷ datagrams) after =
    (result : Result Taken PushRefusal) × (next : Store) × IsAcceptance v verifier store datagram result next
    × ((IsErr result × AreDueAcceptances v verifier next due datagrams after)
    ⊎ ((later : List (List ℕ)) × (due ≡ datagram ∷ later) × AreDueAcceptances v verifier next later datagrams after))
