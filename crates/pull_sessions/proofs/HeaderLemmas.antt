-- The header of a message that was read: its exchange, and its message id.
use Rattle.std.proofs.Common.{◌≡◌, ℕ, ◌+◌, Bool, true, false, List, [], ◌∷◌, ◌++◌, Option, None, Some, Result, Ok, Err, length, take, drop}
use Rattle.std.proofs.Common.{refl, sym, ap, ◌∙◌, subst, inl, inr, append_assoc}
use Rattle.std.specs.Prelude.{if◌then◌else◌}
use Rattle.std.specs.Str.{bytes_eq}
use Rattle.std.proofs.lemmas.List.{drop_at, length-append, take_at}
use Rattle.byteorder.specs.Endian.{big_bytes, big_from}
use Rattle.gd_wire.specs.Headers.{HeaderFits, header, header_text, suits_exchange}
use Rattle.gd_wire.specs.Readings.{Cursor, ◌>>◌, from_start, give}
use Rattle.gd_wire.proofs.HeaderLemmas.{header_found}
use Rattle.gd_wire.proofs.ReadingLemmas.{and_then_ok, check_ok, same_value, value_ok}
use Rattle.gd_wire.specs.declared.headers.Header.{Header}
use Rattle.group_terms.specs.Octets.{AreOctets}
use Rattle.group_terms.specs.declared.phases.Phase1.{Phase1}
use Rattle.group_terms.specs.declared.wires.WireFault.{WireFault}
use Rattle.group_terms.specs.declared.wires.WireWhat.TheVariants.{Value}
use Rattle.pull_msgs.specs.Fits.{MessageFits}
use Rattle.pull_msgs.specs.Pulls.{Awaited, IsAnswer, IsOfHead, answer_for, due_message, first_awaited, head, head_of, third_awaited}
use Rattle.pull_msgs.specs.Hashes.{hash_of}
use Rattle.pull_msgs.specs.Readings.{PullRead}
use Rattle.pull_msgs.specs.Texts.{pull_exchange}
use Rattle.pull_msgs.specs.declared.faults.PullFault.{PullFault}
use Rattle.pull_msgs.specs.declared.faults.PullFault.TheVariants.{BadHash}
use Rattle.pull_msgs.specs.declared.messages.First.{First}
use Rattle.pull_msgs.specs.declared.messages.Third.{Third}
use Rattle.pull_sessions.proofs.IndexLemmas.{bytes_eq-is}

-- ---- the header of a message of a pull

-- the message id is the one that is known, where one is
abbrev HasId : Option (List ℕ) → List ℕ → Type 0
HasId None message = Unit {0}
HasId (Some known) message = message ≡ known

given_is : (read found : Header) (at now : Cursor) → give read at ≡ Ok (found, now) → read ≡ found
given_is read found at now is = ap (λ (given : Header × Cursor). given.0) (same_value (read, at) (found, now) is)

id_of : (known : Option (List ℕ)) (read : Header) (at : Cursor) (found : Header) (now : Cursor)
    → (due_message known read.message >> give read) at ≡ Ok (found, now) → (read ≡ found) × HasId known read.message
id_of None read at found now is = (given_is read found at now is, tt)
id_of (Some known) read at found now is =
    let test = check_ok (bytes_eq read.message known) Value 20 at (λ done. give read) (found, now) is in
    (given_is read found at now test.1, bytes_eq-is read.message known test.0)

record HasHeader (datagram : List ℕ) (known : Option (List ℕ)) (found : Header) : Type 0 where
  now : Cursor
  reads : header pull_exchange (from_start 0 datagram) ≡ Ok (found, now)
  id : HasId known found.message

head_read : (phase : Phase1) (known : Option (List ℕ)) (datagram : List ℕ) (found : Header) → head_of phase known datagram ≡ Ok found
    → HasHeader datagram known found
unfolding head
head_read phase known datagram found is =
    let whole = value_ok (head phase known (from_start 0 datagram)) found is in
    let read = and_then_ok (header pull_exchange (from_start 0 datagram)) _ found whole.0 whole.1 in
    let cookies = check_ok (bytes_eq read.0.cookies phase.cookies) Value 0 read.1 (λ done. due_message known read.0.message >> give read.0) (found, whole.0)
    read.3 in
    let same = id_of known read.0 read.1 found whole.0 cookies.1 in
    record {
      now = read.1;
      reads = read.2 ∙ (λ i. Ok (same.0 i, read.1));
      id = subst (λ (header : Header). HasId known header.message) same.0 same.1;
    }

-- ---- a message that was taken

gave : {A B : Type 0} (due : List ℕ → List ℕ) (gives : A → B) (read : Result (PullRead A) WireFault) (answer : Result B PullFault) (value : B)
    → answer ≡ Ok value → answer ≡ answer_for due gives read → (said : A) × (value ≡ gives said)
gave due gives (Err fault) answer value is for = absurd (cc)
gave {A = A} {B = B} due gives (Ok read) answer value is for = tested (bytes_eq read.hash (due read.covered)) for
  where
    tested : (same : Bool) → answer ≡ (if same then Ok (gives read.said) else Err (BadHash read.hash (due read.covered))) → (said : A) × (value ≡ gives said)
    tested true for = (read.said, (cc))
    tested false for = absurd (cc)

record Took (A B : Type 0) (phase : Phase1) (awaited : Awaited A B) (datagram : List ℕ) (value : B) : Type 0 where
  found : Header
  said : A
  has : head_of phase awaited.known datagram ≡ Ok found
  gives : value ≡ awaited.gives found datagram said

took : (A B : Type 0) (phase : Phase1) (awaited : Awaited A B) (datagram : List ℕ) (value : B) → IsAnswer phase awaited datagram (Ok value)
    → Took A B phase awaited datagram value
took A B phase awaited datagram value answer = by_head (head_of phase awaited.known datagram) refl answer
  where
    by_head : (read : Result Header WireFault) → head_of phase awaited.known datagram ≡ read → IsOfHead A B phase awaited datagram (Ok value) read
        → Took A B phase awaited datagram value
    by_head (Err fault) is of = absurd (cc)
    by_head (Ok found) is (inl none) = absurd (cc)
    by_head (Ok found) is (inr text) =
        let said = gave (hash_of phase found.message awaited.nonces) (awaited.gives found datagram) _ (Ok value) value refl text.is in
        record { found = found; said = said.0; has = is; gives = said.1 }

-- ---- what its message id is

-- the laws of headers
pub record Laws : Type 0 where
  pub text : (exchange : ℕ) (datagram : List ℕ) (found : Header) (now : Cursor) → AreOctets datagram →
      header exchange (from_start 0 datagram) ≡ Ok (found, now) → datagram ≡ header_text found ++ now.left
  pub fits : (exchange : ℕ) (datagram : List ℕ) (found : Header) (now : Cursor) → AreOctets datagram →
      header exchange (from_start 0 datagram) ≡ Ok (found, now) → HeaderFits found now.left

-- the place of the message id
id_at : (cookies message rest : List ℕ) (next exchange : ℕ) → length cookies ≡ 16 → length message ≡ 4
    → take 4 (drop 20 ((cookies ++ next ∷ 16 ∷ exchange ∷ 1 ∷ []) ++ (message ++ rest))) ≡ message
id_at cookies message rest next exchange sixteen four =
    let front = cookies ++ next ∷ 16 ∷ exchange ∷ 1 ∷ [] in
    let long : length front ≡ 20 = length-append cookies (next ∷ 16 ∷ exchange ∷ 1 ∷ []) ∙ ap (λ n. n + 4) sixteen in
    ap (take 4) (drop_at front (message ++ rest) 20 long) ∙ take_at message rest 4 four

id_in : (found : Header) (left : List ℕ) → length found.cookies ≡ 16 → length found.message ≡ 4 → take 4 (drop 20 (header_text found ++ left)) ≡ found.message
id_in found left sixteen four =
    let front = found.next ∷ 16 ∷ found.exchange ∷ 1 ∷ [] in
    let size = big_bytes 4 found.length in
    ap (λ (text : List ℕ). take 4 (drop 20 text))
    (append_assoc (found.cookies ++ (front ++ found.message)) size left
    ∙ ap (λ (text : List ℕ). text ++ (size ++ left)) (sym (append_assoc found.cookies front found.message))
    ∙ append_assoc (found.cookies ++ front) found.message (size ++ left))
    ∙ id_at found.cookies found.message (size ++ left) found.next found.exchange sixteen four

pub record HasMessage (datagram message : List ℕ) : Type 0 where
  pub fits : MessageFits message
  pub at : take 4 (drop 20 datagram) ≡ message

module _ (laws : Laws) (datagram : List ℕ) (octets : AreOctets datagram) where
  message_in : (known : Option (List ℕ)) (found : Header) → HasHeader datagram known found → HasMessage datagram found.message
  message_in known found has =
      let h = laws.fits pull_exchange datagram found has.now octets has.reads in
      let exchange = (header_found pull_exchange datagram (found, has.now) has.reads).exchange_is in
      record {
        fits = record {
          size = h.message;
          octets = h.message_octets;
          suits = subst (λ exchange. suits_exchange exchange (big_from 0 4 found.message) ≡ true) exchange h.suits;
        };
        at = ap (λ (text : List ℕ). take 4 (drop 20 text)) (laws.text pull_exchange datagram found has.now octets has.reads)
            ∙ id_in found has.now.left h.cookies h.message;
      }

  pub first_message_in : (phase : Phase1) (first : First) → IsAnswer phase (first_awaited phase) datagram (Ok first) → HasMessage datagram first.message
  first_message_in phase first answer =
      let taken = took _ _ phase (first_awaited phase) datagram first answer in
      subst (HasMessage datagram) (sym (ap (λ (first : First). first.message) taken.gives))
      (message_in None taken.found (head_read phase None datagram taken.found taken.has))

  pub third_message_in : (phase : Phase1) (message iv ni nr : List ℕ) (third : Third) → IsAnswer phase (third_awaited message iv ni nr) datagram (Ok third)
      → HasMessage datagram message
  third_message_in phase message iv ni nr third answer =
      let taken = took _ _ phase (third_awaited message iv ni nr) datagram third answer in
      let has = head_read phase (Some message) datagram taken.found taken.has in
      subst (HasMessage datagram) has.id (message_in (Some message) taken.found has)
