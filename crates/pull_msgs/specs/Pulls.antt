-- What reading a message of a pull answers.
use Rattle.std.specs.Prelude.{◌≡◌, ◌⊎◌, ℕ, List, [], ◌++◌, drop, Option, None, Some, Result, Ok, Err, if◌then◌else◌}
use Rattle.std.specs.Str.{bytes_eq}
use Rattle.gd_cipher.specs.Chains.{IsOpened}
use Rattle.gd_wire.specs.Headers.{header}
use Rattle.gd_wire.specs.Readings.{Reading, ◌>>=◌, ◌>>◌, give, check, from_start, value_of}
use Rattle.gd_wire.specs.declared.headers.Header.{Header}
use Rattle.group_terms.specs.declared.paths.Keyed.{Keyed}
use Rattle.group_terms.specs.declared.phases.Phase1.{Phase1}
use Rattle.group_terms.specs.declared.wires.WireFault.{WireFault}
use Rattle.group_terms.specs.declared.wires.WireWhat.TheVariants.{Value}
use Rattle.pull_msgs.specs.declared.faults.PullFault.{PullFault}
use Rattle.pull_msgs.specs.declared.faults.PullFault.TheVariants.{Malformed, BadHash, NoMemory}
use Rattle.pull_msgs.specs.declared.messages.First.{First}
use Rattle.pull_msgs.specs.declared.messages.Second.{Second}
use Rattle.pull_msgs.specs.declared.messages.Third.{Third}
use Rattle.pull_msgs.specs.Hashes.{hash_of}
use Rattle.pull_msgs.specs.Readings.{PullRead, FirstSaid, SecondSaid, FourthSaid, root_made, first, second, third, fourth}
use Rattle.pull_msgs.specs.Texts.{pull_exchange, first_iv, next_iv}

-- ---- the header

-- the message id is the one that is known, where one is
abbrev pub due_message : Option (List ℕ) → List ℕ → Reading (Unit {0})
due_message None message = give tt
due_message (Some known) message = check (bytes_eq message known) Value 20

-- the header of a pull, with the cookies of the phase 1 SA and the message id that is known
unfoldable pub head : Phase1 → Option (List ℕ) → Reading Header
head phase known = do
  read ← header pull_exchange
  check (bytes_eq read.cookies phase.cookies) Value 0
  due_message known read.message
  give read

-- the header of a datagram, read as that of a pull under this phase 1 SA; or its first fault
abbrev pub head_of : Phase1 → Option (List ℕ) → List ℕ → Result Header WireFault
head_of phase known datagram = value_of (head phase known (from_start 0 datagram))

-- ---- the message that is awaited

-- What is known of it, and how it is read.
pub record Awaited (A B : Type 0) : Type 0 where
  -- the message id, where that is known
  pub known : Option (List ℕ)
  -- the IV, by the message id
  pub iv : List ℕ → List ℕ
  -- the bodies of the nonces of earlier messages, one after the other
  pub nonces : List ℕ
  -- how its payloads are read of a text; the header has named this kind for the first of them
  pub payloads : List ℕ → ℕ → Reading (PullRead A)
  -- what it gives, by its header and the whole datagram
  pub gives : Header → List ℕ → A → B

-- the member's first
abbrev pub first_awaited : Phase1 → Awaited FirstSaid First
first_awaited phase = record {
  known = None;
  iv = first_iv phase;
  nonces = [];
  payloads = first;
  gives = λ head datagram said. record {
    message = head.message;
    ni = said.ni;
    id_type = said.id_type;
    id = said.id;
    next_iv = next_iv datagram;
  };
}

-- the server's answer to it
abbrev pub second_awaited : List ℕ → List ℕ → List ℕ → Awaited SecondSaid Second
second_awaited message iv ni = record {
  known = Some message;
  iv = λ (id : List ℕ). iv;
  nonces = ni;
  payloads = second;
  gives = λ head datagram said. record { nr = said.nr; policy = said.policy; next_iv = next_iv datagram };
}

-- the member's agreement
abbrev pub third_awaited : List ℕ → List ℕ → List ℕ → List ℕ → Awaited (Unit {0}) Third
third_awaited message iv ni nr = record {
  known = Some message;
  iv = λ (id : List ℕ). iv;
  nonces = ni ++ nr;
  payloads = third;
  gives = λ head datagram said. record { next_iv = next_iv datagram };
}

-- the server's keys, for the Rekey SA with a SPI; their epoch is that in which the root's key was made
abbrev pub fourth_awaited : List ℕ → List ℕ → List ℕ → List ℕ → List ℕ → Awaited FourthSaid Keyed
fourth_awaited message iv ni nr spi = record {
  known = Some message;
  iv = λ (id : List ℕ). iv;
  nonces = ni ++ nr;
  payloads = fourth spi;
  gives = λ head datagram said. record {
    epoch = root_made said.path;
    sequence = said.sequence;
    spi = said.spi;
    path = said.path;
    traffic = said.traffic;
  };
}

-- ---- the answer

-- For payloads that were read, where this HASH of the covered ones is due: the first fault; else the HASH that is carried and the one
-- that is due, where they differ; else what the message gives.
abbrev pub answer_for : {A B : Type 0} → (List ℕ → List ℕ) → (A → B) → Result (PullRead A) WireFault → Result B PullFault
answer_for due gives (Err fault) = Err (Malformed fault)
answer_for due gives (Ok read) =
    if bytes_eq read.hash (due read.covered) then Ok (gives read.said)
    else Err (BadHash read.hash (due read.covered))

-- the answer for a datagram with a header, whose octets after that are opened under the key of the phase 1 SA as a text
pub record IsOfText (A B : Type 0) (phase : Phase1) (awaited : Awaited A B) (datagram : List ℕ) (head : Header) (answer : Result B PullFault)
    : Type 0 where
  pub text : List ℕ
  pub opened : IsOpened phase.key (awaited.iv head.message) (drop 28 datagram) text
  pub is : answer ≡ answer_for (hash_of phase head.message awaited.nonces) (awaited.gives head datagram)
      (value_of (awaited.payloads text head.next (from_start 28 text)))

-- for a datagram whose header has a fault, that fault; for others the answer for the text, or out of memory for it
abbrev pub IsOfHead : (A B : Type 0) → Phase1 → Awaited A B → List ℕ → Result B PullFault → Result Header WireFault → Type 0
IsOfHead A B phase awaited datagram answer (Err fault) = answer ≡ Err (Malformed fault)
IsOfHead A B phase awaited datagram answer (Ok head) = (answer ≡ Err NoMemory) ⊎ IsOfText A B phase awaited datagram head answer

-- for a datagram, where a message is awaited
abbrev pub IsAnswer : {A B : Type 0} → Phase1 → Awaited A B → List ℕ → Result B PullFault → Type 0
IsAnswer {A} {B} phase awaited datagram answer =
    IsOfHead A B phase awaited datagram answer (head_of phase awaited.known datagram)

-- ---- its causes

-- an answer is this one, or out of memory for it
abbrev pub OrNoMemory : {B : Type 0} → Result B PullFault → Result B PullFault → Type 0
OrNoMemory answer due = (answer ≡ Err NoMemory) ⊎ (answer ≡ due)

-- what was read of a text, or its first fault
abbrev pub payloads_of : {A B : Type 0} → Awaited A B → Header → List ℕ → Result (PullRead A) WireFault
payloads_of awaited head text = value_of (awaited.payloads text head.next (from_start 28 text))

-- the HASH that is due for what was read
abbrev pub hash_due : {A B : Type 0} → Phase1 → Awaited A B → Header → PullRead A → List ℕ
hash_due phase awaited head read = hash_of phase head.message awaited.nonces read.covered

-- a datagram with a header, and the text as which its other octets are opened
pub record Opens (A B : Type 0) (phase : Phase1) (awaited : Awaited A B) (datagram : List ℕ) (head : Header) (text : List ℕ) : Type 0 where
  pub has_header : head_of phase awaited.known datagram ≡ Ok head
  pub opened : IsOpened phase.key (awaited.iv head.message) (drop 28 datagram) text

-- each answer has its cause
pub record HasCauses (A B : Type 0) (phase : Phase1) (awaited : Awaited A B) (datagram : List ℕ) (answer : Result B PullFault) : Type 0 where
  pub header : (fault : WireFault) → head_of phase awaited.known datagram ≡ Err fault → answer ≡ Err (Malformed fault)
  pub malformed : (head : Header) (text : List ℕ) (fault : WireFault) → Opens A B phase awaited datagram head text →
      payloads_of awaited head text ≡ Err fault → OrNoMemory answer (Err (Malformed fault))
  pub bad_hash : (head : Header) (text : List ℕ) (read : PullRead A) → Opens A B phase awaited datagram head text →
      payloads_of awaited head text ≡ Ok read → (read.hash ≡ hash_due phase awaited head read → ⊥) →
      OrNoMemory answer (Err (BadHash read.hash (hash_due phase awaited head read)))
  pub ok : (head : Header) (text : List ℕ) (read : PullRead A) → Opens A B phase awaited datagram head text →
      payloads_of awaited head text ≡ Ok read → read.hash ≡ hash_due phase awaited head read →
      OrNoMemory answer (Ok (awaited.gives head datagram read.said))
