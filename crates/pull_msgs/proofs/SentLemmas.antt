-- A message of one pull, opened in another pull under the same phase 1 SA: but for the first block it is the text that was written.
use Rattle.std.proofs.Common.{◌≡◌, ◌<◌, ◌+◌, ◌-◌, ◌%◌, ◌∙◌, ◌++◌, [], ◌∷◌, ℕ, Bool, true, false, List, length, drop, replicate, Result, Ok, Err}
use Rattle.std.proofs.Common.{refl, sym, ap, subst, inl, inr, arith}
use Rattle.std.proofs.lemmas.List.{drop-drop, drop_at}
use Rattle.std.specs.Prelude.{if◌then◌else◌}
use Rattle.gd_cipher.specs.Chains.{IsOpened}
use Rattle.gd_cipher.proofs.SealLemmas.{opened-but_first}
use Rattle.gd_wire.specs.declared.headers.Header.{Header}
use Rattle.gd_wire.specs.Chains.{payload_text}
use Rattle.gd_wire.specs.Readings.{Reading, from_start, value_of}
use Rattle.group_terms.specs.Octets.{AreOctets, IsOctet}
use Rattle.group_terms.specs.declared.phases.Phase1.{Phase1}
use Rattle.group_terms.specs.declared.wires.WireFault.{WireFault}
use Rattle.pull_msgs.specs.declared.faults.PullFault.{PullFault}
use Rattle.pull_msgs.specs.Fits.{PhaseFits}
use Rattle.pull_msgs.specs.Hashes.{hash_of}
use Rattle.pull_msgs.specs.Pulls.{Awaited, IsAnswer, IsOfHead, IsOfText, answer_for, head_of}
use Rattle.pull_msgs.specs.Readings.{PullRead}
use Rattle.pull_msgs.specs.Texts.{IsPullText, Message, message_hash, payload_of, plain_text}
use Rattle.pull_msgs.proofs.FrontLemmas.{Front}
use Rattle.pull_msgs.proofs.HashLemmas.{length-hash_of}
use Rattle.pull_msgs.proofs.WrittenLemmas.{plain_octets, sealed_is, two_flat, two_octets}

-- ---- a message that was taken

-- the text that was opened, and what was read of it
pub record Taken (A B : Type 0) (phase : Phase1) (awaited : Awaited A B) (datagram : List ℕ) (taken : B) : Type 0 where
  pub head : Header
  pub has : head_of phase awaited.known datagram ≡ Ok head
  pub text : List ℕ
  pub opened : IsOpened phase.key (awaited.iv head.message) (drop 28 datagram) text
  pub read : PullRead A
  pub reads : value_of (awaited.payloads text head.next (from_start 28 text)) ≡ Ok read
  pub gives : taken ≡ awaited.gives head datagram read.said

module _ (A B : Type 0) (phase : Phase1) (awaited : Awaited A B) (datagram : List ℕ) (taken : B) where
  with_hash : (same : Bool) (value : B) (fault : PullFault)
      → (let answer : Result B PullFault = Ok taken in answer ≡ (if same then Ok value else Err fault)) → taken ≡ value
  with_hash true value fault is = cc
  with_hash false value fault is = absurd (cc)

  of_text : (head : Header) → head_of phase awaited.known datagram ≡ Ok head → (found : IsOfText A B phase awaited datagram head (Ok taken))
      (read : Result (PullRead A) WireFault) → value_of (awaited.payloads found.text head.next (from_start 28 found.text)) ≡ read → Taken A B phase awaited datagram taken
  of_text head has found (Ok read) reads = record {
    head = head;
    has = has;
    text = found.text;
    opened = found.opened;
    read = read;
    reads = reads;
    gives = with_hash _ _ _ (found.is ∙ ap (answer_for (hash_of phase head.message awaited.nonces) (awaited.gives head datagram)) reads);
  }
  of_text head has found (Err fault) reads =
      let none = found.is ∙ ap (answer_for (hash_of phase head.message awaited.nonces) (awaited.gives head datagram)) reads in
      absurd (cc)

  of_head : (head : Result Header WireFault) → head_of phase awaited.known datagram ≡ head → IsOfHead A B phase awaited datagram (Ok taken) head
      → Taken A B phase awaited datagram taken
  of_head (Ok head) has answered =
      elim answered [
        | inl none ↦ absurd (cc)
        | inr found ↦ of_text head has found (value_of (awaited.payloads found.text head.next (from_start 28 found.text))) refl
      ]
  of_head (Err fault) has answered = absurd (cc)

  pub what_was_taken : IsAnswer phase awaited datagram (Ok taken) → Taken A B phase awaited datagram taken
  what_was_taken answered = of_head (head_of phase awaited.known datagram) refl answered

-- ---- a message with two payloads after the HASH

-- Some payloads as which a reading takes a text: a HASH and two more, with fewer than 16 zeros after them.
pub record IsReadAs (A : Type 0) (payloads : List ℕ → ℕ → Reading (PullRead A)) (kind next : ℕ) (digest one two : List ℕ) (read : PullRead A) : Type 0 where
  pub zeros : ℕ
  pub few : zeros < 16
  pub reads : (let text : List ℕ = payload_text kind digest ++ (payload_text next one ++ (payload_text 0 two ++ replicate zeros 0)) in
      value_of (payloads text 8 (from_start 28 text)) ≡ Ok read)

abbrev two_said : List ℕ → List ℕ → ℕ → ℕ → List ℕ → List ℕ → Message
two_said message nonces kind next one two =
    record { message = message; nonces = nonces; payloads = payload_of kind one ∷ payload_of next two ∷ [] }

module _ (phase : Phase1) (iv message nonces : List ℕ) (kind next : ℕ) (one two datagram : List ℕ) (phase_fits : PhaseFits phase)
    (message_long : length message ≡ 4) (iv_long : length iv ≡ 16) (kind_small : IsOctet kind) (next_small : IsOctet next) (one_octets : AreOctets one)
    (second_octets : AreOctets two) (is : IsPullText phase iv (two_said message nonces kind next one two) datagram) where
  abbrev said : Message
  said = two_said message nonces kind next one two

  abbrev digest : List ℕ
  digest = message_hash phase said

  abbrev zeros : ℕ
  zeros = (16 - length (payload_text kind digest ++ (payload_text next one ++ (payload_text 0 two ++ []))) % 16) % 16

  abbrev after_hash : List ℕ
  after_hash = payload_text next one ++ (payload_text 0 two ++ replicate zeros 0)

  long : length digest ≡ 32
  long = length-hash_of phase message nonces (payload_text next one ++ (payload_text 0 two ++ []))

  -- after the HASH the opened text is the one that was written
  rest_is : (reader text : List ℕ) → length reader ≡ 16 → IsOpened phase.key reader (drop 28 datagram) text → drop 36 text ≡ after_hash
  rest_is reader text reader_long opened =
      let plain = plain_octets phase said kind_small (two_octets next one two next_small one_octets second_octets) in
      let sealed = subst (λ octets. IsOpened phase.key reader octets text) (sealed_is phase iv said datagram phase_fits.cookies message_long is) opened in
      let same = opened-but_first phase.key iv reader (plain_text phase said) is.sealed text (inl phase_fits.key) iv_long reader_long plain is.is_sealed
      sealed in
      sym (drop-drop 20 16 text) ∙ ap (drop 20) same ∙ drop-drop 20 16 (plain_text phase said)
      ∙ ap (drop 36) (two_flat kind next digest one two (replicate zeros 0))
      ∙ drop_at (payload_text kind digest) after_hash 36 (omega (arith, long))

  -- so it was read as some HASH and the payloads that were written
  pub read_as : (A B : Type 0) (awaited : Awaited A B) (taken : B) (found : Taken A B phase awaited datagram taken)
      → length (awaited.iv found.head.message) ≡ 16 → (front : Front found.text found.head.next)
      → IsReadAs A awaited.payloads front.kind next front.digest one two found.read
  read_as A B awaited taken found reader_long front =
      let rest = rest_is (awaited.iv found.head.message) found.text reader_long found.opened in
      let same = front.is_text ∙ ap (λ octets. payload_text front.kind front.digest ++ octets) rest in
      record {
        zeros = zeros;
        few = omega arith;
        reads = (λ i. value_of (awaited.payloads (sym same i) (sym front.named i) (from_start 28 (sym same i)))) ∙ found.reads;
      }
