-- What each way in which a reader ends answers.
-- What differs between the four readers is a record (`Awaited`), so a few lemmas serve the ends of all.
use Rattle.std.proofs.Common.{◌≡◌, ◌∙◌, ℕ, List, drop, Bool, true, false, Result, Ok, Err, inl, inr, sym, subst, ap}
use Rattle.std.specs.Prelude.{if◌then◌else◌}
use Rattle.std.specs.Result.{IsErrAnd}
use Rattle.std.specs.Str.{bytes_eq}
use Rattle.gd_cipher.specs.Chains.{IsOpened}
use Rattle.gd_wire.specs.Readings.{from_start, value_of}
use Rattle.gd_wire.specs.declared.headers.Header.{Header}
use Rattle.group_terms.specs.declared.phases.Phase1.{Phase1}
use Rattle.group_terms.specs.declared.wires.WireFault.{WireFault}
use Rattle.pull_msgs.specs.declared.faults.PullFault.{PullFault}
use Rattle.pull_msgs.specs.declared.faults.PullFault.TheVariants.{Malformed, BadHash, NoMemory}
use Rattle.pull_msgs.specs.Hashes.{hash_of}
use Rattle.pull_msgs.specs.Pulls.{Awaited, IsAnswer, IsOfHead, answer_for, head_of}
use Rattle.pull_msgs.specs.Readings.{PullRead}

-- an error that is told by another name
pub only_error : {A : Type 0} (answer : Result A PullFault) (fault : PullFault) → IsErrAnd answer (λ error. error ≡ fault) → answer ≡ Err fault
only_error (Ok value) fault is = absurd is
only_error (Err error) fault is = ap Err is

module _ (A B : Type 0) (phase : Phase1) (awaited : Awaited A B) (datagram : List ℕ) where
  pub header_fault : (fault : WireFault) (answer : Result B PullFault) → Err fault ≡ head_of phase awaited.known datagram
      → IsErrAnd answer (λ error. error ≡ Malformed fault) → IsAnswer phase awaited datagram answer
  header_fault fault answer head is =
      subst (IsOfHead A B phase awaited datagram answer) head (only_error answer (Malformed fault) is)

  pub no_memory : (head : Header) (answer : Result B PullFault) → Ok head ≡ head_of phase awaited.known datagram
      → IsErrAnd answer (λ error. error ≡ NoMemory) → IsAnswer phase awaited datagram answer
  no_memory head answer has is = subst (IsOfHead A B phase awaited datagram answer) has (inl (only_error answer NoMemory is))

  -- the octets after the header were opened as a text
  module _ (head : Header) (text : List ℕ) (has : Ok head ≡ head_of phase awaited.known datagram)
      (opened : IsOpened phase.key (awaited.iv head.message) (drop 28 datagram) text) where
    of_text : (read : Result (PullRead A) WireFault) (answer : Result B PullFault)
        → value_of (awaited.payloads text head.next (from_start 28 text)) ≡ read
        → answer ≡ answer_for (hash_of phase head.message awaited.nonces) (awaited.gives head datagram) read
        → IsAnswer phase awaited datagram answer
    of_text read answer reads is =
        subst (IsOfHead A B phase awaited datagram answer) has (inr (record {
          text = text;
          opened = opened;
          is = is ∙ ap (answer_for (hash_of phase head.message awaited.nonces) (awaited.gives head datagram)) (sym reads);
        }))

    pub payload_fault : (fault : WireFault) (answer : Result B PullFault)
        → value_of (awaited.payloads text head.next (from_start 28 text)) ≡ Err fault
        → IsErrAnd answer (λ error. error ≡ Malformed fault) → IsAnswer phase awaited datagram answer
    payload_fault fault answer reads is = of_text (Err fault) answer reads (only_error answer (Malformed fault) is)

    -- the HASH of what was read was tested
    module _ (read : PullRead A) (nonces expected : List ℕ) (tested : Result (Unit {0}) PullFault)
        (reads : value_of (awaited.payloads text head.next (from_start 28 text)) ≡ Ok read) (after : nonces ≡ awaited.nonces)
        (made : expected ≡ hash_of phase head.message nonces read.covered)
        (test : tested ≡ (if bytes_eq read.hash expected then Ok (tt {0}) else Err (BadHash read.hash expected))) where
      abbrev due : List ℕ
      due = hash_of phase head.message awaited.nonces read.covered

      is_due : tested ≡ (if bytes_eq read.hash due then Ok (tt {0}) else Err (BadHash read.hash due))
      is_due =
          test
          ∙ ap (λ (expected : List ℕ). if bytes_eq read.hash expected then Ok (tt {0}) else Err (BadHash read.hash expected))
          (made ∙ ap (λ before. hash_of phase head.message before read.covered) after)

      pub other_hash : (fault : PullFault) (answer : Result B PullFault) → tested ≡ Err fault
          → IsErrAnd answer (λ error. error ≡ fault) → IsAnswer phase awaited datagram answer
      other_hash fault answer refused is = of_text (Ok read) answer reads (differs (bytes_eq read.hash due) (sym refused ∙ is_due))
        where
          differs : (same : Bool) → Err fault ≡ (if same then Ok (tt {0}) else Err (BadHash read.hash due))
              → answer ≡ (if same then Ok (awaited.gives head datagram read.said) else Err (BadHash read.hash due))
          differs true e = absurd (cc)
          differs false e = only_error answer fault is ∙ (λ i. Err (refusal (e i)))
            where
              refusal : Result (Unit {0}) PullFault → PullFault
              refusal (Ok value) = fault
              refusal (Err other) = other

      pub due_hash : (value : B) → tested ≡ Ok (tt {0}) → value ≡ awaited.gives head datagram read.said → IsAnswer phase awaited datagram (Ok value)
      due_hash value passed is = of_text (Ok read) (Ok value) reads (same (bytes_eq read.hash due) (sym passed ∙ is_due))
        where
          same : (equal : Bool) → Ok (tt {0}) ≡ (if equal then Ok (tt {0}) else Err (BadHash read.hash due))
              → Ok value ≡ (if equal then Ok (awaited.gives head datagram read.said) else Err (BadHash read.hash due))
          same true e = ap Ok is
          same false e = absurd (cc)
