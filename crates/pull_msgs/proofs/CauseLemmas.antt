-- Each answer has its cause, since a datagram is opened in one way.
-- Causes are proved once, for all readers, from the exact relation `IsAnswer` to `HasCauses`.
use Rattle.std.proofs.Common.{◌≡◌, ◌∙◌, ℕ, List, drop, Bool, true, false, Result, Ok, Err, inl, inr, subst, ap, refl}
use Rattle.std.proofs.lemmas.Slice.Eq.{bytes_eq-Decides}
use Rattle.std.specs.Prelude.{if◌then◌else◌}
use Rattle.std.specs.Str.{bytes_eq}
use Rattle.gd_cipher.specs.Chains.{IsOpened}
use Rattle.gd_wire.specs.declared.headers.Header.{Header}
use Rattle.group_terms.specs.declared.phases.Phase1.{Phase1}
use Rattle.group_terms.specs.declared.wires.WireFault.{WireFault}
use Rattle.pull_msgs.specs.declared.faults.PullFault.{PullFault}
use Rattle.pull_msgs.specs.declared.faults.PullFault.TheVariants.{BadHash}
use Rattle.pull_msgs.specs.Hashes.{hash_of}
use Rattle.pull_msgs.specs.Pulls.{Awaited, IsAnswer, IsOfHead, HasCauses, Opens, OrNoMemory, answer_for, hash_due, payloads_of}
use Rattle.pull_msgs.specs.Readings.{PullRead}

module _ (once : (key iv sealed one other : List ℕ) → IsOpened key iv sealed one → IsOpened key iv sealed other → one ≡ other)
    (A B : Type 0) (phase : Phase1) (awaited : Awaited A B) (datagram : List ℕ) (answer : Result B PullFault)
    (is : IsAnswer phase awaited datagram answer) where
  -- the answer for the text that was opened is the one for every text as which the datagram is opened
  for_text : (head : Header) (text : List ℕ) (read : Result (PullRead A) WireFault) → Opens A B phase awaited datagram head text
      → payloads_of awaited head text ≡ read
      → OrNoMemory answer (answer_for (hash_of phase head.message awaited.nonces) (awaited.gives head datagram) read)
  for_text head text read opens reads =
      elim (subst (IsOfHead A B phase awaited datagram answer) opens.has_header is) [
        | inl none ↦ inl none
        | inr found ↦ inr (
            found.is
            ∙ ap (λ text. answer_for (hash_of phase head.message awaited.nonces) (awaited.gives head datagram) (payloads_of awaited head text))
            (once phase.key (awaited.iv head.message) (drop 28 datagram) found.text text found.opened opens.opened)
            ∙ ap (answer_for (hash_of phase head.message awaited.nonces) (awaited.gives head datagram)) reads
            )
      ]

  other_hash : (read : PullRead A) (head : Header) (same : Bool) → bytes_eq read.hash (hash_due phase awaited head read) ≡ same
      → (read.hash ≡ hash_due phase awaited head read → ⊥)
      → (if same then Ok (awaited.gives head datagram read.said) else Err (BadHash read.hash (hash_due phase awaited head read)))
      ≡ Err (BadHash read.hash (hash_due phase awaited head read))
  other_hash read head true is differs = absurd (differs ((bytes_eq-Decides read.hash (hash_due phase awaited head read)).0 is))
  other_hash read head false is differs = refl

  pub has_causes : HasCauses A B phase awaited datagram answer
  has_causes = record {
    header = λ fault has. subst (IsOfHead A B phase awaited datagram answer) has is;
    malformed = λ head text fault opens reads. for_text head text (Err fault) opens reads;
    bad_hash = λ head text read opens reads differs.
        subst (OrNoMemory answer) (other_hash read head (bytes_eq read.hash (hash_due phase awaited head read)) refl differs)
        (for_text head text (Ok read) opens reads);
    ok = λ head text read opens reads same.
        subst (OrNoMemory answer)
        (ap (λ (test : Bool). if test then Ok (awaited.gives head datagram read.said) else Err (BadHash read.hash (hash_due phase awaited head read)))
        ((bytes_eq-Decides read.hash (hash_due phase awaited head read)).1 same))
        (for_text head text (Ok read) opens reads);
  }
