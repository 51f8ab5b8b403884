-- Where a refusal has its cause, it is the answer.
use Rattle.std.proofs.Common.{◌≡◌, ◌≢◌, ◌∙◌, ap, subst, ℕ, ◌<◌, ◌≤◌, true, false, List, []}
use Rattle.std.specs.Prelude.{Result, Ok}
use Rattle.std.proofs.lemmas.Bool.{MatchBool-at_false}
use Rattle.gd_edges.specs.declared.verifiers.Verifier.{Ghosts as VerifierGhosts}
use Rattle.gd_wire.specs.declared.headers.Header.{Header}
use Rattle.group_terms.specs.declared.pushes.PushRefusal.TheVariants.{OtherSpi, Malformed, BadSignature, NoPath, Stale}
use Rattle.group_terms.specs.declared.wires.WireFault.{WireFault}
use Rattle.group_terms.specs.declared.paths.PathKey.{PathKey}
use Rattle.kd_wire.specs.Spans.{span_arrays}
use Rattle.kd_wire.specs.declared.spans.UpdateSpan.{UpdateSpan}
use Rattle.push_msg.specs.declared.bodies.OpenBody.TheVariants.{Membership}
use Rattle.push_msg.specs.Pushes.{header_of}
use Rattle.push_msg.specs.Readings.{PushRead}
use Rattle.member_store.specs.declared.answers.Taken.{Taken}
use Rattle.group_terms.specs.declared.pushes.PushRefusal.{PushRefusal}
use Rattle.member_store.specs.Steps.{AfterOpening, HasFirstFault, IsAcceptance, IsRefused, ReadsPush, TakesBody, TakesRoot, TakesTree, is_signed}
use Rattle.member_store.specs.Stores.{Store, has_position, leaf_of}
use Rattle.member_store.specs.Takings.{Takes, keys_given}
use Rattle.member_store.proofs.AnswerLemmas.{same_after}
use Rattle.member_store.proofs.OneLemmas.{OpensOnce, if_fault, if_other, if_stale, if_taken, if_unsigned}

module _ (once : OpensOnce) {V : Type 0} (v : VerifierGhosts V) (verifier : V) (store next : Store) (datagram : List ℕ)
    (result : Result Taken PushRefusal) (step : IsAcceptance v verifier store datagram result next) where
  after : (opening : Result PushRead PushRefusal) → step.opening ≡ opening → AfterOpening opening store result next
  after opening is = subst (λ found. AfterOpening found store result next) is step.after

  pub malformed : (fault : WireFault) → HasFirstFault v verifier store datagram fault → IsRefused store (Malformed fault.at) result next
  malformed fault has = after _ (if_fault once v verifier store datagram fault has step.opening step.is_opening)

  pub other_spi : (head : Header) → header_of datagram ≡ Ok head → head.cookies ≢ store.spi
      → IsRefused store (OtherSpi head.cookies store.spi) result next
  other_spi head is other = after _ (if_other once v verifier store datagram head is other step.opening step.is_opening)

  module _ (read : PushRead) (reads : ReadsPush v verifier store datagram read) where
    pub bad_signature : is_signed v verifier store datagram read ≡ false → IsRefused store BadSignature result next
    bad_signature unsigned = after _ (if_unsigned once v verifier store datagram read reads unsigned step.opening step.is_opening)

    pub stale : is_signed v verifier store datagram read ≡ true → read.number ≤ store.sequence
        → IsRefused store (Stale store.sequence read.number) result next
    stale signed low = after _ (if_stale once v verifier store datagram read reads signed low step.opening step.is_opening)

    pub taken : is_signed v verifier store datagram read ≡ true → store.sequence < read.number → TakesBody read.body store read result next
    taken signed greater = after _ (if_taken once v verifier store datagram read reads signed greater step.opening step.is_opening)

    pub no_path : is_signed v verifier store datagram read ≡ true → store.sequence < read.number → (made : ℕ) (span : UpdateSpan) (all : List PathKey)
        → read.body ≡ Membership made span → Takes store.path (keys_given (span_arrays span read.keys)) all → has_position all 1 ≡ false
        → IsRefused store (NoPath (leaf_of store.path)) result next
    no_path signed greater made span all body takes none =
        let tree : TakesTree store read (span_arrays span read.keys) result next =
        subst (λ body. TakesBody body store read result next) body (taken signed greater) in
        let same : tree.taken ≡ all = same_after once store.path (keys_given (span_arrays span read.keys)) [] tree.taken all tree.takes_all takes in
        MatchBool-at_false (TakesRoot store read.number tree.taken result next) (IsRefused store (NoPath (leaf_of store.path)) result next)
        (ap (λ keys. has_position keys 1) same ∙ none) tree.after
