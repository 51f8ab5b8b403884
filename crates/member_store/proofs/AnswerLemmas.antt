-- A datagram has one answer, and a refusal leaves the store.
use Rattle.std.proofs.Common.{◌≡◌, ◌∙◌, ap, refl, subst, sym, ℕ, Bool, true, false, List, [], ◌∷◌, ◌++◌, length, take, drop}
use Rattle.std.specs.Prelude.{Result, Ok, Err, MatchBool}
use Rattle.std.proofs.Math.Seq.{take-append_seam, drop-append_seam}
use Rattle.std.proofs.lemmas.Option.{none-some, same_Some}
use Rattle.gd_edges.specs.declared.verifiers.Verifier.{Ghosts as VerifierGhosts}
use Rattle.group_terms.specs.declared.paths.PathKey.{PathKey}
use Rattle.group_terms.specs.declared.values.NodeValue.{NodeValue}
use Rattle.group_terms.specs.declared.pushes.PushRefusal.{PushRefusal}
use Rattle.group_terms.specs.declared.pushes.PushRefusal.TheVariants.{NoPath}
use Rattle.kd_wire.specs.Spans.{span_arrays}
use Rattle.kd_wire.specs.Texts.{data_of}
use Rattle.kd_wire.specs.declared.updates.SealedKey.{SealedKey}
use Rattle.push_msg.specs.declared.bodies.OpenBody.{OpenBody}
use Rattle.push_msg.specs.declared.bodies.OpenBody.TheVariants.{Membership, Traffic}
use Rattle.push_msg.specs.Readings.{PushRead}
use Rattle.member_store.specs.declared.answers.Taken.{Taken}
use Rattle.member_store.specs.declared.answers.Taken.TheVariants as takes
use Rattle.member_store.specs.Steps.{AfterOpening, TakesRoot, IsAcceptance, IsRefused, TakesBody}
use Rattle.member_store.specs.Stores.{Store, has_position, leaf_of, root_epoch}
use Rattle.member_store.specs.Takings.{IsUnsealed, TakesAfter, TakesNext, keys_given, sealer_of}
use Rattle.member_store.proofs.OneLemmas.{OpensOnce, ok_err, one_opening}

-- ---- a refusal

module _ (store next : Store) (why : PushRefusal) where
  stays_by_root : (number : ℕ) (taken : List PathKey) (has_root : Bool)
      → MatchBool has_root (TakesRoot store number taken (Err why) next) (IsRefused store (NoPath (leaf_of store.path)) (Err why) next) → next ≡ store
  stays_by_root number taken true goes = absurd (ok_err goes.is refl)
  stays_by_root number taken false refused = refused.stays

  stays_by_body : (body : OpenBody) (read : PushRead) → TakesBody body store read (Err why) next → next ≡ store
  stays_by_body (Membership made span) read tree = stays_by_root read.number tree.taken _ tree.after
  stays_by_body (Traffic traffic) read takes = absurd (ok_err takes.is refl)

  stays_by : (opening : Result PushRead PushRefusal) → AfterOpening opening store (Err why) next → next ≡ store
  stays_by (Ok read) after = stays_by_body read.body read after
  stays_by (Err other) refused = refused.stays

pub refusal_stays : {V : Type 0} (v : VerifierGhosts V) (verifier : V) (store next : Store) (datagram : List ℕ) (why : PushRefusal)
    → IsAcceptance v verifier store datagram (Err why) next → next ≡ store
refusal_stays v verifier store next datagram why step = stays_by store next why step.opening step.after

-- ---- one answer

module _ (once : OpensOnce) where
  -- equal data, with IVs of one length
  same_iv : (one other : NodeValue) → length one.iv ≡ length other.iv → data_of one ≡ data_of other → one.iv ≡ other.iv
  same_iv one other long same =
      sym (take-append_seam one.iv one.key) ∙ (λ i. take (long i) (same i)) ∙ take-append_seam other.iv other.key

  same_key : (one other : NodeValue) → length one.iv ≡ length other.iv → data_of one ≡ data_of other → one.key ≡ other.key
  same_key one other long same =
      sym (drop-append_seam one.iv one.key) ∙ (λ i. drop (long i) (same i)) ∙ drop-append_seam other.iv other.key

  same_unsealed : (by : PathKey) (given : SealedKey) (one other : PathKey) → IsUnsealed by given one → IsUnsealed by given other → one ≡ other
  same_unsealed by given one other is again =
      let long : length one.value.iv ≡ length other.value.iv = is.iv ∙ sym again.iv in
      let octets : data_of one.value ≡ data_of other.value = once _ _ _ _ _ is.opened again.opened in
      λ i. record {
        id = (is.id ∙ sym again.id) i;
        made = (is.made ∙ sym again.made) i;
        value = record { iv = same_iv one.value other.value long octets i; key = same_key one.value other.value long octets i };
      }

  module _ (path : List PathKey) (given : List SealedKey) where
    same_next : (taken : List PathKey) (one other : PathKey) → TakesNext path taken given one → TakesNext path taken given other → one ≡ other
    same_next taken one other next again =
        let firsts : next.first ≡ again.first = same_Some _ _ (sym next.is_first ∙ again.is_first) in
        let sealers : next.by ≡ again.by = same_Some _ _ (sym next.seals ∙ ap (sealer_of path taken) firsts ∙ again.seals) in
        same_unsealed again.by again.first one other
        (subst (λ first. IsUnsealed again.by first one) firsts (subst (λ by. IsUnsealed by next.first one) sealers next.unsealed)) again.unsealed

    pub same_after : (taken one other : List PathKey) → TakesAfter path given taken one → TakesAfter path given taken other → one ≡ other
    same_after taken [] [] is again = refl
    same_after taken [] (key ∷ keys) is again = absurd (none-some _ (sym is ∙ again.0.is_first))
    same_after taken (key ∷ keys) [] is again = absurd (none-some _ (sym again ∙ is.0.is_first))
    same_after taken (key ∷ keys) (more ∷ others) is again =
        let keys_same : key ≡ more = same_next taken key more is.0 again.0 in
        let rest : TakesAfter path given (taken ++ more ∷ []) keys = subst (λ first. TakesAfter path given (taken ++ first ∷ []) keys) keys_same is.1 in
        λ i. keys_same i ∷ same_after (taken ++ more ∷ []) keys others rest again.1 i

  module _ (store one other : Store) (result answer : Result Taken PushRefusal) where
    abbrev Same : Type 0
    Same = (result ≡ answer) × (one ≡ other)

    both_refused : (why : PushRefusal) → IsRefused store why result one → IsRefused store why answer other → Same
    both_refused why is again = (is.is ∙ sym again.is, is.stays ∙ sym again.stays)

    by_root : (number : ℕ) (taken : List PathKey) (has_root : Bool)
        → MatchBool has_root (TakesRoot store number taken result one) (IsRefused store (NoPath (leaf_of store.path)) result one)
        → MatchBool has_root (TakesRoot store number taken answer other) (IsRefused store (NoPath (leaf_of store.path)) answer other) → Same
    by_root number taken true is again =
        let next : one ≡ other = is.keeps ∙ sym again.keeps in
        (is.is ∙ ap (λ (store : Store). Ok (takes.Root (root_epoch store))) next ∙ sym again.is, next)
    by_root number taken false is again = both_refused _ is again

    by_body : (body : OpenBody) (read : PushRead) → TakesBody body store read result one → TakesBody body store read answer other → Same
    by_body (Membership made span) read is again =
        let taken : is.taken ≡ again.taken = same_after store.path (keys_given (span_arrays span read.keys)) [] _ _ is.takes_all again.takes_all in
        by_root read.number again.taken (has_position again.taken 1)
        (subst (λ taken. MatchBool (has_position taken 1) (TakesRoot store read.number taken result one) (IsRefused store (NoPath (leaf_of store.path)) result one))
        taken is.after) again.after
    by_body (Traffic traffic) read is again = (is.is ∙ sym again.is, is.keeps ∙ sym again.keeps)

    by_opening : (opening : Result PushRead PushRefusal) → AfterOpening opening store result one → AfterOpening opening store answer other → Same
    by_opening (Ok read) is again = by_body read.body read is again
    by_opening (Err why) is again = both_refused why is again

    pub one_answer : {V : Type 0} (v : VerifierGhosts V) (verifier : V) (datagram : List ℕ)
        → IsAcceptance v verifier store datagram result one → IsAcceptance v verifier store datagram answer other → Same
    one_answer v verifier datagram step again =
        by_opening again.opening
        (subst (λ opening. AfterOpening opening store result one)
        (one_opening once v verifier store datagram step.opening again.opening step.is_opening again.is_opening) step.after)
        again.after
