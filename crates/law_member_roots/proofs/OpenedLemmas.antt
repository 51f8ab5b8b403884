-- Each key that a membership push gives is that of an encryption, and opens to its own value.
use Rattle.std.proofs.Common.{◌≡◌, ◌∙◌, ap, inl, subst, sym, ℕ, List, [], ◌∷◌, length, map, take, drop, Some}
use Rattle.std.specs.List.{All}
use Rattle.std.proofs.Math.Seq.{drop-append_seam, take-append_seam}
use Rattle.std.proofs.lemmas.List.Elements.{All-append, All-head, All-tail}
use Rattle.std.proofs.lemmas.Option.{same_Some}
use Rattle.gd_cipher.specs.Bytes.{AreBytes, IsByte, IsKey}
use Rattle.gd_cipher.specs.Chains.{IsOpened, IsSealed}
use Rattle.group_terms.specs.declared.keys.Wrap.{Wrap}
use Rattle.group_terms.specs.declared.paths.PathKey.{PathKey}
use Rattle.group_terms.specs.declared.values.NodeValue.{NodeValue}
use Rattle.group_values.specs.Values.{HasValue, Made, node_value}
use Rattle.group_pushes.specs.Fits.{MadeFits}
use Rattle.group_pushes.specs.Pairs.{AreJobsOf, IsJobOf}
use Rattle.kd_wire.specs.Texts.{IsSealedJob, Sealed, data_of, key_of}
use Rattle.kd_wire.specs.UpdateTexts.{array_of}
use Rattle.member_store.specs.Takings.{IsUnsealed, keys_given}
use Rattle.law_member_roots.proofs.FitLemmas.{node_fits}
use Rattle.law_member_roots.specs.Reads.{AreSealedWraps, IsSealedWrap}

-- a text sealed and then opened under one key and IV is as it was
abbrev pub OpensAgain : Type 0
OpensAgain =
    (key iv text sealed opened : List ℕ) → IsKey key → AreBytes 16 iv → All IsByte text → IsSealed key iv text sealed → IsOpened key iv sealed opened
    → opened ≡ text

-- ---- the value of a key by its data

module _ (one other : NodeValue) (long : length one.iv ≡ length other.iv) (same : data_of one ≡ data_of other) where
  same_iv : one.iv ≡ other.iv
  same_iv = sym (take-append_seam one.iv one.key) ∙ (λ i. take (long i) (same i)) ∙ take-append_seam other.iv other.key

  same_key : one.key ≡ other.key
  same_key = sym (drop-append_seam one.iv one.key) ∙ (λ i. drop (long i) (same i)) ∙ drop-append_seam other.iv other.key

  same_value : one ≡ other
  same_value = λ i. record { iv = same_iv i; key = same_key i }

-- ---- the keys that are given

module _ (opens_again : OpensAgain) (list : List Made) (fit : All MadeFits list) where
  -- what is opened under a key called as that of a job has the value that the job sealed
  opens_to : (update : Sealed) → HasValue list update.job.by → HasValue list update.job.gives → IsSealedJob update → (by key : PathKey)
      → by.id ≡ update.job.by.id → by.made ≡ update.job.by.made → HasValue list by
      → IsUnsealed by (record { by = update.job.by.id; by_made = update.job.by.made; gives = key_of update }) key → key.value ≡ update.job.gives.value
  opens_to update by_value gives_value sealed by key id made has unsealed =
      let sealer = update.job.by.value in
      let text = update.job.gives.value in
      let by_same : by.value ≡ sealer = same_Some by.value sealer (sym has ∙ (λ i. node_value list (id i) (made i)) ∙ by_value) in
      let opened : IsOpened sealer.key sealer.iv update.octets (data_of key.value) =
      subst (λ (value : NodeValue). IsOpened value.key value.iv update.octets (data_of key.value)) by_same unsealed.opened in
      let by_fits = node_fits list update.job.by.id update.job.by.made sealer fit by_value in
      let fits = node_fits list update.job.gives.id update.job.gives.made text fit gives_value in
      same_value key.value text (unsealed.iv ∙ sym fits.iv.len)
      (opens_again sealer.key sealer.iv (data_of text) update.octets (data_of key.value) (inl by_fits.key) by_fits.iv
      (All-append IsByte text.iv text.key fits.iv.small fits.key.small) sealed opened)

  sealed_wrap : (wrap : Wrap) (update : Sealed) → IsJobOf list wrap update.job → IsSealedJob update
      → IsSealedWrap list wrap (record { by = update.job.by.id; by_made = update.job.by.made; gives = key_of update })
  sealed_wrap wrap update is sealed = record {
    by = is.by;
    gives = is.gives;
    opens = λ by key id made has unsealed.
        (λ i. node_value list (unsealed.id i) (unsealed.made i)) ∙ is.gives_value
        ∙ ap (λ value. Some value) (sym (opens_to update is.by_value is.gives_value sealed by key id made has unsealed));
  }

  pub sealed_wraps : (wraps : List Wrap) (updates : List Sealed) → AreJobsOf list wraps (map (λ (update : Sealed). update.job) updates)
      → All IsSealedJob updates → AreSealedWraps list wraps (keys_given (map array_of updates))
  sealed_wraps [] [] are sealed = are
  sealed_wraps [] (update ∷ updates) are sealed = absurd are
  sealed_wraps (wrap ∷ wraps) [] are sealed = absurd are
  sealed_wraps (wrap ∷ wraps) (update ∷ updates) are sealed = (
    sealed_wrap wrap update are.0 (All-head IsSealedJob update updates sealed),
    sealed_wraps wraps updates are.1 (All-tail IsSealedJob update updates sealed),
  )
