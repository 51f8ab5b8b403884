-- A batch has one pair, octet for octet.
use Rattle.std.proofs.Common.{◌≡◌, ℕ, suc, ◌+◌, ◌-◌, ◌%◌, List, [], ◌∷◌, ◌++◌, Option, Some, length, replicate, sym, ap, subst, ◌∙◌, arith, length-append}
use Rattle.std.specs.Option.{unwrap_or}
use Rattle.byteorder.specs.Endian.{big_bytes}
use Rattle.gd_cipher.specs.Chains.{IsSealed}
use Rattle.gd_edges.specs.declared.signers.Signer.{Ghosts as SignerGhosts}
use Rattle.gd_wire.specs.Chains.{padded, payload_text}
use Rattle.gd_wire.specs.Headers.{header_text}
use Rattle.group_terms.specs.Octets.{iv_octets}
use Rattle.group_terms.specs.declared.keys.KeyName.{KeyName}
use Rattle.group_terms.specs.declared.keys.KeyName.TheVariants.{Node}
use Rattle.group_terms.specs.declared.keys.Wrap.{Wrap}
use Rattle.group_terms.specs.declared.paths.PathKey.{PathKey}
use Rattle.group_terms.specs.declared.values.NodeValue.{NodeValue}
use Rattle.group_terms.specs.declared.values.TrafficValue.{TrafficValue}
use Rattle.group_values.specs.Values.{HasValue, Made, node_value}
use Rattle.group_model.specs.declared.entries.PushPair.{PushPair}
use Rattle.kd_wire.specs.Texts.{AreUpdateTexts, IsUpdate, data_of, update_text}
use Rattle.kd_wire.specs.declared.sealing.WrapJob.{WrapJob}
use Rattle.push_msg.specs.Digests.{digest}
use Rattle.push_msg.specs.Texts.{IsPushText, Push, head_text, membership_push, plain_text, push_header, signed_text, traffic_push}
use Rattle.group_pushes.specs.Laws.{SignAlike}
use Rattle.group_pushes.specs.Pairs.{AreJobsOf, IsJobOf, IsPairOf}
use Rattle.group_pushes.proofs.PairLemmas.{id_in, made_in}

-- a law of the cipher: a text is sealed in one way
abbrev pub IsSealedOnce : Type 0
IsSealedOnce = (key iv text one other : List ℕ) → length iv ≡ 16 → IsSealed key iv text one → IsSealed key iv text other → one ≡ other

-- what two answers say is there is one
one_node : (value other : NodeValue) (found : Option NodeValue) → found ≡ Some value → found ≡ Some other → value ≡ other
one_node value other found is also = ap (λ (one : Option NodeValue). unwrap_or one value) (sym is ∙ also)

one_traffic : (value other : TrafficValue) (found : Option TrafficValue) → found ≡ Some value → found ≡ Some other → value ≡ other
one_traffic value other found is also = ap (λ (one : Option TrafficValue). unwrap_or one value) (sym is ∙ also)

-- ---- arrays

one_key : (list : List Made) (name : KeyName) (key other : PathKey) → name ≡ Node key.id key.made → name ≡ Node other.id other.made
    → HasValue list key → HasValue list other → key ≡ other
one_key list name key other named also has_value has_other =
    let same : Node key.id key.made ≡ Node other.id other.made = sym named ∙ also in
    let id : key.id ≡ other.id = ap id_in same in
    let made : key.made ≡ other.made = ap made_in same in
    let value : key.value ≡ other.value = one_node key.value other.value (node_value list key.id key.made) has_value ((λ i. node_value list (id i) (made i)) ∙ has_other) in
    λ i. record { id = id i; made = made i; value = value i }

one_job : (list : List Made) (wrap : Wrap) (job other : WrapJob) → IsJobOf list wrap job → IsJobOf list wrap other → job ≡ other
one_job list wrap job other is also =
    let by = one_key list wrap.by job.by other.by is.by also.by is.by_value also.by_value in
    let gives = one_key list wrap.gives job.gives other.gives is.gives also.gives is.gives_value also.gives_value in
    λ i. record { by = by i; gives = gives i }

module _ (once : IsSealedOnce) where
  one_update : (job : WrapJob) (text other : List ℕ) → length job.by.value.iv ≡ iv_octets → IsUpdate job text → IsUpdate job other → text ≡ other
  one_update job text other iv is also =
      is.is_text ∙ ap (update_text job) (once job.by.value.key job.by.value.iv (data_of job.gives.value) is.sealed also.sealed iv is.is_sealed also.is_sealed) ∙ sym also.is_text

  one_text : (list : List Made) (wraps : List Wrap) (jobs others : List WrapJob) (text more : List ℕ)
      → AreJobsOf list wraps jobs → AreJobsOf list wraps others → AreUpdateTexts jobs text → AreUpdateTexts others more → text ≡ more
  one_text list [] [] [] text more are also texts mores = texts ∙ sym mores
  one_text list [] (job ∷ jobs) others text more are also texts mores = absurd are
  one_text list [] [] (other ∷ others) text more are also texts mores = absurd also
  one_text list (wrap ∷ wraps) [] others text more are also texts mores = absurd are
  one_text list (wrap ∷ wraps) (job ∷ jobs) [] text more are also texts mores = absurd also
  one_text list (wrap ∷ wraps) (job ∷ jobs) (other ∷ others) text more are also (first, rest, update, later, parts) (one, left, written, further, pieces) =
      let same : other ≡ job = one_job list wrap other job also.0 are.0 in
      let front : first ≡ one = one_update job first one are.0.by_iv update (subst (λ job. IsUpdate job one) same written) in
      let back : rest ≡ left = one_text list wraps jobs others rest left are.1 also.1 later further in
      parts ∙ (λ i. front i ++ back i) ∙ sym pieces

  -- ---- datagrams

  same_padded : (text other : List ℕ) → length text ≡ length other → length (padded text) ≡ length (padded other)
  same_padded text other long =
      let fill : ℕ → List ℕ = λ n. replicate ((16 - n % 16) % 16) 0 in
      length-append text (fill (length text)) ∙ (λ i. long i + length (fill (long i))) ∙ sym (length-append other (fill (length other)))

  same_plain : (push : Push) (signature other : List ℕ) → length signature ≡ length other → length (plain_text push signature) ≡ length (plain_text push other)
  same_plain push signature other long =
      let payload : length (payload_text 0 signature) ≡ length (payload_text 0 other) =
      (λ i. suc (suc (length-append (big_bytes 2 (length signature + 4)) signature i)))
      ∙ (λ i. suc (suc (length (big_bytes 2 (long i + 4)) + long i)))
      ∙ (λ i. suc (suc (sym (length-append (big_bytes 2 (length other + 4)) other) i))) in
      same_padded (signed_text push ++ payload_text 0 signature) (signed_text push ++ payload_text 0 other)
      (length-append (signed_text push) (payload_text 0 signature) ∙ ap (λ n. length (signed_text push) + n) payload ∙ sym (length-append (signed_text push) (payload_text 0 other)))

  one_push : (sign : List ℕ → List ℕ) (size : ℕ) (kek : NodeValue) (push : Push) (text other : List ℕ) → length kek.iv ≡ iv_octets
      → IsPushText sign size kek push text → IsPushText sign size kek push other → text ≡ other
  one_push sign size kek push text other iv is also =
      let plain = same_plain push is.signature also.signature (is.has_size ∙ sym also.has_size) in
      let head : head_text push is.signature ≡ head_text push also.signature = ap (λ n. header_text (push_header push n)) plain in
      let signature : is.signature ≡ also.signature = is.signed ∙ ap (λ head. sign (digest head (signed_text push))) head ∙ sym also.signed in
      let sealed : is.sealed ≡ also.sealed =
      once kek.key kek.iv (plain_text push also.signature) is.sealed also.sealed iv
      (subst (λ signature. IsSealed kek.key kek.iv (plain_text push signature) is.sealed) signature is.is_sealed) also.is_sealed in
      is.is_text ∙ (λ i. head i ++ sealed i) ∙ sym also.is_text

  pub one_pair : {G : Type 0} (g : SignerGhosts G) (signer another : G) (depth : ℕ) (spi : List ℕ) (list : List Made) (pair other : PushPair)
      → SignAlike g signer another → IsPairOf g signer depth spi list pair → IsPairOf g another depth spi list other → pair ≡ other
  one_pair g signer another depth spi list pair other alike is also =
      let first : other.first ≡ pair.first = omega (arith, is.first, also.first) in
      let wraps : other.wraps ≡ pair.wraps = also.wraps ∙ sym is.wraps in
      let arrays : also.arrays ≡ is.arrays =
      one_text list _ also.are_arrays.0 is.are_arrays.0 also.arrays is.arrays also.are_arrays.1 is.are_arrays.1 also.are_arrays.2 is.are_arrays.2 in
      let old_root : also.old_root ≡ is.old_root = one_node also.old_root is.old_root _ also.is_old_root is.is_old_root in
      let root : also.root ≡ is.root = one_node also.root is.root _ also.is_root is.is_root in
      let key : also.key ≡ is.key = one_traffic also.key is.key _ also.is_key is.is_key in
      let sign = g.signature signer in
      let size = g.size_of signer in
      let same_sign : g.signature another ≡ g.signature signer = λ i digest. alike.signature digest i in
      let membership : pair.membership ≡ other.membership =
      one_push sign size is.old_root (membership_push (record { spi = spi; sequence = pair.first }) (g.kind_of signer) is.arrays)
      pair.membership other.membership is.old_iv is.membership
      (coe 0 1 (i. IsPushText (same_sign i) (alike.size i) (old_root i)
      (membership_push (record { spi = spi; sequence = first i }) (alike.kind i) (arrays i)) other.membership) also.membership) in
      let traffic : pair.traffic ≡ other.traffic =
      one_push sign size is.root (traffic_push (record { spi = spi; sequence = pair.first + 1 }) is.key)
      pair.traffic other.traffic is.iv is.traffic
      (coe 0 1 (i. IsPushText (same_sign i) (alike.size i) (root i)
      (traffic_push (record { spi = spi; sequence = first i + 1 }) (key i)) other.traffic) also.traffic) in
      λ i. record { first = sym first i; membership = membership i; traffic = traffic i; wraps = sym wraps i }
