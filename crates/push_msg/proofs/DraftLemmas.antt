-- The datagram of a push, put together piece by piece.
use Rattle.std.proofs.Common.{refl, ◌≡◌, ◌<◌, ◌≤◌, ◌+◌, Some, None, inl, inr, ◌-◌, ◌%◌, ◌∙◌, ℕ, List, [], ◌++◌, length, take, drop, replicate, sym, ap, ap₂, subst, arith, append_assoc, length-append, take-append-drop}
use Rattle.std.proofs.lemmas.List.{take_at, drop_at}
use Rattle.gd_cipher.specs.Chains.{IsSealed}
use Rattle.gd_wire.specs.Bodies.{sequence_text}
use Rattle.gd_wire.specs.Chains.{payload_text, padded}
use Rattle.gd_wire.specs.Headers.{header_text}
use Rattle.gd_wire.specs.Payloads.{payload_head}
use Rattle.gd_wire.proofs.HeaderLemmas.{header_long}
use Rattle.group_terms.specs.Octets.{AreOctets}
use Rattle.group_terms.specs.declared.signatures.SignKind.{SignKind}
use Rattle.group_terms.specs.declared.values.NodeValue.{NodeValue}
use Rattle.group_terms.specs.declared.values.TrafficValue.{TrafficValue}
use Rattle.kd_wire.specs.Texts.{TrafficFits, update_kd}
use Rattle.sa_wire.specs.Texts.{PolicyFits, sa_text, sa_size}
use Rattle.sa_wire.specs.declared.policies.SaPolicy.{SaPolicy}
use Rattle.push_msg.specs.Digests.{digest}
use Rattle.push_msg.specs.Texts.{Push, signed_text, plain_text, push_header, head_text, IsPushText, sa_kind, kd_kind, signature_kind}
use Rattle.push_msg.specs.declared.writers.PushHead.{PushHead}
use Rattle.push_msg.specs.Private.Drafts.{IsBegun}

pub head_long : (push : Push) (size : ℕ) → length push.spi ≡ 16 → length (header_text (push_header push size)) ≡ 28
head_long push size long = header_long (push_header push size) long refl

-- the text after which the signature comes was signed, and then sealed with it
pub push_written : (sign : List ℕ → List ℕ) (signature_size : ℕ) (kek : NodeValue) (push : Push) (size : ℕ) (out written filled sealed datagram signature : List ℕ)
    → 0 < signature_size → signature_size ≤ 512 → length signature ≡ signature_size → AreOctets signature
    → length push.spi ≡ 16 → out ≡ header_text (push_header push size) ++ signed_text push
    → signature ≡ sign (digest (take 28 out) (drop 28 out)) → size ≡ length (plain_text push signature)
    → written ≡ out ++ payload_text 0 signature
    → filled ≡ written ++ replicate ((16 - (length written - 28) % 16) % 16) 0
    → IsSealed kek.key kek.iv (drop 28 filled) sealed → datagram ≡ take 28 filled ++ sealed
    → IsPushText sign signature_size kek push datagram
push_written sign signature_size kek push size out written filled sealed datagram signature some few has_size octets long begun signed sized with_signature is_filled is_sealed is_text =
    let head : List ℕ = header_text (push_header push size) in
    let head_is : length head ≡ 28 = head_long push size long in
    let text : List ℕ = signed_text push ++ payload_text 0 signature in
    let whole : written ≡ head ++ text = with_signature ∙ ap (λ octets. octets ++ payload_text 0 signature) begun ∙ append_assoc head (signed_text push) (payload_text 0 signature) in
    let count : length written - 28 ≡ length text = omega (arith, ap length whole, length-append head text, head_is) in
    let full : filled ≡ head ++ plain_text push signature =
    is_filled
    ∙ (λ i. whole i ++ replicate ((16 - count i % 16) % 16) 0)
    ∙ append_assoc head text (replicate ((16 - length text % 16) % 16) 0) in
    let same_head : head ≡ head_text push signature = ap (λ n. header_text (push_header push n)) sized in
    record {
      signature = signature;
      sealed = sealed;
      some = some;
      few = few;
      has_size = has_size;
      octets = octets;
      signed =
          signed
          ∙ ap₂ (λ header payloads. sign (digest header payloads))
          (ap (take 28) begun ∙ take_at head (signed_text push) 28 head_is ∙ same_head)
          (ap (drop 28) begun ∙ drop_at head (signed_text push) 28 head_is);
      is_sealed = subst (λ octets. IsSealed kek.key kek.iv octets sealed) (ap (drop 28) full ∙ drop_at head (plain_text push signature) 28 head_is) is_sealed;
      is_text =
          is_text
          ∙ ap (λ octets. octets ++ sealed) (ap (take 28) full ∙ take_at head (plain_text push signature) 28 head_is ∙ same_head);
    }

-- what was written piece by piece is the header and the payloads that are signed, once the body of the key download comes after it
pub push_begun : (head : PushHead) (policy : SaPolicy) (keys size : ℕ) (push : Push) (out : List ℕ)
    → ((next : ℕ) (body : List ℕ) → payload_head next (length body) ++ body ≡ payload_text next body)
    → ((policy : SaPolicy) → PolicyFits policy → length (sa_text policy) ≡ sa_size policy)
    → IsBegun head policy keys push
    → out ≡ (((((([] ++ header_text (push_header push size)) ++ payload_head sa_kind 4) ++ sequence_text head.sequence) ++ payload_head kd_kind (sa_size policy)) ++ sa_text policy) ++ payload_head signature_kind keys)
    → out ++ push.keys ≡ header_text (push_header push size) ++ signed_text push
push_begun head policy keys size push out whole sized begun written =
    let header : List ℕ = header_text (push_header push size) in
    let one : List ℕ = payload_head sa_kind 4 in
    let two : List ℕ = sequence_text head.sequence in
    let three : List ℕ = payload_head kd_kind (sa_size policy) in
    let four : List ℕ = sa_text policy in
    let five : List ℕ = payload_head signature_kind keys in
    let first : one ++ two ≡ payload_text sa_kind (sequence_text push.number) = whole sa_kind two ∙ ap (λ n. payload_text sa_kind (sequence_text n)) (sym begun.number) in
    let second : three ++ four ≡ payload_text kd_kind (sa_text push.policy) =
    ap (λ n. payload_head kd_kind n ++ four) (sym (sized policy begun.fits)) ∙ whole kd_kind four ∙ ap (λ policy. payload_text kd_kind (sa_text policy)) (sym begun.policy_is) in
    let third : five ++ push.keys ≡ payload_text signature_kind push.keys = ap (λ n. payload_head signature_kind n ++ push.keys) (sym begun.keys) ∙ whole signature_kind push.keys in
    ap (λ octets. octets ++ push.keys) written
    ∙ append_assoc ((((header ++ one) ++ two) ++ three) ++ four) five push.keys
    ∙ append_assoc (((header ++ one) ++ two) ++ three) four (five ++ push.keys)
    ∙ append_assoc ((header ++ one) ++ two) three (four ++ (five ++ push.keys))
    ∙ append_assoc (header ++ one) two (three ++ (four ++ (five ++ push.keys)))
    ∙ append_assoc header one (two ++ (three ++ (four ++ (five ++ push.keys))))
    ∙ ap (λ octets. header ++ octets) (sym (append_assoc one two (three ++ (four ++ (five ++ push.keys))))
    ∙ ap (λ octets. (one ++ two) ++ octets) (sym (append_assoc three four (five ++ push.keys)))
    ∙ (λ i. first i ++ (second i ++ third i)))

-- what is begun has a whole header
pub header_there : (push : Push) (size : ℕ) (out : List ℕ) → length push.spi ≡ 16 → out ≡ header_text (push_header push size) ++ signed_text push → 28 ≤ length out
header_there push size out long is =
    omega (arith, ap length is, length-append (header_text (push_header push size)) (signed_text push), head_long push size long)

-- a key download with update arrays has 25 octets before them
pub updates_long : (spi arrays : List ℕ) → length spi ≡ 16 → length (update_kd spi arrays) ≡ 25 + length arrays
updates_long spi arrays long = omega (arith, long, length-append spi arrays)

-- the policies of both pushes can be written
pub kek_policy_fits : (spi : List ℕ) (sign : SignKind) → length spi ≡ 16 → AreOctets spi → sign.algorithm < 65536 → sign.key_bits < 65536
    → PolicyFits (record { kek = Some (record { spi = spi; sign = sign }); tek = None })
kek_policy_fits spi sign long octets algorithm key_bits = record {
  kek = record { spi = long; octets = octets; algorithm = algorithm; key_bits = key_bits };
  tek = tt;
  some = inl refl;
}

pub tek_policy_fits : (traffic : TrafficValue) → TrafficFits traffic → PolicyFits (record { kek = None; tek = Some (record { spi = traffic.spi }) })
tek_policy_fits traffic fits = record { kek = tt; tek = record { spi = fits.spi; octets = fits.small_spi }; some = inr refl }
