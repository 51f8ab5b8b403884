-- The datagram of a message, put together piece by piece.
-- What comes before the part that the HASH covers is a definition of its own (`before_covered`), which the draft's text (`draft_text`) has as its front.
use Rattle.std.proofs.Common.{◌≡◌, ◌+◌, ◌-◌, ◌%◌, ◌≤◌, ◌∙◌, ◌++◌, [], ◌∷◌, ℕ, List, length, take, drop, replicate, sym, ap, subst, arith, length-append, append_assoc}
use Rattle.std.proofs.lemmas.List.{take_at, drop_at, drop-drop, length-take-le, length-drop, length-replicate, append-nil}
use Rattle.byteorder.specs.Endian.{big_bytes}
use Rattle.gd_cipher.specs.Chains.{IsSealed}
use Rattle.gd_wire.specs.Chains.{filled, Payload, payload_text, payloads_text, first_kind, padded}
use Rattle.gd_wire.specs.Headers.{header_text}
use Rattle.gd_wire.specs.Payloads.{payload_head}
use Rattle.gd_wire.specs.declared.headers.Header.{Header}
use Rattle.gd_wire.proofs.HeaderLemmas.{header_long}
use Rattle.group_terms.specs.declared.phases.Phase1.{Phase1}
use Rattle.pull_msgs.specs.Hashes.{hash_of}
use Rattle.pull_msgs.specs.Private.Drafts.{before_covered, draft_text}
use Rattle.pull_msgs.specs.Texts.{Message, IsPullText, payload_of, hash_kind, message_hash, plain_text, head_text}

-- 32 octets are put in their place
pub put_between : (out now placed hash : List ℕ) → now ≡ out → placed ≡ hash → length hash ≡ 32 → 64 ≤ length out
    → take (length out) ((take 32 now ++ (placed ++ drop 32 (drop 32 now))) ++ drop (length (take 32 now ++ (placed ++ drop 32 (drop 32 now)))) out)
    ≡ take 32 out ++ (hash ++ drop 64 out)
put_between out now placed hash same put long enough =
    let whole : List ℕ = take 32 now ++ (placed ++ drop 32 (drop 32 now)) in
    let front : length (take 32 out) ≡ 32 = length-take-le 32 out (omega (arith, enough)) in
    let back : drop 32 (drop 32 now) ≡ drop 64 out = drop-drop 32 32 now ∙ ap (drop 64) same in
    let is : whole ≡ take 32 out ++ (hash ++ drop 64 out) = λ i. take 32 (same i) ++ (put i ++ back i) in
    let count : length whole ≡ length out =
    omega (arith, ap length is, length-append (take 32 out) (hash ++ drop 64 out), length-append hash (drop 64 out), front, long, length-drop 64 out, enough) in
    take_at whole (drop (length whole) out) (length out) count ∙ is

-- how long the text is that is sealed, for a HASH of 32 octets
pub plain_long : (hash : List ℕ) (payloads : List Payload) → length hash ≡ 32
    → length (padded (payloads_text (payload_of hash_kind hash ∷ payloads))) ≡ filled (36 + length (payloads_text payloads))
plain_long hash payloads long =
    let first : List ℕ = payload_text (first_kind payloads) hash in
    let rest : List ℕ = payloads_text payloads in
    let text : length (first ++ rest) ≡ 36 + length rest = length-append first rest ∙ omega (arith, long) in
    length-append (first ++ rest) (replicate ((16 - length (first ++ rest) % 16) % 16) 0)
    ∙ ap (λ n. length (first ++ rest) + n) (length-replicate {A = ℕ} ((16 - length (first ++ rest) % 16) % 16) 0)
    ∙ ap filled text

-- a draft, whose HASH was put in its place, which was filled up and sealed, is the datagram of the message
pub message_written : (phase : Phase1) (iv : List ℕ) (said : Message) (out hash put full sealed datagram : List ℕ)
    → length phase.cookies ≡ 16 → length said.message ≡ 4 → length hash ≡ 32 → out ≡ draft_text phase said
    → hash ≡ hash_of phase said.message said.nonces (drop 64 out)
    → put ≡ take 32 out ++ (hash ++ drop 64 out)
    → full ≡ put ++ replicate ((16 - (length put - 28) % 16) % 16) 0
    → IsSealed phase.key iv (drop 28 full) sealed → datagram ≡ take 28 full ++ sealed
    → IsPullText phase iv said datagram
message_written phase iv said out hash put full sealed datagram cookies message long draft hashed is_put is_full is_sealed is_text =
    let rest : List ℕ = payloads_text said.payloads in
    let next : ℕ = first_kind said.payloads in
    let head : List ℕ = header_text (record { cookies = phase.cookies; next = 8; exchange = 32; message = said.message; length = 28 + filled (36 + length rest) }) in
    let head_is : length head ≡ 28 = header_long _ cookies message in
    let generic : List ℕ = next ∷ 0 ∷ big_bytes 2 36 in
    let zeros : List ℕ = replicate 32 0 in
    let front : length (head ++ generic) ≡ 32 = length-append head generic ∙ omega (arith, head_is) in
    let flat : out ≡ (head ++ generic) ++ (zeros ++ rest) =
    draft ∙ ap (λ octets. octets ++ rest) (sym (append_assoc head generic zeros)) ∙ append_assoc (head ++ generic) zeros rest in
    let begun : take 32 out ≡ head ++ generic = ap (take 32) flat ∙ take_at (head ++ generic) (zeros ++ rest) 32 front in
    let covered : drop 64 out ≡ rest =
    sym (drop-drop 32 32 out) ∙ ap (λ octets. drop 32 (drop 32 octets)) flat ∙ ap (drop 32) (drop_at (head ++ generic) (zeros ++ rest) 32 front) in
    let due : hash ≡ message_hash phase said = hashed ∙ ap (hash_of phase said.message said.nonces) covered in
    let text : List ℕ = payload_text next hash ++ rest in
    let headed : generic ++ hash ≡ payload_text next hash = ap (λ n. next ∷ 0 ∷ big_bytes 2 (n + 4) ++ hash) (sym long) in
    let whole : put ≡ head ++ text =
    is_put ∙ (λ i. begun i ++ (hash ++ covered i)) ∙ append_assoc head generic (hash ++ rest)
    ∙ ap (λ octets. head ++ octets) (sym (append_assoc generic hash rest) ∙ ap (λ octets. octets ++ rest) headed) in
    let count : length put - 28 ≡ length text = omega (arith, ap length whole, length-append head text, head_is) in
    let filled_up : full ≡ head ++ padded text =
    is_full ∙ (λ i. whole i ++ replicate ((16 - count i % 16) % 16) 0) ∙ append_assoc head text (replicate ((16 - length text % 16) % 16) 0) in
    let plain : padded text ≡ plain_text phase said = ap (λ octets. padded (payload_text next octets ++ rest)) due in
    let same_head : head ≡ head_text phase said =
    ap (λ n. header_text (record { cookies = phase.cookies; next = 8; exchange = 32; message = said.message; length = 28 + n }))
    (sym (plain_long hash said.payloads long) ∙ ap length plain) in
    record {
      sealed = sealed;
      is_sealed =
          subst (λ octets. IsSealed phase.key iv octets sealed)
          (ap (drop 28) filled_up ∙ drop_at head (padded text) 28 head_is ∙ plain) is_sealed;
      is_text =
          is_text
          ∙ ap (λ octets. octets ++ sealed) (ap (take 28) filled_up ∙ take_at head (padded text) 28 head_is ∙ same_head);
    }

-- Two payloads after the HASH: the first one whole, the header of the second one, and its body.
pub two_drafted : (phase : Phase1) (message nonces : List ℕ) (kind next size count : ℕ) (one two before first headed out : List ℕ)
    → ((next : ℕ) (body : List ℕ) → payload_head next (length body) ++ body ≡ payload_text next body)
    → count ≡ length two → size ≡ 8 + length one + length two
    → before ≡ before_covered phase message kind size → first ≡ before ++ payload_text next one
    → headed ≡ first ++ payload_head 0 count → out ≡ headed ++ two
    → out ≡ draft_text phase (record { message = message; nonces = nonces; payloads = payload_of kind one ∷ payload_of next two ∷ [] })
two_drafted phase message nonces kind next size count one two before first headed out whole counted sized begun with_first with_head with_body =
    let last : List ℕ = payload_text 0 two in
    let rest : List ℕ = payload_text next one ++ (last ++ []) in
    let body : payload_head 0 count ++ two ≡ last ++ [] = ap (λ n. payload_head 0 n ++ two) counted ∙ whole 0 two ∙ sym (append-nil last) in
    let long : size ≡ length rest =
    sized ∙ sym (length-append (payload_text next one) (last ++ []) ∙ omega (arith, length-append last [])) in
    with_body
    ∙ ap (λ octets. octets ++ two) with_head ∙ append_assoc first (payload_head 0 count) two
    ∙ (λ i. with_first i ++ body i)
    ∙ append_assoc before (payload_text next one) (last ++ [])
    ∙ ap (λ octets. octets ++ rest) (begun ∙ ap (before_covered phase message kind) long)

-- what is begun has 64 octets
pub before_long : (phase : Phase1) (message : List ℕ) (next size : ℕ) → length phase.cookies ≡ 16 → length message ≡ 4
    → length (before_covered phase message next size) ≡ 64
before_long phase message next size cookies id =
    let head : Header = record { cookies = phase.cookies; next = 8; exchange = 32; message = message; length = 28 + filled (36 + size) } in
    length-append (header_text head) (payload_text next (replicate 32 0)) ∙ omega (arith, header_long head cookies id)
