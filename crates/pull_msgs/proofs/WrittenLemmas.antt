-- A message that was written: its octets, its size, and the answer when it is read.
use Rattle.std.proofs.Common.{◌≡◌, ◌≤◌, ◌<◌, ◌+◌, ◌-◌, ◌%◌, ◌∙◌, ◌⊎◌, ℕ, List, [], ◌++◌, length, drop, replicate, Option, Some, None, Result, Ok, Err, refl, ap, sym, subst, inl, inr, arith, append_assoc, length-append}
use Rattle.std.proofs.lemmas.List.{drop_at, append-nil}
use Rattle.std.proofs.lemmas.List.Elements.{All-append, All-nil}
use Rattle.std.specs.Prelude.{IsSome}
use Rattle.std.specs.Str.{bytes_eq}
use Rattle.gd_cipher.specs.Bytes.{AreBytes}
use Rattle.gd_cipher.specs.Chains.{IsOpened}
use Rattle.gd_wire.specs.declared.headers.Header.{Header}
use Rattle.gd_wire.specs.Chains.{filled, payload_text, payloads_text, first_kind}
use Rattle.gd_wire.specs.Headers.{HeaderFits}
use Rattle.gd_wire.specs.Readings.{Cursor, from_start, value_of}
use Rattle.gd_cipher.proofs.SealLemmas.{same_opened, sealed-opens}
use Rattle.gd_wire.proofs.HeaderLemmas.{header_long, header_written}
use Rattle.gd_wire.proofs.OctetLemmas.{payload_octets, same_octets, zeros_are_octets}
use Rattle.group_terms.specs.Octets.{IsOctet, AreOctets}
use Rattle.group_terms.specs.declared.phases.Phase1.{Phase1}
use Rattle.sa_wire.specs.Texts.{sa_size, sa_text}
use Rattle.sa_wire.specs.declared.policies.KekPolicy.{KekPolicy}
use Rattle.sa_wire.specs.declared.policies.SaPolicy.{SaPolicy}
use Rattle.sa_wire.specs.declared.policies.TekPolicy.{TekPolicy}
use Rattle.pull_msgs.specs.declared.faults.PullFault.{PullFault}
use Rattle.pull_msgs.specs.declared.faults.PullFault.TheVariants.{NoMemory}
use Rattle.pull_msgs.specs.Fits.{PhaseFits, MessageFits, PoliciesFit}
use Rattle.pull_msgs.specs.Hashes.{hash_of}
use Rattle.pull_msgs.specs.Pulls.{Awaited, IsAnswer, IsOfHead, IsOfText, answer_for, due_message, head, head_of}
use Rattle.pull_msgs.specs.Readings.{PullRead}
use Rattle.pull_msgs.specs.Texts.{Message, IsPullText, message_hash, plain_text, head_text}
use Rattle.pull_msgs.proofs.DraftLemmas.{plain_long}
use Rattle.pull_msgs.proofs.HashLemmas.{octets-hash_of, length-hash_of}

abbrev pub head_of_message : Phase1 → Message → Header
head_of_message phase said =
    record { cookies = phase.cookies; next = 8; exchange = 32; message = said.message; length = 28 + length (plain_text phase said) }

-- the length of the datagram
pub datagram_long : (phase : Phase1) (iv : List ℕ) (said : Message) (datagram : List ℕ) → length phase.cookies ≡ 16 → length said.message ≡ 4
    → (is : IsPullText phase iv said datagram) → length datagram ≡ 28 + filled (36 + length (payloads_text said.payloads))
datagram_long phase iv said datagram cookies message is =
    let digest = length-hash_of phase said.message said.nonces (payloads_text said.payloads) in
    omega (
      arith,
      ap length is.is_text,
      length-append (head_text phase said) is.sealed,
      header_long (head_of_message phase said) cookies message,
      is.is_sealed.len,
      plain_long (message_hash phase said) said.payloads digest,
    )

-- ---- two payloads

pub two_flat : (kind next : ℕ) (digest one two end : List ℕ)
    → (payload_text kind digest ++ (payload_text next one ++ (payload_text 0 two ++ []))) ++ end
    ≡ payload_text kind digest ++ (payload_text next one ++ (payload_text 0 two ++ end))
two_flat kind next digest one two end =
    append_assoc (payload_text kind digest) (payload_text next one ++ (payload_text 0 two ++ [])) end
    ∙ ap (λ octets. payload_text kind digest ++ octets) (append_assoc (payload_text next one) (payload_text 0 two ++ []) end
    ∙ ap (λ octets. payload_text next one ++ (octets ++ end)) (append-nil (payload_text 0 two)))

pub two_octets : (next : ℕ) (one two : List ℕ) → IsOctet next → AreOctets one → AreOctets two
    → AreOctets (payload_text next one ++ (payload_text 0 two ++ []))
two_octets next one two small first second =
    All-append IsOctet (payload_text next one) (payload_text 0 two ++ []) (payload_octets next one small first)
    (All-append IsOctet (payload_text 0 two) [] (payload_octets 0 two (omega arith) second) (All-nil IsOctet))

pub two_long : (next : ℕ) (one two : List ℕ) → length (payload_text next one ++ (payload_text 0 two ++ [])) ≡ 8 + length one + length two
two_long next one two =
    omega (arith, length-append (payload_text next one) (payload_text 0 two ++ []), length-append (payload_text 0 two) [])

-- both policies have 136 octets
pub policies_long : (policy : SaPolicy) → PoliciesFit policy → length (sa_text policy) ≡ sa_size policy → length (sa_text policy) ≡ 136
policies_long policy fits sized = sized ∙ both policy.kek policy.tek fits.kek fits.tek
  where
    both : (kek : Option KekPolicy) (tek : Option TekPolicy) → IsSome kek → IsSome tek → sa_size (record { kek = kek; tek = tek }) ≡ 136
    both (Some kek) (Some tek) has_kek has_tek = refl
    both None tek has_kek has_tek = absurd (cc)
    both (Some kek) None has_kek has_tek = absurd (cc)

-- ---- what is sealed

-- the payloads of a message are octets, where what they are written of is
pub plain_octets : (phase : Phase1) (said : Message) → first_kind said.payloads < 256 → AreOctets (payloads_text said.payloads)
    → AreOctets (plain_text phase said)
plain_octets phase said kind_small rest_octets =
    let digest : List ℕ = message_hash phase said in
    let rest : List ℕ = payloads_text said.payloads in
    let before : List ℕ = payload_text (first_kind said.payloads) digest ++ rest in
    let zeros : ℕ = (16 - length before % 16) % 16 in
    All-append IsOctet before (replicate zeros 0)
    (All-append IsOctet (payload_text (first_kind said.payloads) digest) rest
    (payload_octets (first_kind said.payloads) digest kind_small (octets-hash_of phase said.message said.nonces rest)) rest_octets)
    (zeros_are_octets zeros)

-- they are sealed after the header
pub sealed_is : (phase : Phase1) (iv : List ℕ) (said : Message) (datagram : List ℕ) → length phase.cookies ≡ 16 → length said.message ≡ 4
    → (is : IsPullText phase iv said datagram) → drop 28 datagram ≡ is.sealed
sealed_is phase iv said datagram cookies message is =
    ap (drop 28) is.is_text ∙ drop_at (head_text phase said) is.sealed 28 (header_long (head_of_message phase said) cookies message)

-- ---- what is read

-- this is an answer for a datagram where a message is awaited, and the only one but for out of memory
pub record IsRead {A B : Type 0} (phase : Phase1) (awaited : Awaited A B) (datagram : List ℕ) (gives : B) : Type 0 where
  pub can_be : IsAnswer phase awaited datagram (Ok gives)
  pub alone : (answer : Result B PullFault) → IsAnswer phase awaited datagram answer → (answer ≡ Err NoMemory) ⊎ (answer ≡ Ok gives)

module _ (phase : Phase1) (iv : List ℕ) (said : Message) (datagram : List ℕ)
    (phase_fits : PhaseFits phase) (message_fits : MessageFits said.message) (iv_fits : AreBytes 16 iv)
    (kind_small : first_kind said.payloads < 256) (rest_octets : AreOctets (payloads_text said.payloads))
    (payloads_small : length (payloads_text said.payloads) ≤ 65000) (is : IsPullText phase iv said datagram) where
  abbrev digest : List ℕ
  digest = message_hash phase said

  abbrev rest : List ℕ
  rest = payloads_text said.payloads

  abbrev pub plain : List ℕ
  plain = plain_text phase said

  plain_is : length plain ≡ filled (36 + length rest)
  plain_is = plain_long digest said.payloads (length-hash_of phase said.message said.nonces rest)

  abbrev pub top : Header
  top = head_of_message phase said

  top_fits : HeaderFits top is.sealed
  top_fits =
      let same = is.is_sealed.len in
      let whole = is.is_sealed.whole in
      record {
        cookies = phase_fits.cookies;
        cookie_octets = phase_fits.cookie_octets;
        next = omega arith;
        exchange = omega arith;
        message = message_fits.size;
        message_octets = message_fits.octets;
        suits = message_fits.suits;
        told = omega (arith, same);
        some = omega (arith, same, plain_is);
        blocks = omega (arith, same, whole);
        small = omega (arith, same, plain_is, payloads_small);
      }

  has_head : (known : Option (List ℕ)) → ((cursor : Cursor) → due_message known said.message cursor ≡ Ok (tt, cursor)) → head_of phase known datagram ≡ Ok top
  unfolding head
  has_head known due =
      ap (λ octets. value_of (head phase known (from_start 0 octets))) is.is_text
      ∙ rw (header_written top is.sealed top_fits, same_octets phase.cookies, due (record { base = 0; at = 28; left = is.sealed })) refl

  is_opened : IsOpened phase.key iv (drop 28 datagram) plain
  is_opened =
      subst (λ octets. IsOpened phase.key iv octets plain) (sym (sealed_is phase iv said datagram phase_fits.cookies message_fits.size is))
      (sealed-opens phase.key iv plain is.sealed (inl phase_fits.key) iv_fits (plain_octets phase said kind_small rest_octets) is.is_sealed)

  -- where that message is awaited, and its payloads are read
  module _ (A B : Type 0) (awaited : Awaited A B) (read : PullRead A)
      (due : (cursor : Cursor) → due_message awaited.known said.message cursor ≡ Ok (tt, cursor)) (same_iv : awaited.iv said.message ≡ iv)
      (same_nonces : awaited.nonces ≡ said.nonces)
      (reads : value_of (awaited.payloads plain 8 (from_start 28 plain)) ≡ Ok read)
      (carried : read.hash ≡ digest) (covers : read.covered ≡ rest) where
    abbrev expected : List ℕ
    expected = hash_of phase said.message awaited.nonces read.covered

    due_is : read.hash ≡ expected
    due_is = carried ∙ (λ i. hash_of phase said.message (sym same_nonces i) (sym covers i))

    taken : answer_for (hash_of phase said.message awaited.nonces) (awaited.gives top datagram) (Ok read) ≡ Ok (awaited.gives top datagram read.said)
    taken = rw (ap (bytes_eq read.hash) (sym due_is) ∙ same_octets read.hash) refl

    of_text : (answer : Result B PullFault) (found : IsOfText A B phase awaited datagram top answer) → answer ≡ Ok (awaited.gives top datagram read.said)
    of_text answer found =
        let opened = subst (λ iv. IsOpened phase.key iv (drop 28 datagram) found.text) same_iv found.opened in
        let same : found.text ≡ plain = same_opened phase.key iv (drop 28 datagram) found.text plain opened is_opened in
        found.is
        ∙ ap (λ text. answer_for (hash_of phase said.message awaited.nonces) (awaited.gives top datagram) (value_of (awaited.payloads text 8 (from_start 28 text)))) same
        ∙ ap (answer_for (hash_of phase said.message awaited.nonces) (awaited.gives top datagram)) reads
        ∙ taken

    pub is_read : IsRead phase awaited datagram (awaited.gives top datagram read.said)
    is_read = record {
      can_be = subst (IsOfHead A B phase awaited datagram (Ok (awaited.gives top datagram read.said))) (sym (has_head awaited.known due)) (inr (record {
        text = plain;
        opened = subst (λ iv. IsOpened phase.key iv (drop 28 datagram) plain) (sym same_iv) is_opened;
        is = sym (ap (answer_for (hash_of phase said.message awaited.nonces) (awaited.gives top datagram)) reads ∙ taken);
      }));
      alone = λ answer answered. elim (subst (IsOfHead A B phase awaited datagram answer) (has_head awaited.known due) answered) [
        | inl none ↦ inl none
        | inr found ↦ inr (of_text answer found)
      ];
    }
