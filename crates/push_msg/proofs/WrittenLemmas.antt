-- A push that was written: its octets, its size, and what is read of it.
use Rattle.std.proofs.Common.{◌≡◌, ◌≤◌, ◌<◌, ◌+◌, ◌-◌, ◌%◌, ◌∙◌, ℕ, true, List, [], ◌∷◌, ◌++◌, length, take, drop, replicate, Ok, refl, ap, ap₂, sym, subst, inl, arith, append_assoc, length-append}
use Rattle.std.proofs.lemmas.List.{take_at, drop_at, length-replicate}
use Rattle.std.proofs.lemmas.List.Elements.{All-append}
use Rattle.gd_cipher.specs.Chains.{IsOpened}
use Rattle.gd_wire.specs.declared.headers.Header.{Header}
use Rattle.gd_wire.specs.Bodies.{sequence_text}
use Rattle.gd_wire.specs.Chains.{payload_text, padded, filled}
use Rattle.gd_wire.specs.Headers.{header, header_text, HeaderFits}
use Rattle.gd_wire.specs.Readings.{Cursor, from_start, value_of}
use Rattle.gd_cipher.proofs.SealLemmas.{sealed-opens}
use Rattle.gd_wire.proofs.HeaderLemmas.{header_written}
use Rattle.gd_wire.proofs.OctetLemmas.{number_octets, payload_octets, zeros_are_octets}
use Rattle.group_terms.specs.Octets.{IsOctet, AreOctets}
use Rattle.group_terms.specs.declared.signatures.SignKind.{SignKind}
use Rattle.group_terms.specs.declared.values.NodeValue.{NodeValue}
use Rattle.sa_wire.specs.Texts.{sa_text}
use Rattle.push_msg.specs.declared.bodies.OpenBody.{OpenBody}
use Rattle.push_msg.specs.declared.rows.Row.{Row}
use Rattle.push_msg.specs.Digests.{digest}
use Rattle.push_msg.specs.Readings.{push, row, key_download}
use Rattle.push_msg.specs.Texts.{Push, signed_text, plain_text, push_header, head_text, IsPushText}
use Rattle.push_msg.specs.Pushes.{Opens, Reads, digest_of, header_of}
use Rattle.push_msg.specs.Written.{KekFits, IsReadAs}
use Rattle.push_msg.proofs.DraftLemmas.{head_long}
use Rattle.push_msg.proofs.PushLemmas.{push_is_read, read, signature_at}

-- how many octets the payloads have, filled up
pub plain_long : (told : Push) (signature : List ℕ) → length (plain_text told signature) ≡ filled (20 + length (sa_text told.policy) + length told.keys + length signature)
plain_long told signature =
    let one : List ℕ = payload_text 1 (sequence_text told.number) in
    let two : List ℕ = payload_text 17 (sa_text told.policy) in
    let three : List ℕ = payload_text 9 told.keys in
    let four : List ℕ = payload_text 0 signature in
    let before : List ℕ = (one ++ (two ++ three)) ++ four in
    let long : length before ≡ 20 + length (sa_text told.policy) + length told.keys + length signature =
    omega (arith, length-append (one ++ (two ++ three)) four, length-append one (two ++ three), length-append two three) in
    let fill : ℕ = (16 - length before % 16) % 16 in
    omega (arith, length-append before (replicate fill 0), length-replicate {A = ℕ} fill 0, ap filled long)

-- the length of the datagram
pub datagram_long : (sign : List ℕ → List ℕ) (size : ℕ) (kek : NodeValue) (told : Push) (datagram : List ℕ) → length told.spi ≡ 16 → (is : IsPushText sign size kek told datagram)
    → length datagram ≡ 28 + filled (20 + length (sa_text told.policy) + length told.keys + size)
datagram_long sign size kek told datagram long is =
    let plain : List ℕ = plain_text told is.signature in
    let head : List ℕ = head_text told is.signature in
    omega (
      arith,
      ap length is.is_text,
      length-append head is.sealed,
      head_long told (length plain) long,
      is.is_sealed.len,
      plain_long told is.signature
          ∙ ap (λ many. filled (20 + length (sa_text told.policy) + length told.keys + many)) is.has_size,
    )

module _ (sign : List ℕ → List ℕ) (size : ℕ) (kind : SignKind) (kek : NodeValue) (told : Push) (which : Row) (body : OpenBody) (datagram : List ℕ)
    (kek_fits : KekFits kek) (spi_long : length told.spi ≡ 16) (spi_octets : AreOctets told.spi) (number_small : told.number < 4294967296)
    (policy_octets : AreOctets (sa_text told.policy)) (policy_long : length (sa_text told.policy) ≤ 85)
    (keys_octets : AreOctets told.keys) (keys_long : length told.keys ≤ 64025)
    (is_row : (base : ℕ) (cursor : Cursor) → row told.spi kind base (sa_text told.policy) cursor ≡ Ok (which, cursor))
    (gives_keys : (cursor : Cursor) → key_download which (28 + (0 + 4 + 4 + 4 + length (sa_text told.policy)) + 4) told.keys cursor ≡ Ok (body, cursor))
    (is : IsPushText sign size kek told datagram) where
  abbrev one : List ℕ
  one = payload_text 1 (sequence_text told.number)

  abbrev two : List ℕ
  two = payload_text 17 (sa_text told.policy)

  abbrev three : List ℕ
  three = payload_text 9 told.keys

  abbrev four : List ℕ
  four = payload_text 0 is.signature

  abbrev zeros : ℕ
  zeros = (16 - length (signed_text told ++ four) % 16) % 16

  abbrev plain : List ℕ
  plain = plain_text told is.signature

  abbrev flat : List ℕ
  flat = one ++ (two ++ (three ++ (four ++ replicate zeros 0)))

  is_flat : plain ≡ flat
  is_flat =
      append_assoc (one ++ (two ++ three)) four (replicate zeros 0)
      ∙ append_assoc one (two ++ three) (four ++ replicate zeros 0)
      ∙ ap (λ rest. one ++ rest) (append_assoc two three (four ++ replicate zeros 0))

  plain_octets : AreOctets plain
  plain_octets =
      let signed_octets = All-append IsOctet one (two ++ three) (payload_octets 1 (sequence_text told.number) (omega arith) (number_octets 4 told.number))
      (All-append IsOctet two three (payload_octets 17 (sa_text told.policy) (omega arith) policy_octets)
      (payload_octets 9 told.keys (omega arith) keys_octets)) in
      All-append IsOctet (signed_text told ++ four) (replicate zeros 0)
      (All-append IsOctet (signed_text told) four signed_octets (payload_octets 0 is.signature (omega arith) is.octets)) (zeros_are_octets zeros)

  plain_is : length plain ≡ filled (20 + length (sa_text told.policy) + length told.keys + size)
  plain_is = plain_long told is.signature ∙ ap (λ many. filled (20 + length (sa_text told.policy) + length told.keys + many)) is.has_size

  abbrev head : Header
  head = push_header told (length plain)

  head_fits : HeaderFits head is.sealed
  head_fits =
      let same = is.is_sealed.len in
      let whole = is.is_sealed.whole in
      let few = is.few in
      record {
        cookies = spi_long;
        cookie_octets = spi_octets;
        next = omega arith;
        exchange = omega arith;
        message = refl;
        message_octets = zeros_are_octets 4;
        suits = refl;
        told = omega (arith, same);
        some = omega (arith, same, plain_is);
        blocks = omega (arith, same, whole);
        small = omega (arith, same, plain_is, policy_long, keys_long, few);
      }

  pub reads_push : value_of (push told.spi kind flat 18 (from_start 28 flat)) ≡ Ok (
      read told.spi kind told.number (sa_text told.policy) told.keys is.signature which body zeros
      (omega arith) number_small (omega (arith, policy_long)) (omega (arith, keys_long)) (omega (arith, is.has_size, is.some)) (omega (arith, is.has_size, is.few)) is_row gives_keys)
  reads_push = push_is_read told.spi kind told.number (sa_text told.policy) told.keys is.signature which body zeros
      (omega arith) number_small (omega (arith, policy_long)) (omega (arith, keys_long)) (omega (arith, is.has_size, is.some)) (omega (arith, is.has_size, is.few)) is_row gives_keys

  -- the header is read
  has_header : header_of datagram ≡ Ok head
  has_header = ap (λ octets. value_of (header 33 (from_start 0 octets))) is.is_text ∙ ap value_of (header_written head is.sealed head_fits)

  opens : Opens datagram told.spi kek head plain
  opens = record {
    has_header = has_header;
    for_spi = refl;
    opened = subst (λ octets. IsOpened kek.key kek.iv octets plain) (sym (ap (drop 28) is.is_text ∙ drop_at (header_text head) is.sealed 28 (head_long told (length plain) spi_long)))
        (sealed-opens kek.key kek.iv plain is.sealed (inl kek_fits.key) kek_fits.iv plain_octets is.is_sealed);
  }

  -- what is read as signed is what was signed
  same_signed : take (signature_at told.spi kind told.number (sa_text told.policy) told.keys is.signature which body zeros
      (omega arith) number_small (omega (arith, policy_long)) (omega (arith, keys_long)) (omega (arith, is.has_size, is.some)) (omega (arith, is.has_size, is.few)) is_row gives_keys) flat ≡ signed_text told
  same_signed =
      ap (take _) (sym (append_assoc one (two ++ three) (four ++ replicate zeros 0) ∙ ap (λ rest. one ++ rest) (append_assoc two three (four ++ replicate zeros 0))))
      ∙ take_at (signed_text told) (four ++ replicate zeros 0) _ (omega (arith, length-append one (two ++ three), length-append two three))

  pub is_read : IsReadAs sign kind kek told body datagram
  is_read = record {
    read = _;
    reads = record { head = head; text = plain; opens = opens; is = ap (λ text. value_of (push told.spi kind text 18 (from_start 28 text))) is_flat ∙ reads_push };
    number = refl;
    gives = refl;
    keys = refl;
    signed = is.signed ∙ ap sign (ap₂ digest (sym (take_at (header_text head) is.sealed 28 (head_long told (length plain) spi_long)) ∙ ap (take 28) (sym is.is_text)) (sym same_signed));
  }
