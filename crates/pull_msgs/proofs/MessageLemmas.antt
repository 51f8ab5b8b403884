-- The payloads of a message that was written are read.
use Rattle.std.proofs.Common.{◌≡◌, ◌≤◌, ◌<◌, ◌+◌, ◌-◌, ◌∙◌, ℕ, List, [], ◌++◌, length, take, drop, replicate, Option, Some, None, Ok, refl, ap, sym, subst, arith, append_assoc, length-append}
use Rattle.std.proofs.lemmas.List.{take_at, drop_at, drop-drop}
use Rattle.std.specs.Prelude.{Bool, true, false, IsSome}
use Rattle.std.specs.Str.{bytes_eq}
use Rattle.gd_wire.specs.declared.chains.Part.{Part}
use Rattle.gd_wire.specs.Bodies as bodies
use Rattle.gd_wire.specs.Bodies.{sequence_text, identification_text}
use Rattle.gd_wire.specs.Chains.{payload, payload_text, body_of, named_first}
use Rattle.gd_wire.specs.Readings.{Cursor, Reading, ◌>>◌, check, give, from_start, value_of}
use Rattle.gd_wire.proofs.BodyLemmas.{hash_written, identification_written, nonce_written, sequence_written}
use Rattle.gd_wire.proofs.ChainLaws.{end_written, payload_written, written_body}
use Rattle.gd_wire.proofs.OctetLemmas.{same_octets}
use Rattle.group_terms.specs.declared.paths.Keyed.{Keyed}
use Rattle.group_terms.specs.declared.wires.WireWhat.TheVariants.{Value}
use Rattle.kd_wire.specs.Bodies.{kd_view}
use Rattle.kd_wire.specs.Texts.{reply_kd}
use Rattle.kd_wire.specs.declared.spis.SpiPlaces.{SpiPlaces}
use Rattle.sa_wire.specs.Policies.{sa, option_kek, option_tek}
use Rattle.sa_wire.specs.declared.places.PlacedKek.{PlacedKek}
use Rattle.sa_wire.specs.declared.places.PlacedTek.{PlacedTek}
use Rattle.sa_wire.specs.declared.policies.SaPolicy.{SaPolicy}
use Rattle.sa_wire.proofs.PlacedLemmas.{placed_from}
use Rattle.pull_msgs.specs.Readings.{FourthSaid, PullRead, hash_payload, nonce_payload, covered, both_policies, policies, maybe_gap}
use Rattle.pull_msgs.specs.Readings.{first, second, third, fourth}

-- ---- the HASH

-- it is read, whatever comes after it
pub hash_read : (kind : ℕ) (digest later : List ℕ) → length digest ≡ 32
    → hash_payload (payload_text kind digest ++ later) 8 (from_start 28 (payload_text kind digest ++ later)) ≡ Ok (
      (digest, 0 + 4 + length digest, record { kind = kind; at = 28 + 0 }),
      record { base = 28; at = 0 + 4 + length digest; left = later },
    )
unfolding hash_payload
hash_read kind digest later long =
    let text : List ℕ = payload_text kind digest ++ later in
    rw (
      payload_written 8 kind 28 0 (named_first 8) digest later refl (omega (arith, long)),
      ap (λ octets. value_of (bodies.hash 30 (from_start 32 octets))) (written_body text 8 kind 28 0 digest later refl) ∙ hash_written 32 30 digest long,
    ) refl

-- ---- a HASH alone

module _ (digest : List ℕ) (zeros : ℕ) (long : length digest ≡ 32) (few : zeros < 16) where
  abbrev alone : List ℕ
  alone = payload_text 0 digest ++ replicate zeros 0

  pub third_is_read : value_of (third alone 8 (from_start 28 alone)) ≡ Ok (record { hash = digest; covered = []; said = tt })
  unfolding third maybe_gap covered
  third_is_read =
      let none : (0 + 4 + length digest) - (0 + 4 + length digest) ≡ 0 = omega arith in
      rw (
        hash_read 0 digest (replicate zeros 0) long,
        end_written zeros (record { kind = 0; at = 28 }) (record { base = 28; at = 0 + 4 + length digest; left = replicate zeros 0 }) few refl refl,
      ) (ap (λ size. Ok (record { hash = digest; covered = take size (drop (0 + 4 + length digest) alone); said = tt })) none)

-- ---- a HASH and two payloads

module _ (kind next : ℕ) (digest one two : List ℕ) (zeros : ℕ) (long : length digest ≡ 32) (few : zeros < 16)
    (one_fits : length one ≤ 65531) (two_fits : length two ≤ 65531) where
  abbrev end : List ℕ
  end = replicate zeros 0

  abbrev from_two : List ℕ
  from_two = payload_text 0 two ++ end

  abbrev from_one : List ℕ
  from_one = payload_text next one ++ from_two

  abbrev pub text : List ℕ
  text = payload_text kind digest ++ from_one

  -- the places of the payloads after the first
  abbrev one_at : ℕ
  one_at = 0 + 4 + length digest

  abbrev two_at : ℕ
  two_at = one_at + 4 + length one

  abbrev end_at : ℕ
  end_at = two_at + 4 + length two

  abbrev part : ℕ → ℕ → ℕ → Part
  part kind at size = record { kind = kind; at = 28 + at; start = at + 4; length = size }

  rest_one : drop one_at text ≡ from_one
  rest_one = drop_at (payload_text kind digest) from_one one_at (omega arith)

  rest_two : drop two_at text ≡ from_two
  rest_two =
      sym (drop-drop (4 + length one) one_at text ∙ ap (λ place. drop place text) (omega arith))
      ∙ ap (drop (4 + length one)) rest_one ∙ drop_at (payload_text next one) from_two (4 + length one) (omega arith)

  pub body_one : (kind : ℕ) → body_of text (part kind one_at (length one)) ≡ one
  body_one named = written_body text named next 28 one_at one from_two rest_one

  body_two : (kind : ℕ) → body_of text (part kind two_at (length two)) ≡ two
  body_two named = written_body text named 0 28 two_at two end rest_two

  -- what the HASH covers
  covered_is : take (end_at - one_at) (drop one_at text) ≡ payload_text next one ++ payload_text 0 two
  covered_is =
      ap (take (end_at - one_at)) (rest_one ∙ sym (append_assoc (payload_text next one) (payload_text 0 two) end))
      ∙ take_at (payload_text next one ++ payload_text 0 two) end (end_at - one_at)
      (omega (arith, length-append (payload_text next one) (payload_text 0 two)))

  -- the payloads, one after the other
  one_read : payload kind (record { kind = kind; at = 28 + 0 }) (record { base = 28; at = one_at; left = from_one }) ≡ Ok (
    (part kind one_at (length one), record { kind = next; at = 28 + one_at }),
    record { base = 28; at = two_at; left = from_two },
  )
  one_read = payload_written kind next 28 one_at (record { kind = kind; at = 28 + 0 }) one from_two refl one_fits

  nonce_read : 8 ≤ length one → length one ≤ 128
      → nonce_payload text (record { kind = 10; at = 28 + 0 }) (record { base = 28; at = one_at; left = from_one })
      ≡ Ok ((one, record { kind = next; at = 28 + one_at }), record { base = 28; at = two_at; left = from_two })
  unfolding nonce_payload
  nonce_read least most =
      rw (
        payload_written 10 next 28 one_at (record { kind = 10; at = 28 + 0 }) one from_two refl one_fits,
        body_one 10,
        nonce_written (28 + one_at + 4) (28 + one_at + 2) one least most,
      ) refl

  two_read : payload next (record { kind = next; at = 28 + one_at }) (record { base = 28; at = two_at; left = from_two }) ≡ Ok (
    (part next two_at (length two), record { kind = 0; at = 28 + two_at }),
    record { base = 28; at = end_at; left = end },
  )
  two_read = payload_written next 0 28 two_at (record { kind = next; at = 28 + one_at }) two end refl two_fits

  covered_read : covered text one_at (record { kind = 0; at = 28 + two_at }) (record { base = 28; at = end_at; left = end })
      ≡ Ok (payload_text next one ++ payload_text 0 two, record { base = 28; at = end_at; left = end })
  unfolding covered
  covered_read =
      rw (
        end_written zeros (record { kind = 0; at = 28 + two_at }) (record { base = 28; at = end_at; left = end }) few refl refl,
        covered_is,
      ) refl

module _ (digest ni id : List ℕ) (type zeros : ℕ) (long : length digest ≡ 32) (few : zeros < 16)
    (least : 8 ≤ length ni) (most : length ni ≤ 128) (small : length id ≤ 65000) where
  abbrev named : List ℕ
  named = identification_text type id

  abbrev first_text : List ℕ
  first_text = text 10 5 digest ni named zeros long few (omega (arith, most)) (omega (arith, small))

  pub first_is_read : value_of (first first_text 8 (from_start 28 first_text))
      ≡ Ok (record { hash = digest; covered = payload_text 5 ni ++ payload_text 0 named; said = record { ni = ni; id_type = type; id = id } })
  unfolding first
  first_is_read =
      let one_fits : length ni ≤ 65531 = omega (arith, most) in
      let two_fits : length named ≤ 65531 = omega (arith, small) in
      rw (
        hash_read 10 digest (payload_text 5 ni ++ (payload_text 0 named ++ replicate zeros 0)) long,
        nonce_read 10 5 digest ni named zeros long few one_fits two_fits least most,
        two_read 10 5 digest ni named zeros long few one_fits two_fits,
        body_two 10 5 digest ni named zeros long few one_fits two_fits 5,
        identification_written type (28 + (0 + 4 + length digest + 4 + length ni) + 4) id,
        covered_read 10 5 digest ni named zeros long few one_fits two_fits,
      ) refl

-- ---- the policies

both_read : (kek : Option PlacedKek) (tek : Option PlacedTek) (policy : SaPolicy) (base : ℕ) (cursor : Cursor)
    → option_kek kek ≡ policy.kek → option_tek tek ≡ policy.tek → IsSome policy.kek → IsSome policy.tek
    → both_policies base kek tek cursor ≡ Ok (policy, cursor)
both_read (Some kek) (Some tek) policy base cursor kek_is tek_is has_kek has_tek = λ i. Ok (record { kek = kek_is i; tek = tek_is i }, cursor)
both_read None tek policy base cursor kek_is tek_is has_kek has_tek = let none = subst IsSome (sym kek_is) has_kek in absurd (cc)
both_read (Some kek) None policy base cursor kek_is tek_is has_kek has_tek = let none = subst IsSome (sym tek_is) has_tek in absurd (cc)

pub policies_read : (policy : SaPolicy) (body : List ℕ) (base : ℕ) (cursor : Cursor) → IsSome policy.kek → IsSome policy.tek
    → sa base body ≡ Ok policy → policies base body cursor ≡ Ok (policy, cursor)
unfolding policies
policies_read policy body base cursor has_kek has_tek is =
    let placed = placed_from _ _ is in
    rw placed.1 (both_read placed.0.kek placed.0.tek policy base cursor (ap (λ (policy : SaPolicy). policy.kek) placed.2)
    (ap (λ (policy : SaPolicy). policy.tek) placed.2) has_kek has_tek)

module _ (digest nr body : List ℕ) (policy : SaPolicy) (zeros : ℕ) (long : length digest ≡ 32) (few : zeros < 16)
    (least : 8 ≤ length nr) (most : length nr ≤ 128) (small : length body ≤ 65000)
    (are_policies : (base : ℕ) (cursor : Cursor) → policies base body cursor ≡ Ok (policy, cursor)) where
  abbrev second_text : List ℕ
  second_text = text 10 1 digest nr body zeros long few (omega (arith, most)) (omega (arith, small))

  pub second_is_read : value_of (second second_text 8 (from_start 28 second_text))
      ≡ Ok (record { hash = digest; covered = payload_text 1 nr ++ payload_text 0 body; said = record { nr = nr; policy = policy } })
  unfolding second
  second_is_read =
      let one_fits : length nr ≤ 65531 = omega (arith, most) in
      let two_fits : length body ≤ 65531 = omega (arith, small) in
      let two_at : ℕ = 0 + 4 + length digest + 4 + length nr in
      rw (
        hash_read 10 digest (payload_text 1 nr ++ (payload_text 0 body ++ replicate zeros 0)) long,
        nonce_read 10 1 digest nr body zeros long few one_fits two_fits least most,
        two_read 10 1 digest nr body zeros long few one_fits two_fits,
        body_two 10 1 digest nr body zeros long few one_fits two_fits 1,
        are_policies (28 + two_at + 4) (record { base = 28; at = two_at + 4 + length body; left = replicate zeros 0 }),
        covered_read 10 1 digest nr body zeros long few one_fits two_fits,
      ) refl

-- ---- the keys

-- a value that is given after a test
abbrev checked : {A : Type 0} → Bool → ℕ → A → Reading A
checked holds at value = check holds Value at >> give value

checked_true : {A : Type 0} (holds : Bool) (at : ℕ) (value : A) (cursor : Cursor) → holds ≡ true → value_of (checked holds at value cursor) ≡ Ok value
checked_true true at value cursor holds = refl
checked_true false at value cursor holds = absurd (cc)

checked_same : {A : Type 0} (holds : Bool) (at : ℕ) (value read : A) (cursor : Cursor) → value_of (checked holds at value cursor) ≡ Ok read → read ≡ value
checked_same true at value read cursor is = cc
checked_same false at value read cursor is = absurd (cc)

module _ (digest : List ℕ) (keyed : Keyed) (zeros : ℕ) (long : length digest ≡ 32) (few : zeros < 16)
    (small : keyed.sequence < 4294967296) (keys_fit : length (reply_kd keyed) ≤ 65000) (places : ℕ → SpiPlaces) (spi_at : ℕ → ℕ)
    (placed : (base : ℕ) → (places base).lkh ≡ Some (spi_at base))
    (are_keys : (base : ℕ) → kd_view base (reply_kd keyed) ≡ Ok (record {
      tek = Some keyed.traffic;
      lkh_spi = Some keyed.spi;
      download = keyed.path;
      updates = None;
      spis = places base;
    })) where
  abbrev number : List ℕ
  number = sequence_text keyed.sequence

  abbrev fourth_text : List ℕ
  fourth_text = text 18 17 digest number (reply_kd keyed) zeros long few (omega arith) (omega (arith, keys_fit))

  abbrev pub fourth_said : PullRead FourthSaid
  fourth_said = record {
    hash = digest;
    covered = payload_text 17 number ++ payload_text 0 (reply_kd keyed);
    said = record { sequence = keyed.sequence; traffic = keyed.traffic; spi = keyed.spi; path = keyed.path };
  }

  -- with any SPI, which is compared after all else
  fourth_checked : (spi : List ℕ) → value_of (fourth spi fourth_text 8 (from_start 28 fourth_text))
      ≡ value_of (checked (bytes_eq keyed.spi spi) (spi_at (28 + (0 + 4 + length digest + 4 + 4) + 4)) fourth_said
      (record { base = 28; at = 0 + 4 + length digest + 4 + 4 + 4 + length (reply_kd keyed); left = replicate zeros 0 }))
  unfolding fourth
  fourth_checked spi =
      let one_fits : length number ≤ 65531 = omega arith in
      let two_fits : length (reply_kd keyed) ≤ 65531 = omega (arith, keys_fit) in
      let one_at : ℕ = 0 + 4 + length digest in
      let two_at : ℕ = one_at + 4 + 4 in
      rw (
        hash_read 18 digest (payload_text 17 number ++ (payload_text 0 (reply_kd keyed) ++ replicate zeros 0)) long,
        one_read 18 17 digest number (reply_kd keyed) zeros long few one_fits two_fits,
        body_one 18 17 digest number (reply_kd keyed) zeros long few one_fits two_fits 18,
        sequence_written keyed.sequence (28 + one_at + 4) (28 + one_at + 2) small,
        two_read 18 17 digest number (reply_kd keyed) zeros long few one_fits two_fits,
        body_two 18 17 digest number (reply_kd keyed) zeros long few one_fits two_fits 17,
        are_keys (28 + two_at + 4),
        placed (28 + two_at + 4),
        covered_read 18 17 digest number (reply_kd keyed) zeros long few one_fits two_fits,
      ) refl

  pub fourth_is_read : value_of (fourth keyed.spi fourth_text 8 (from_start 28 fourth_text)) ≡ Ok fourth_said
  fourth_is_read = fourth_checked keyed.spi ∙ checked_true (bytes_eq keyed.spi keyed.spi) _ fourth_said _ (same_octets keyed.spi)

  -- so nothing else is read of it
  pub fourth_gives : (spi : List ℕ) (read : PullRead FourthSaid) → value_of (fourth spi fourth_text 8 (from_start 28 fourth_text)) ≡ Ok read
      → read ≡ fourth_said
  fourth_gives spi read is = checked_same (bytes_eq keyed.spi spi) _ fourth_said read _ (sym (fourth_checked spi) ∙ is)
