-- A second message is not read as a fourth, and a fourth not as a second: the nonce of the one and the number of the other differ in their length.
use Rattle.std.proofs.Common.{◌≡◌, ◌≤◌, ◌<◌, ◌+◌, ◌++◌, ℕ, Bool, true, false, List, length, replicate, Result, Ok, Err, refl}
use Rattle.std.proofs.lemmas.Bool.{eqb-true, false_from_ne_true, lt-leb}
use Rattle.std.specs.Prelude.{◌==◌}
use Rattle.gd_wire.specs.Bodies as bodies
use Rattle.gd_wire.specs.Chains.{payload, payload_text}
use Rattle.gd_wire.specs.Faults.{fault_at}
use Rattle.gd_wire.specs.Readings.{Cursor, from_start, value_of}
use Rattle.group_terms.specs.declared.wires.WireFault.{WireFault}
use Rattle.group_terms.specs.declared.wires.WireWhat.TheVariants.{Kind, Length}
use Rattle.pull_msgs.specs.Readings.{FourthSaid, PullRead, SecondSaid, fourth, nonce_payload, second}
use Rattle.gd_wire.proofs.ChainLaws.{payload_written}
use Rattle.pull_msgs.proofs.MessageLemmas.{body_one, hash_read, text}

-- another kind was named than is due
other_kind : (due kind at : ℕ) (cursor : Cursor) → (kind == due) ≡ false
    → payload due (record { kind = kind; at = at }) cursor ≡ Err (fault_at (Kind kind) at)
unfolding payload
other_kind due kind at cursor differs = rw differs refl

-- octets of another length are no number, and a few are no nonce
no_number : (base at : ℕ) (octets : List ℕ) → (length octets == 4) ≡ false → value_of (bodies.sequence at (from_start base octets)) ≡ Err (fault_at Length at)
unfolding bodies.sequence bodies.due_size
no_number base at octets differs = rw differs refl

no_nonce : (base at : ℕ) (octets : List ℕ) → length octets < 8 → value_of (bodies.nonce at (from_start base octets)) ≡ Err (fault_at Length at)
unfolding bodies.nonce bodies.sized
no_nonce base at octets short = rw (lt-leb 8 (length octets) short) refl

-- what was read has no fault
no_fault : {A : Type 0} (given : Result A WireFault) (read : A) (fault : WireFault) → given ≡ Ok read → given ≡ Err fault → ⊥
no_fault (Ok value) read fault is failed = absurd (cc)
no_fault (Err other) read fault is failed = absurd (cc)

module _ (kind next : ℕ) (digest one two : List ℕ) (zeros : ℕ) (long : length digest ≡ 32) (few : zeros < 16)
    (one_fits : length one ≤ 65531) (two_fits : length two ≤ 65531) where
  abbrev whole : List ℕ
  whole = text kind next digest one two zeros long few one_fits two_fits

  abbrev later : List ℕ
  later = payload_text 0 two ++ replicate zeros 0

  abbrev one_at : ℕ
  one_at = 0 + 4 + length digest

  abbrev after_hash : Cursor
  after_hash = record { base = 28; at = one_at; left = payload_text next one ++ later }

  -- ---- as a fourth message

  other_fourth : (spi : List ℕ) → (kind == 18) ≡ false → value_of (fourth spi whole 8 (from_start 28 whole)) ≡ Err (fault_at (Kind kind) 28)
  unfolding fourth
  other_fourth spi differs =
      rw (
        hash_read kind digest (payload_text next one ++ later) long,
        other_kind 18 kind 28 after_hash differs,
      ) refl

  pub fourth_kind : (spi : List ℕ) (read : PullRead FourthSaid) → value_of (fourth spi whole 8 (from_start 28 whole)) ≡ Ok read → kind ≡ 18
  fourth_kind spi read is = by_test (kind == 18) refl
    where
      by_test : (due : Bool) → (kind == 18) ≡ due → kind ≡ 18
      by_test true same = eqb-true kind 18 same
      by_test false differs = absurd (no_fault _ read _ is (other_fourth spi differs))

  short_fourth : (spi : List ℕ) → kind ≡ 18 → (length one == 4) ≡ false
      → value_of (fourth spi whole 8 (from_start 28 whole)) ≡ Err (fault_at Length (28 + one_at + 2))
  unfolding fourth
  short_fourth spi named differs =
      rw (
        hash_read kind digest (payload_text next one ++ later) long,
        payload_written 18 next 28 one_at (record { kind = kind; at = 28 + 0 }) one later named one_fits,
        body_one kind next digest one two zeros long few one_fits two_fits 18,
        no_number (28 + one_at + 4) (28 + one_at + 2) one differs,
      ) refl

  pub no_fourth : (spi : List ℕ) (read : PullRead FourthSaid) → (length one ≡ 4 → ⊥) → value_of (fourth spi whole 8 (from_start 28 whole)) ≡ Ok read → ⊥
  no_fourth spi read differs is =
      let other : (length one == 4) ≡ false = false_from_ne_true (length one == 4) (λ same. differs (eqb-true (length one) 4 same)) in
      no_fault _ read _ is (short_fourth spi (fourth_kind spi read is) other)

  -- ---- as a second message

  other_second : (kind == 10) ≡ false → value_of (second whole 8 (from_start 28 whole)) ≡ Err (fault_at (Kind kind) 28)
  unfolding second nonce_payload
  other_second differs =
      rw (
        hash_read kind digest (payload_text next one ++ later) long,
        other_kind 10 kind 28 after_hash differs,
      ) refl

  pub second_kind : (read : PullRead SecondSaid) → value_of (second whole 8 (from_start 28 whole)) ≡ Ok read → kind ≡ 10
  second_kind read is = by_test (kind == 10) refl
    where
      by_test : (due : Bool) → (kind == 10) ≡ due → kind ≡ 10
      by_test true same = eqb-true kind 10 same
      by_test false differs = absurd (no_fault _ read _ is (other_second differs))

  short_second : kind ≡ 10 → length one < 8 → value_of (second whole 8 (from_start 28 whole)) ≡ Err (fault_at Length (28 + one_at + 2))
  unfolding second nonce_payload
  short_second named short =
      rw (
        hash_read kind digest (payload_text next one ++ later) long,
        payload_written 10 next 28 one_at (record { kind = kind; at = 28 + 0 }) one later named one_fits,
        body_one kind next digest one two zeros long few one_fits two_fits 10,
        no_nonce (28 + one_at + 4) (28 + one_at + 2) one short,
      ) refl

  pub no_second : (read : PullRead SecondSaid) → length one < 8 → value_of (second whole 8 (from_start 28 whole)) ≡ Ok read → ⊥
  no_second read short is = no_fault _ read _ is (short_second (second_kind read is) short)
