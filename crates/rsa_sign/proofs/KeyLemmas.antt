-- What is known of the numbers of a key.
use Rattle.std.proofs.Common.{◌≡◌, ◌≢◌, ℕ, ◌+◌, ◌-◌, ◌/◌, ◌%◌, ◌^◌, ◌<◌, ◌≤◌, Bool, true, false, sym, ap, ◌∙◌, inl, inr, subst, arith, eq-eqb}
use Rattle.std.specs.Prelude.{◌==◌, ◌&&◌, nat_lt}
use Rattle.std.proofs.Math.Nat.{pow-le-pow_right}
use Rattle.std.proofs.lemmas.Bool.{cases_lt, lt-ltb, le-ltb, ne_eqb}
use Rattle.big_mod.specs.Numbers.{IsModulus}
use Rattle.rsa_sign.specs.Keys.{PublicKey, IsPublicKey}

pub public_key : (modulus exponent bits size number : ℕ) → 2048 ≤ bits → size ≤ 512 → size ≡ (bits + 7) / 8 → modulus ≡ number → number < 2 ^ bits
    → 2 ^ (bits - 1) ≤ number → 256 ^ (size - 1) ≤ number → number < 256 ^ size → 0 < exponent
    → IsPublicKey (record { modulus = modulus; exponent = exponent; bits = bits })
public_key modulus exponent bits size number fewest few octets is small large least room some = record {
  fewest = fewest;
  most = omega arith;
  large = omega (arith, is, large);
  small = omega (arith, is, small);
  least = let worth : 256 ^ (size - 1) ≡ 256 ^ ((bits + 7) / 8 - 1) = ap (λ n. 256 ^ (n - 1)) octets in omega (arith, worth, is, least);
  room = let worth : 256 ^ size ≡ 256 ^ ((bits + 7) / 8) = ap (λ n. 256 ^ n) octets in omega (arith, worth, is, room);
  some = some;
}

-- a modulus that is refused is even
pub even_from : (number bits : ℕ) → (IsModulus number → false ≡ true) → 2048 ≤ bits → 2 ^ (bits - 1) ≤ number → number % 2 ≡ 0
even_from number bits refused many large =
    let two : 2 ^ 1 ≤ 2 ^ (bits - 1) = pow-le-pow_right {n = 2} (omega arith) {i = 1} {j = bits - 1} (omega arith) in
    elim (cases_lt (number % 2) 1) [
      | inl even ↦ omega arith
      | inr odd ↦ absurd (differ (refused (omega arith, omega (arith, two, large))))
    ]
  where
    differ : false ≡ true → ⊥
    differ is = cc

-- three tests at once
pub not_long : (a b : ℕ) (one other : Bool) → a ≢ b → false ≡ ((a == b) && one && other)
not_long a b one other differ = sym (ap (λ test. (test && one) && other) (ne_eqb a b differ))

pub not_below : (a b n modulus : ℕ) (other : Bool) → a ≡ b → modulus ≤ n → false ≡ ((a == b) && nat_lt n modulus && other)
not_below a b n modulus other same large =
    sym (ap (λ test. (test && nat_lt n modulus) && other) (eq-eqb a b same) ∙ ap (λ test. (true && test) && other) (le-ltb n modulus large))

pub both_tests : (a b n modulus : ℕ) (other : Bool) → a ≡ b → n < modulus → other ≡ ((a == b) && nat_lt n modulus && other)
both_tests a b n modulus other same small =
    sym (ap (λ test. (test && nat_lt n modulus) && other) (eq-eqb a b same) ∙ ap (λ test. (true && test) && other) (lt-ltb n modulus small))

-- a number has one count of bits
pub one_count : (number these those : ℕ) → 1 ≤ these → 1 ≤ those → 2 ^ (these - 1) ≤ number → number < 2 ^ these → 2 ^ (those - 1) ≤ number
    → number < 2 ^ those → these ≡ those
one_count number these those some more large small least most =
    elim (cases_lt these those) [
      | inl less ↦ absurd (omega (arith, small, least, pow-le-pow_right {n = 2} (omega arith) {i = these} {j = those - 1} (omega arith)))
      | inr past ↦ elim (cases_lt those these) [
        | inl greater ↦ absurd (omega (arith, most, large, pow-le-pow_right {n = 2} (omega arith) {i = those} {j = these - 1} (omega arith)))
        | inr none ↦ omega arith
      ]
    ]

-- two public keys of the same numbers are one
pub same_key : (these those : PublicKey) → IsPublicKey these → IsPublicKey those → these.modulus ≡ those.modulus → these.exponent ≡ those.exponent
    → these ≡ those
same_key these those one other modulus exponent =
    let fewest = one.fewest in
    let least = other.fewest in
    let bits : these.bits ≡ those.bits =
    one_count those.modulus these.bits those.bits (omega arith) (omega arith) (subst (λ n. 2 ^ (these.bits - 1) ≤ n) modulus one.large)
    (subst (λ n. n < 2 ^ these.bits) modulus one.small) other.large other.small in
    λ j. record { modulus = modulus j; exponent = exponent j; bits = bits j }
