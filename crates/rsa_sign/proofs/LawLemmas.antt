-- What a key pair signs is accepted.
use Rattle.std.proofs.Common.{◌≡◌, ℕ, ◌+◌, ◌*◌, ◌%◌, ◌^◌, ◌<◌, ◌≤◌, List, length, get_or, true, sym, ap, subst, ◌∙◌, arith, eq-eqb}
use Rattle.std.proofs.lemmas.Bool.{and_from, lt-ltb}
use Rattle.std.proofs.lemmas.Nat.{pow-mod, mod_below, mod-mul-add}
use Rattle.std.proofs.lemmas.Slice.Eq.{bytes_eq-Decides}
use Rattle.big_mod.specs.Numbers.{number_of, octets_of}
use Rattle.rsa_sign.specs.Keys.{KeyPair, IsPublicKey, AreExponents, octet_count}
use Rattle.rsa_sign.specs.Signatures.{message_of, signature_of, accepts}
use Rattle.rsa_sign.proofs.MessageLemmas.{message_below, length-encoded, small_message}
use Rattle.rsa_sign.proofs.PowerLemmas.{pow_pow}

-- numbers and octets, as `big_mod` has them
pub record NumbersAndOctets : Type 0 where
  pub number : (size number : ℕ) → number_of (octets_of size number) ≡ number % 256 ^ size
  pub len : (size number : ℕ) → length (octets_of size number) ≡ size
  pub are : (octets : List ℕ) → ((at : ℕ) → get_or octets at 0 < 256) → octets_of (length octets) (number_of octets) ≡ octets
  pub room : (octets : List ℕ) → ((at : ℕ) → get_or octets at 0 < 256) → number_of octets < 256 ^ length octets

pub small_left : (n worth : ℕ) → n < worth → n % worth ≡ n
small_left n worth less = ap (λ m. m % worth) (let none : n ≡ 0 * worth + n = omega arith in none) ∙ mod-mul-add 0 worth n less

-- one exponent undoes the other
pub undone : (pair : KeyPair) → AreExponents pair → (message : ℕ) → message < pair.public.modulus
    → (message ^ pair.private % pair.public.modulus) ^ pair.public.exponent % pair.public.modulus ≡ message
undone pair undo message below =
    pow-mod (message ^ pair.private) pair.public.exponent pair.public.modulus ∙
    ap (λ n. n % pair.public.modulus) (pow_pow message pair.private pair.public.exponent) ∙ undo message below

pub signed_is_accepted : (pair : KeyPair) → IsPublicKey pair.public → AreExponents pair → (digest : List ℕ) → ((at : ℕ) → get_or digest at 0 < 256)
    → length digest ≡ 32 → NumbersAndOctets → accepts pair.public digest (signature_of pair digest) ≡ true
signed_is_accepted pair key undo digest small short laws =
    let fewest = key.fewest in
    let long : 54 ≤ octet_count pair.public.bits = omega arith in
    let below : number_of (message_of pair.public digest) < pair.public.modulus =
    message_below (octet_count pair.public.bits) pair.public.modulus digest long short small laws.room key.least in
    let least : number_of (message_of pair.public digest) ^ pair.private % pair.public.modulus < pair.public.modulus =
    mod_below (number_of (message_of pair.public digest) ^ pair.private) pair.public.modulus (omega (arith, below)) in
    let number : number_of (signature_of pair digest) ≡ number_of (message_of pair.public digest) ^ pair.private % pair.public.modulus =
    laws.number (octet_count pair.public.bits) (number_of (message_of pair.public digest) ^ pair.private % pair.public.modulus) ∙
    small_left (number_of (message_of pair.public digest) ^ pair.private % pair.public.modulus) (256 ^ octet_count pair.public.bits) (omega (arith, least, key.room)) in
    let back : number_of (signature_of pair digest) ^ pair.public.exponent % pair.public.modulus ≡ number_of (message_of pair.public digest) =
    ap (λ n. n ^ pair.public.exponent % pair.public.modulus) number ∙ undone pair undo (number_of (message_of pair.public digest)) below in
    let whole : octets_of (octet_count pair.public.bits) (number_of (signature_of pair digest) ^ pair.public.exponent % pair.public.modulus) ≡ message_of pair.public digest =
    ap (octets_of (octet_count pair.public.bits)) back ∙
    ap (λ n. octets_of n (number_of (message_of pair.public digest))) (sym (length-encoded (octet_count pair.public.bits) digest long short)) ∙
    laws.are (message_of pair.public digest) (small_message (octet_count pair.public.bits) digest small) in
    and_from _ _
    (and_from _ _
    (eq-eqb _ _ (laws.len (octet_count pair.public.bits) (number_of (message_of pair.public digest) ^ pair.private % pair.public.modulus)))
    (lt-ltb _ _ (let P : ℕ → Type 0 = λ n. n < pair.public.modulus in subst P (sym number) least)))
    ((bytes_eq-Decides _ _).1 whole)
