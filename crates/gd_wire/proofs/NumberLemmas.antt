-- Numbers as octets, the highest first: its octets and the number determine each other.
use Rattle.std.proofs.Common.{◌≡◌, ℕ, zero, suc, ◌+◌, ◌*◌, ◌/◌, ◌%◌, ◌^◌, ◌<◌, ◌≤◌, List, ◌∷◌, length, take, drop, get_or}
use Rattle.std.proofs.Common.{slice_index, sym, refl, ap, ◌∙◌, inl, inr, arith}
use Rattle.std.specs.List.{All}
use Rattle.std.specs.Int.{byte_at}
use Rattle.std.proofs.Math.Nat.{mul-add-mod_self_right, mul-add-div_right, div-eq_of_lt, mod-eq_of_lt, mul_assoc, div-one, one-le-pow}
use Rattle.std.proofs.Math.Nat.{pow-succ'}
use Rattle.std.proofs.Math.Seq.{drop-cons}
use Rattle.std.proofs.lemmas.Bool.{cases_lt}
use Rattle.std.proofs.lemmas.List.{get_or_past}
use Rattle.std.proofs.lemmas.List.Elements.{All-get_or}
use Rattle.byteorder.specs.Endian.{big_from, big_bytes}
use Rattle.byteorder.specs.Numbers.{big_from-lt}

-- each place of octets has a number below 256, those past the end too
each_small : (text : List ℕ) → All (λ octet. octet < 256) text → (k : ℕ) → slice_index text k < 256
each_small text small k = elim (cases_lt k (length text)) [
  | inl within ↦ All-get_or (λ octet. octet < 256) text k 0 within small
  | inr past ↦ let none = get_or_past text k 0 past in omega arith
]

-- a number of n octets is below 256 ^ n
pub big_from-small : (i n : ℕ) (text : List ℕ) → All (λ octet. octet < 256) text → big_from i n text < 256 ^ n
big_from-small i n text small = big_from-lt i n text (each_small text small)

byte_at-pow : (k number : ℕ) → byte_at k number ≡ number / 256 ^ k % 256
byte_at-pow zero number = ap (λ q. q % 256) (sym (div-one number))
byte_at-pow (suc k) number = refl

pow256-above : (n : ℕ) → 0 < 256 ^ n
pow256-above n = let h = one-le-pow n 256 (omega arith) in omega arith

-- what is above n octets does not change them
big_bytes-low : (n high low : ℕ) → big_bytes n (high * 256 ^ n + low) ≡ big_bytes n low
big_bytes-low zero high low = refl
big_bytes-low (suc n) high low =
    let moved : high * 256 ^ suc n ≡ high * 256 * 256 ^ n = ap (λ p. high * p) (pow-succ' 256 n) ∙ sym (mul_assoc high 256 (256 ^ n)) in
    let octet : byte_at n (high * 256 * 256 ^ n + low) ≡ byte_at n low =
    byte_at-pow n (high * 256 * 256 ^ n + low) ∙ ap (λ q. q % 256) (mul-add-div_right (pow256-above n) (high * 256) low)
    ∙ mul-add-mod_self_right high 256 (low / 256 ^ n) ∙ sym (byte_at-pow n low) in
    rw moved (λ i. octet i ∷ big_bytes-low n (high * 256) low i)

-- a number that is read has the octets that it was read from
pub big_bytes-big_from : (n i : ℕ) (text : List ℕ) → All (λ octet. octet < 256) text → i + n ≤ length text
    → big_bytes n (big_from i n text) ≡ take n (drop i text)
big_bytes-big_from zero i text small within = refl
big_bytes-big_from (suc n) i text small within =
    let first : ℕ = get_or text i 0 in
    let rest : ℕ = big_from (suc i) n text in
    let octet : byte_at n (first * 256 ^ n + rest) ≡ first =
    byte_at-pow n (first * 256 ^ n + rest) ∙ ap (λ q. q % 256) (mul-add-div_right (pow256-above n) first rest)
    ∙ ap (λ q. (first + q) % 256) (div-eq_of_lt (big_from-small (suc i) n text small))
    ∙ ap (λ q. q % 256) (omega arith) ∙ mod-eq_of_lt (each_small text small i) in
    let others : big_bytes n (first * 256 ^ n + rest) ≡ take n (drop (suc i) text) =
    big_bytes-low n first rest ∙ big_bytes-big_from n (suc i) text small (omega arith) in
    let cut : drop i text ≡ first ∷ drop (suc i) text = drop-cons text i 0 (omega arith) in
    rw cut (λ k. octet k ∷ others k)
