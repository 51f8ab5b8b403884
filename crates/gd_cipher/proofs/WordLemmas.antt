-- The bytes of a word of 32 bits.
use Rattle.std.proofs.Common.{◌≡◌, ◌<◌, ◌+◌, ◌*◌, ◌/◌, ◌%◌, ◌^◌, ◌∙◌, ℕ, suc, List, [], ◌∷◌, ap, refl, arith, length, drop, get_or, bit_xor, bit_or}
use Rattle.std.proofs.lemmas.Nat.{or_comm, or_shifted, xor_shr, xor_mod}
use Rattle.std.specs.Int.{w32, to_be_bytes, from_be_bytes, rotate_right}
use Rattle.byteorder.specs.Endian.{big_number, IsRead}
use Rattle.gd_cipher.specs.Blocks.{xor_all}
use Rattle.gd_cipher.specs.Words.{bytes_of}

-- the bytes of a number, one by one
four_bytes : (n a b c d : ℕ) → n / 16777216 % 256 ≡ a → n / 65536 % 256 ≡ b → n / 256 % 256 ≡ c → n % 256 ≡ d → to_be_bytes w32 n ≡ a ∷ b ∷ c ∷ d ∷ []
four_bytes n a b c d first second third fourth = λ i. first i ∷ second i ∷ third i ∷ fourth i ∷ []

-- bytes put together and taken apart again
pub bytes_of_word : (n a b c d : ℕ) → a < 256 → b < 256 → c < 256 → d < 256 → n ≡ from_be_bytes w32 (a ∷ b ∷ c ∷ d ∷ []) → to_be_bytes w32 n ≡ a ∷ b ∷ c ∷ d ∷ []
bytes_of_word n a b c d la lb lc ld e =
    let sum : n ≡ a * 16777216 + b * 65536 + c * 256 + d = e in
    four_bytes n a b c d (omega arith) (omega arith) (omega arith) (omega arith)

xor_byte : (k x y : ℕ) → bit_xor x y / 2 ^ k % 256 ≡ bit_xor (x / 2 ^ k % 256) (y / 2 ^ k % 256)
xor_byte k x y = ap (λ (z : ℕ). z % 256) (xor_shr x y k) ∙ xor_mod (x / 2 ^ k) (y / 2 ^ k) 8

-- the bytes of a sum are the sums of the bytes
pub xor_bytes : (x y : ℕ) → to_be_bytes w32 (bit_xor x y) ≡ xor_all (to_be_bytes w32 x) (to_be_bytes w32 y)
xor_bytes x y = λ i. xor_byte 24 x y i ∷ xor_byte 16 x y i ∷ xor_byte 8 x y i ∷ xor_mod x y 8 i ∷ []

-- words read from bytes have these
pub bytes_read : (words bytes : List ℕ) → length bytes ≡ 4 * length words → ((i : ℕ) → get_or bytes i 0 < 256) → IsRead big_number 4 bytes words → bytes_of words ≡ bytes
bytes_read [] [] len small read = refl
bytes_read [] (a ∷ bytes) len small read = absurd (omega arith)
bytes_read (word ∷ words) [] len small read = absurd (omega arith)
bytes_read (word ∷ words) (a ∷ []) len small read = absurd (omega arith)
bytes_read (word ∷ words) (a ∷ b ∷ []) len small read = absurd (omega arith)
bytes_read (word ∷ words) (a ∷ b ∷ c ∷ []) len small read = absurd (omega arith)
bytes_read (word ∷ words) (a ∷ b ∷ c ∷ d ∷ bytes) len small read =
    let whole : word ≡ a * 256 ^ 3 + (b * 256 ^ 2 + (c * 256 ^ 1 + (d * 1 + 0))) = read 0 (omega arith) in
    let p : a < 256 = small 0 in
    let q : b < 256 = small 1 in
    let r : c < 256 = small 2 in
    let s : d < 256 = small 3 in
    let one : word / 256 ^ 3 % 256 ≡ a = omega (arith, whole, p, q, r, s) in
    let two : word / 256 ^ 2 % 256 ≡ b = omega (arith, whole, p, q, r, s) in
    let three : word / 256 % 256 ≡ c = omega (arith, whole, p, q, r, s) in
    let four : word % 256 ≡ d = omega (arith, whole, p, q, r, s) in
    let rest = bytes_read words bytes (omega arith) (λ i. small (suc (suc (suc (suc i))))) (λ k h.
    let places : 4 * suc k ≡ suc (suc (suc (suc (4 * k)))) = omega arith in
    read (suc k) (omega arith) ∙ ap (λ (n : ℕ). big_number 4 (drop n (a ∷ b ∷ c ∷ d ∷ bytes))) places) in
    rw (one, two, three, four, rest) refl

module _ (x a b c d : ℕ) (is : to_be_bytes w32 x ≡ a ∷ b ∷ c ∷ d ∷ []) where
  in_row : (row : ℕ) → get_or (to_be_bytes w32 x) row 0 ≡ get_or (a ∷ b ∷ c ∷ d ∷ []) row 0
  in_row row = ap (λ (bytes : List ℕ). get_or bytes row 0) is

  pub xor_words : (y e f g h : ℕ) → to_be_bytes w32 y ≡ e ∷ f ∷ g ∷ h ∷ [] → to_be_bytes w32 (bit_xor x y) ≡ bit_xor a e ∷ bit_xor b f ∷ bit_xor c g ∷ bit_xor d h ∷ []
  xor_words y e f g h same =
      xor_bytes x y
      ∙ (λ i. bit_xor (get_or (is i) 0 0) (get_or (same i) 0 0) ∷ bit_xor (get_or (is i) 1 0) (get_or (same i) 1 0)
      ∷ bit_xor (get_or (is i) 2 0) (get_or (same i) 2 0) ∷ bit_xor (get_or (is i) 3 0) (get_or (same i) 3 0) ∷ [])

  module _ (fits : x < 2 ^ 32) where
    -- a word turned to the right: what falls out on the right comes in on the left
    turned : (right left : ℕ) → x * 2 ^ left % 2 ^ 32 ≡ x % 2 ^ right * 2 ^ left → x / 2 ^ right < 2 ^ left
        → bit_or (x / 2 ^ right) (x * 2 ^ left % 2 ^ 32) ≡ x % 2 ^ right * 2 ^ left + x / 2 ^ right
    turned right left high small =
        ap (bit_or (x / 2 ^ right)) high ∙ or_comm (x / 2 ^ right) (x % 2 ^ right * 2 ^ left) ∙ or_shifted (x % 2 ^ right) left (x / 2 ^ right) small

    -- by one byte, two and three
    pub turned_8 : to_be_bytes w32 (rotate_right w32 x 8) ≡ d ∷ a ∷ b ∷ c ∷ []
    turned_8 =
        let sum : rotate_right w32 x 8 ≡ x % 256 * 16777216 + x / 256 = turned 8 24 (omega arith) (omega arith) in
        four_bytes (rotate_right w32 x 8) d a b c (omega (arith, in_row 3)) (omega (arith, in_row 0)) (omega (arith, in_row 1)) (omega (arith, in_row 2))

    pub turned_16 : to_be_bytes w32 (rotate_right w32 x 16) ≡ c ∷ d ∷ a ∷ b ∷ []
    turned_16 =
        let sum : rotate_right w32 x 16 ≡ x % 65536 * 65536 + x / 65536 = turned 16 16 (omega arith) (omega arith) in
        four_bytes (rotate_right w32 x 16) c d a b (omega (arith, in_row 2)) (omega (arith, in_row 3)) (omega (arith, in_row 0)) (omega (arith, in_row 1))

    pub turned_24 : to_be_bytes w32 (rotate_right w32 x 24) ≡ b ∷ c ∷ d ∷ a ∷ []
    turned_24 =
        let sum : rotate_right w32 x 24 ≡ x % 16777216 * 256 + x / 16777216 = turned 24 8 (omega arith) (omega arith) in
        four_bytes (rotate_right w32 x 24) b c d a (omega (arith, in_row 1)) (omega (arith, in_row 2)) (omega (arith, in_row 3)) (omega (arith, in_row 0))
