-- That mixing a column can be undone.
-- `row_by_bytes` and `map_back` (UndoLemmas) are stated for any function: with `times 14` or `substitute` written out, terms over a variable grow at each step.
use Rattle.std.proofs.Common.{◌≡◌, ℕ, zero, suc, ◌+◌, ◌*◌, ◌/◌, ◌%◌, ◌<◌, Bool, true, false, [], ◌∷◌, map, bit_xor, ◌==◌, cond, refl, ap, ap₂, sym, ◌∙◌, arith}
use lib.Bits.{xor_assoc, xor_zero_r}
use Rattle.std.specs.List.{range_with_len}
use Rattle.std.proofs.lemmas.Nat.{xor_comm, xor_of_8, xor_block, xor_shr}
use Rattle.gd_cipher.specs.Fields.{times, times_x, sum_of_terms}
use Rattle.gd_cipher.specs.Blocks.{row_times, mix_column}
use Rattle.gd_cipher.proofs.ByteLemmas.{each_byte, times_x-by_bits, times_x-small}

xor_swap : (a b c d : ℕ) → bit_xor (bit_xor a b) (bit_xor c d) ≡ bit_xor (bit_xor a c) (bit_xor b d)
xor_swap a b c d =
    xor_assoc a b (bit_xor c d) ∙ ap (bit_xor a) (sym (xor_assoc b c d) ∙ ap (λ n. bit_xor n d) (xor_comm b c) ∙ xor_assoc c b d) ∙ sym (xor_assoc a c (bit_xor b d))

xor-double : (a b : ℕ) → bit_xor a b * 2 ≡ bit_xor (a * 2) (b * 2)
xor-double a b =
    let long : bit_xor (a * 2 + 0) (b * 2 + 0) ≡ bit_xor a b * 2 + 0 = xor_block 1 a b 0 0 (omega arith) (omega arith) in
    let first : a * 2 + 0 ≡ a * 2 = omega arith in
    let second : b * 2 + 0 ≡ b * 2 = omega arith in
    let short : bit_xor (a * 2) (b * 2) ≡ bit_xor a b * 2 + 0 = sym (ap₂ bit_xor first second) ∙ long in
    omega (arith, short)

-- one bit each, times the polynomial that is taken off
xor-carry : (i j : ℕ) → i < 2 → j < 2 → bit_xor i j * 0x11b ≡ bit_xor (i * 0x11b) (j * 0x11b)
xor-carry zero zero i2 j2 = refl
xor-carry zero (suc zero) i2 j2 = refl
xor-carry (suc zero) zero i2 j2 = refl
xor-carry (suc zero) (suc zero) i2 j2 = refl
xor-carry (suc (suc i)) j i2 j2 = omega (arith, i2)
xor-carry zero (suc (suc j)) i2 j2 = omega (arith, j2)
xor-carry (suc zero) (suc (suc j)) i2 j2 = omega (arith, j2)

times_x-xor : (a b : ℕ) → a < 256 → b < 256 → times_x (bit_xor a b) ≡ bit_xor (times_x a) (times_x b)
times_x-xor a b a_small b_small =
    let carry : bit_xor a b / 128 * 0x11b ≡ bit_xor (a / 128 * 0x11b) (b / 128 * 0x11b) =
    ap (λ n. n * 0x11b) (xor_shr a b 7) ∙ xor-carry (a / 128) (b / 128) (omega (arith, a_small)) (omega (arith, b_small)) in
    times_x-by_bits (bit_xor a b) (xor_of_8 a b a_small b_small)
    ∙ ap₂ bit_xor (xor-double a b) carry
    ∙ xor_swap (a * 2) (b * 2) (a / 128 * 0x11b) (b / 128 * 0x11b)
    ∙ sym (ap₂ bit_xor (times_x-by_bits a a_small) (times_x-by_bits b b_small))

chosen-xor : (chosen : Bool) (a b : ℕ) → cond chosen (bit_xor a b) 0 ≡ bit_xor (cond chosen a 0) (cond chosen b 0)
chosen-xor true a b = refl
chosen-xor false a b = refl

sum_of_terms-xor : (terms p a b : ℕ) → a < 256 → b < 256 → sum_of_terms terms p (bit_xor a b) ≡ bit_xor (sum_of_terms terms p a) (sum_of_terms terms p b)
sum_of_terms-xor zero p a b a_small b_small = refl
sum_of_terms-xor (suc terms) p a b a_small b_small =
    ap₂ bit_xor (chosen-xor (p % 2 == 1) a b)
    (ap (sum_of_terms terms (p / 2)) (times_x-xor a b a_small b_small) ∙ sum_of_terms-xor terms (p / 2) (times_x a) (times_x b) (times_x-small a a_small) (times_x-small b b_small))
    ∙ xor_swap (cond (p % 2 == 1) a 0) (cond (p % 2 == 1) b 0) (sum_of_terms terms (p / 2) (times_x a)) (sum_of_terms terms (p / 2) (times_x b))

chosen-small : (chosen : Bool) (a : ℕ) → a < 256 → cond chosen a 0 < 256
chosen-small true a small = small
chosen-small false a small = omega arith

sum_of_terms-small : (terms p a : ℕ) → a < 256 → sum_of_terms terms p a < 256
sum_of_terms-small zero p a small = omega arith
sum_of_terms-small (suc terms) p a small =
    xor_of_8 (cond (p % 2 == 1) a 0) (sum_of_terms terms (p / 2) (times_x a)) (chosen-small (p % 2 == 1) a small) (sum_of_terms-small terms (p / 2) (times_x a) (times_x-small a small))

pub times-small : (p a : ℕ) → a < 256 → times p a < 256
times-small p = sum_of_terms-small 8 p

-- a function that maps bytes to bytes, and sums to sums
record IsAdditive (f : ℕ → ℕ) : Type 0 where
  small : (a : ℕ) → a < 256 → f a < 256
  sums : (a b : ℕ) → a < 256 → b < 256 → f (bit_xor a b) ≡ bit_xor (f a) (f b)

IsAdditive-times : (p : ℕ) → IsAdditive (times p)
IsAdditive-times p = record { small = times-small p; sums = sum_of_terms-xor 8 p }

abbrev four : ℕ → ℕ → ℕ → ℕ → ℕ
four a b c d = bit_xor (bit_xor a b) (bit_xor c d)

four-small : (a b c d : ℕ) → a < 256 → b < 256 → c < 256 → d < 256 → four a b c d < 256
four-small a b c d a_small b_small c_small d_small = xor_of_8 (bit_xor a b) (bit_xor c d) (xor_of_8 a b a_small b_small) (xor_of_8 c d c_small d_small)

four-xor : (a b c d e f g h : ℕ) → bit_xor (four a b c d) (four e f g h) ≡ four (bit_xor a e) (bit_xor b f) (bit_xor c g) (bit_xor d h)
four-xor a b c d e f g h = xor_swap (bit_xor a b) (bit_xor c d) (bit_xor e f) (bit_xor g h) ∙ ap₂ bit_xor (xor_swap a b e f) (xor_swap c d g h)

additive-four : (f : ℕ → ℕ) → IsAdditive f → (a b c d : ℕ) → a < 256 → b < 256 → c < 256 → d < 256 → f (four a b c d) ≡ four (f a) (f b) (f c) (f d)
additive-four f additive a b c d a_small b_small c_small d_small =
    additive.sums (bit_xor a b) (bit_xor c d) (xor_of_8 a b a_small b_small) (xor_of_8 c d c_small d_small)
    ∙ ap₂ bit_xor (additive.sums a b a_small b_small) (additive.sums c d c_small d_small)

-- a sum of sums, row by row or column by column
transposed : (a b c d e f g h i j k l m n o p : ℕ) →
    four (four a b c d) (four e f g h) (four i j k l) (four m n o p) ≡ four (four a e i m) (four b f j n) (four c g k o) (four d h l p)
transposed a b c d e f g h i j k l m n o p =
    ap₂ bit_xor (four-xor a b c d e f g h) (four-xor i j k l m n o p)
    ∙ four-xor (bit_xor a e) (bit_xor b f) (bit_xor c g) (bit_xor d h) (bit_xor i m) (bit_xor j n) (bit_xor k o) (bit_xor l p)

-- a row times a mixed column, by what each byte of the column gives
module _ (two three one : ℕ → ℕ) (twos : IsAdditive two) (threes : IsAdditive three) (ones : IsAdditive one) (p q r s : ℕ → ℕ) (ps : IsAdditive p) (qs : IsAdditive q) (rs : IsAdditive r) (ss : IsAdditive s) where
  row_by_bytes : (a b c d : ℕ) → a < 256 → b < 256 → c < 256 → d < 256 →
      four (p (four (two a) (three b) (one c) (one d))) (q (four (one a) (two b) (three c) (one d))) (r (four (one a) (one b) (two c) (three d))) (s (four (three a) (one b) (one c) (two d)))
      ≡ four (four (p (two a)) (q (one a)) (r (one a)) (s (three a))) (four (p (three b)) (q (two b)) (r (one b)) (s (one b)))
      (four (p (one c)) (q (three c)) (r (two c)) (s (one c))) (four (p (one d)) (q (one d)) (r (three d)) (s (two d)))
  row_by_bytes a b c d a_small b_small c_small d_small =
      ap₂ bit_xor
      (ap₂ bit_xor
      (additive-four p ps (two a) (three b) (one c) (one d) (twos.small a a_small) (threes.small b b_small) (ones.small c c_small) (ones.small d d_small))
      (additive-four q qs (one a) (two b) (three c) (one d) (ones.small a a_small) (twos.small b b_small) (threes.small c c_small) (ones.small d d_small)))
      (ap₂ bit_xor
      (additive-four r rs (one a) (one b) (two c) (three d) (ones.small a a_small) (ones.small b b_small) (twos.small c c_small) (threes.small d d_small))
      (additive-four s ss (three a) (one b) (one c) (two d) (threes.small a a_small) (ones.small b b_small) (ones.small c c_small) (twos.small d d_small)))
      ∙ transposed (p (two a)) (p (three b)) (p (one c)) (p (one d)) (q (one a)) (q (two b)) (q (three c)) (q (one d)) (r (one a)) (r (one b)) (r (two c)) (r (three d))
      (s (three a)) (s (one b)) (s (one c)) (s (two d))

  -- the same where it was computed what each byte gives
  undo_row : (f g h j : ℕ → ℕ) →
      map (λ n. four (p (two n)) (q (one n)) (r (one n)) (s (three n))) (range_with_len 0 256) ≡ map f (range_with_len 0 256) →
      map (λ n. four (p (three n)) (q (two n)) (r (one n)) (s (one n))) (range_with_len 0 256) ≡ map g (range_with_len 0 256) →
      map (λ n. four (p (one n)) (q (three n)) (r (two n)) (s (one n))) (range_with_len 0 256) ≡ map h (range_with_len 0 256) →
      map (λ n. four (p (one n)) (q (one n)) (r (three n)) (s (two n))) (range_with_len 0 256) ≡ map j (range_with_len 0 256) →
      (a b c d : ℕ) → a < 256 → b < 256 → c < 256 → d < 256 →
      four (p (four (two a) (three b) (one c) (one d))) (q (four (one a) (two b) (three c) (one d))) (r (four (one a) (one b) (two c) (three d))) (s (four (three a) (one b) (one c) (two d)))
      ≡ four (f a) (g b) (h c) (j d)
  undo_row f g h j fs gs hs js a b c d a_small b_small c_small d_small =
      row_by_bytes a b c d a_small b_small c_small d_small
      ∙ ap₂ bit_xor
      (ap₂ bit_xor
      (each_byte (λ n. four (p (two n)) (q (one n)) (r (one n)) (s (three n))) f fs a a_small)
      (each_byte (λ n. four (p (three n)) (q (two n)) (r (one n)) (s (one n))) g gs b b_small))
      (ap₂ bit_xor
      (each_byte (λ n. four (p (one n)) (q (three n)) (r (two n)) (s (one n))) h hs c c_small)
      (each_byte (λ n. four (p (one n)) (q (one n)) (r (three n)) (s (two n))) j js d d_small))

-- The product of the two matrices is the one that leaves a column as it is: each row has 1 at its own place, and 0 elsewhere.
module _ (a b c d : ℕ) (a_small : a < 256) (b_small : b < 256) (c_small : c < 256) (d_small : d < 256) where
  abbrev undo_by : ℕ → ℕ → ℕ → ℕ → ℕ
  undo_by p q r s = row_times p q r s (row_times 2 3 1 1 a b c d) (row_times 1 2 3 1 a b c d) (row_times 1 1 2 3 a b c d) (row_times 3 1 1 2 a b c d)

  undo_by-row : (p q r s : ℕ) → (f g h j : ℕ → ℕ) →
      map (λ n. four (times p (times 2 n)) (times q (times 1 n)) (times r (times 1 n)) (times s (times 3 n))) (range_with_len 0 256) ≡ map f (range_with_len 0 256) →
      map (λ n. four (times p (times 3 n)) (times q (times 2 n)) (times r (times 1 n)) (times s (times 1 n))) (range_with_len 0 256) ≡ map g (range_with_len 0 256) →
      map (λ n. four (times p (times 1 n)) (times q (times 3 n)) (times r (times 2 n)) (times s (times 1 n))) (range_with_len 0 256) ≡ map h (range_with_len 0 256) →
      map (λ n. four (times p (times 1 n)) (times q (times 1 n)) (times r (times 3 n)) (times s (times 2 n))) (range_with_len 0 256) ≡ map j (range_with_len 0 256) →
      undo_by p q r s ≡ four (f a) (g b) (h c) (j d)
  undo_by-row p q r s f g h j fs gs hs js =
      undo_row (times 2) (times 3) (times 1) (IsAdditive-times 2) (IsAdditive-times 3) (IsAdditive-times 1)
      (times p) (times q) (times r) (times s) (IsAdditive-times p) (IsAdditive-times q) (IsAdditive-times r) (IsAdditive-times s)
      f g h j fs gs hs js a b c d a_small b_small c_small d_small

  abbrev same : ℕ → ℕ
  same byte = byte

  abbrev none : ℕ → ℕ
  none byte = 0

  first_row : undo_by 0x0e 0x0b 0x0d 0x09 ≡ a
  first_row = undo_by-row 0x0e 0x0b 0x0d 0x09 same none none none refl refl refl refl ∙ xor_zero_r (bit_xor a 0) ∙ xor_zero_r a

  second_row : undo_by 0x09 0x0e 0x0b 0x0d ≡ b
  second_row = undo_by-row 0x09 0x0e 0x0b 0x0d none same none none refl refl refl refl ∙ xor_zero_r b

  third_row : undo_by 0x0d 0x09 0x0e 0x0b ≡ c
  third_row = undo_by-row 0x0d 0x09 0x0e 0x0b none none same none refl refl refl refl ∙ xor_zero_r c

  fourth_row : undo_by 0x0b 0x0d 0x09 0x0e ≡ d
  fourth_row = undo_by-row 0x0b 0x0d 0x09 0x0e none none none same refl refl refl refl

  pub undo_column : mix_column 0x0e 0x0b 0x0d 0x09 (row_times 2 3 1 1 a b c d) (row_times 1 2 3 1 a b c d) (row_times 1 1 2 3 a b c d) (row_times 3 1 1 2 a b c d) ≡ a ∷ b ∷ c ∷ d ∷ []
  undo_column = λ i. first_row i ∷ second_row i ∷ third_row i ∷ fourth_row i ∷ []

pub row_times-small : (p q r s a b c d : ℕ) → a < 256 → b < 256 → c < 256 → d < 256 → row_times p q r s a b c d < 256
row_times-small p q r s a b c d a_small b_small c_small d_small =
    four-small (times p a) (times q b) (times r c) (times s d) (times-small p a a_small) (times-small q b b_small) (times-small r c c_small) (times-small s d d_small)

-- a row times a sum is the sum of what it is times each
pub row_times-xor : (p q r s a b c d e f g h : ℕ) → a < 256 → b < 256 → c < 256 → d < 256 → e < 256 → f < 256 → g < 256 → h < 256
    → row_times p q r s (bit_xor a e) (bit_xor b f) (bit_xor c g) (bit_xor d h) ≡ bit_xor (row_times p q r s a b c d) (row_times p q r s e f g h)
row_times-xor p q r s a b c d e f g h la lb lc ld le lf lg lh =
    ap₂ bit_xor
    (ap₂ bit_xor ((IsAdditive-times p).sums a e la le) ((IsAdditive-times q).sums b f lb lf))
    (ap₂ bit_xor ((IsAdditive-times r).sums c g lc lg) ((IsAdditive-times s).sums d h ld lh))
    ∙ sym (four-xor (times p a) (times q b) (times r c) (times s d) (times p e) (times q f) (times r g) (times s h))
