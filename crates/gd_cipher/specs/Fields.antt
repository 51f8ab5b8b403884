-- Bytes as polynomials with coefficients 0 and 1, modulo x^8 + x^4 + x^3 + x + 1 (FIPS 197 section 4). The bit of 2^i is the coefficient of
-- x^i, and a sum of two is `bit_xor` (section 4.1). Here and in the other files of this crate FIPS 197 is the edition updated in 2023, and
-- sections and tables are numbered as there.
use Rattle.std.specs.Prelude.{ℕ, zero, suc, ◌+◌, ◌*◌, ◌/◌, ◌%◌, ◌^◌, ◌==◌, nat_lt, bit_xor, if◌then◌else◌}
use Rattle.std.specs.List.{range_with_len, position, sum_by}
use Rattle.std.specs.Option.{unwrap_or}

-- x times a polynomial: a term x^8 is the same as x^4 + x^3 + x + 1 (section 4.2)
abbrev pub times_x : ℕ → ℕ
times_x p = if nat_lt p 128 then 2 * p else bit_xor (2 * p) 0x11b

-- the sum of x^i q over the terms x^i of p below x^terms
abbrev pub sum_of_terms : ℕ → ℕ → ℕ → ℕ
sum_of_terms zero p q = 0
sum_of_terms (suc terms) p q = bit_xor (if p % 2 == 1 then q else 0) (sum_of_terms terms (p / 2) (times_x q))

-- p times q (section 4.2)
abbrev pub times : ℕ → ℕ → ℕ
times p q = sum_of_terms 8 p q

-- the byte that gives 1 with p, and 0 for 0, which has none (sections 4.4 and 5.1.1)
abbrev pub inverse : ℕ → ℕ
inverse p = unwrap_or (position (λ q. times p q == 1) (range_with_len 0 256)) 0

-- bit i of a byte, where bit 8 is bit 0 again
abbrev pub bit : ℕ → ℕ → ℕ
bit p i = p / 2 ^ (i % 8) % 2

-- the affine map (section 5.1.1)
abbrev pub affine : ℕ → ℕ
affine p = sum_by (λ i. 2 ^ i * ((bit p i + bit p (i + 4) + bit p (i + 5) + bit p (i + 6) + bit p (i + 7) + bit 0x63 i) % 2)) (range_with_len 0 8)

-- the byte whose affine map is p
abbrev pub undo_affine : ℕ → ℕ
undo_affine p = unwrap_or (position (λ q. affine q == p) (range_with_len 0 256)) 0

-- the substitution of a byte (section 5.1.1)
abbrev pub substitute : ℕ → ℕ
substitute p = affine (inverse p)

-- the byte whose substitution is p (section 5.3.2)
abbrev pub undo_substitute : ℕ → ℕ
undo_substitute p = inverse (undo_affine p)
