-- Blocks that are filled up with zeros, or added to one byte place by place.
use Rattle.std.proofs.Common.{◌≡◌, ℕ, ◌+◌, ◌-◌, ◌≤◌, List, [], ◌∷◌, ◌++◌, length, take, drop, map, replicate, zero, suc, bit_xor, get_or, set, sym, refl, ap, ◌∙◌, inl, inr, arith}
use Rattle.std.proofs.lemmas.Bool.{cases_lt}
use Rattle.std.proofs.lemmas.List.{drop-replicate, take_all, drop_all, take-append-drop, length-append, length-map, append-nil, set_past, get_or_default}
use Rattle.std.proofs.lemmas.List.Edits.{map_over_more}
use Rattle.gd_cipher.specs.Blocks.{xor_all}

-- a block of zeros that begins with these bytes
pub zeros_behind : (xs : List ℕ) (n : ℕ) → xs ++ drop (length xs) (replicate n 0) ≡ xs ++ replicate (n - length xs) 0
zeros_behind xs n = ap (λ ys. xs ++ ys) (drop-replicate (length xs) n 0)

-- the first i numbers, each changed, and the others
abbrev pub changed_below : (ℕ → ℕ) → ℕ → List ℕ → List ℕ
changed_below f i xs = map f (take i xs) ++ drop i xs

length-changed_below : (f : ℕ → ℕ) (i : ℕ) (xs : List ℕ) → length (changed_below f i xs) ≡ length xs
length-changed_below f i xs = length-append (map f (take i xs)) (drop i xs) ∙ ap (λ n. n + length (drop i xs)) (length-map (take i xs) f) ∙ sym (length-append (take i xs) (drop i xs)) ∙ ap length (take-append-drop i xs)

changed_below-past : (f : ℕ → ℕ) (i : ℕ) (xs : List ℕ) → length xs ≤ i → changed_below f i xs ≡ map f xs
changed_below-past f i xs past = rw (take_all i xs past, drop_all i xs past) (append-nil (map f xs))

-- one more is changed
pub changed_below_more : (f : ℕ → ℕ) (xs ys : List ℕ) (i : ℕ) → ys ≡ changed_below f i xs → set ys i (f (get_or ys i 0)) ≡ changed_below f (i + 1) xs
changed_below_more f xs ys i e =
    let long : length ys ≡ length xs = ap length e ∙ length-changed_below f i xs in
    elim (cases_lt i (length xs)) [
      | inl b ↦ map_over_more f xs ys i (get_or ys i 0) b e (get_or_default ys i 0 (get_or ys i 0) (omega arith))
      | inr past ↦ set_past ys i (f (get_or ys i 0)) (omega arith) ∙ e ∙ changed_below-past f i xs past ∙ sym (changed_below-past f (i + 1) xs (omega arith))
    ]

xor_all-replicate : (xs : List ℕ) (n pad : ℕ) → length xs ≡ n → xor_all xs (replicate n pad) ≡ map (λ x. bit_xor x pad) xs
xor_all-replicate [] n pad e = refl
xor_all-replicate (x ∷ xs) zero pad e = absurd (omega arith)
xor_all-replicate (x ∷ xs) (suc n) pad e = ap (λ ys. bit_xor x pad ∷ ys) (xor_all-replicate xs n pad (omega arith))

-- all n are changed, each by the same byte
pub xor_all-changed : (xs ys : List ℕ) (i n pad : ℕ) → length ys ≡ n → n ≤ i → ys ≡ changed_below (λ x. bit_xor x pad) i xs → ys ≡ xor_all xs (replicate n pad)
xor_all-changed xs ys i n pad long past e =
    let same : length xs ≡ n = sym (length-changed_below (λ x. bit_xor x pad) i xs) ∙ sym (ap length e) ∙ long in
    e ∙ changed_below-past (λ x. bit_xor x pad) i xs (omega arith) ∙ sym (xor_all-replicate xs n pad same)
