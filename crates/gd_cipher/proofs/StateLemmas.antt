-- States as lists of four words.
use Rattle.std.proofs.Common.{◌≡◌, ◌≤◌, ◌+◌, ◌*◌, ◌∙◌, ℕ, zero, suc, List, [], ◌∷◌, ◌++◌, All, map, length, ap, sym, refl, arith, get_or, take, drop, bit_xor}
use Rattle.std.proofs.lemmas.List.FromFn.{fill_by_all}
use Rattle.std.proofs.lemmas.List.{get_or-drop, length-drop}
use Rattle.std.proofs.lemmas.List.Elements.{All-append, All-cons, All-nil}
use Rattle.std.specs.Int.{w32, to_be_bytes}
use Rattle.gd_cipher.specs.Bytes.{IsByte, AreBytes}
use Rattle.gd_cipher.specs.Blocks.{xor_all, block_at, mix_column, mix_by, shift_rows, undo_shift_rows}
use Rattle.gd_cipher.specs.Ciphers.{add_round_key}
use Rattle.gd_cipher.specs.Words.{byte_in, bytes_of}
use Rattle.gd_cipher.proofs.WordLemmas.{xor_bytes}

abbrev four_of : List ℕ → List ℕ
four_of xs = get_or xs 0 0 ∷ get_or xs 1 0 ∷ get_or xs 2 0 ∷ get_or xs 3 0 ∷ []

four_words : (xs : List ℕ) → length xs ≡ 4 → xs ≡ four_of xs
four_words xs len = fill_by_all (λ k. get_or xs k 0) xs 4 0 len (λ k within. refl)

-- four columns, given one by one
pub joined : (a b c d : ℕ) (xs ys zs ws : List ℕ) → to_be_bytes w32 a ≡ xs → to_be_bytes w32 b ≡ ys → to_be_bytes w32 c ≡ zs → to_be_bytes w32 d ≡ ws
    → bytes_of (a ∷ b ∷ c ∷ d ∷ []) ≡ xs ++ (ys ++ (zs ++ (ws ++ [])))
joined a b c d xs ys zs ws ea eb ec ed = λ i. ea i ++ (eb i ++ (ec i ++ (ed i ++ [])))

-- the bytes of words are bytes
byte_small : (word : ℕ) → All IsByte (to_be_bytes w32 word)
byte_small word =
    All-cons IsByte (byte_in word 0) (byte_in word 1 ∷ byte_in word 2 ∷ byte_in word 3 ∷ []) (omega arith)
    (All-cons IsByte (byte_in word 1) (byte_in word 2 ∷ byte_in word 3 ∷ []) (omega arith)
    (All-cons IsByte (byte_in word 2) (byte_in word 3 ∷ []) (omega arith) (All-cons IsByte (byte_in word 3) [] (omega arith) (All-nil IsByte))))

bytes_small : (words : List ℕ) → All IsByte (bytes_of words)
bytes_small [] = All-nil IsByte
bytes_small (word ∷ words) = All-append IsByte (to_be_bytes w32 word) (bytes_of words) (byte_small word) (bytes_small words)

pub AreBytes-state : (state : List ℕ) → length state ≡ 4 → AreBytes 16 (bytes_of state)
AreBytes-state state len = record { len = ap (λ words. length (bytes_of words)) (four_words state len); small = bytes_small state }

nothing_behind : (n : ℕ) → drop {A = ℕ} n [] ≡ []
nothing_behind zero = refl
nothing_behind (suc n) = refl

drop_bytes : (n : ℕ) (words : List ℕ) → drop (4 * n) (bytes_of words) ≡ bytes_of (drop n words)
drop_bytes zero words = refl
drop_bytes (suc n) [] = nothing_behind (4 * suc n)
drop_bytes (suc n) (word ∷ words) =
    let more : 4 * suc n ≡ suc (suc (suc (suc (4 * n)))) = omega arith in
    ap (λ (k : ℕ). drop k (bytes_of (word ∷ words))) more ∙ drop_bytes n words

take_bytes : (words : List ℕ) → 4 ≤ length words → take 16 (bytes_of words) ≡ bytes_of (four_of words)
take_bytes [] enough = absurd (omega (arith, enough))
take_bytes (a ∷ []) enough = absurd (omega (arith, enough))
take_bytes (a ∷ b ∷ []) enough = absurd (omega (arith, enough))
take_bytes (a ∷ b ∷ c ∷ []) enough = absurd (omega (arith, enough))
take_bytes (a ∷ b ∷ c ∷ d ∷ words) enough = refl

-- the key of a round has the bytes of four words
pub key_block : (words : List ℕ) (round : ℕ) → 4 * (round + 1) ≤ length words
    → block_at (bytes_of words) round ≡ bytes_of (get_or words (4 * round) 0 ∷ get_or words (4 * round + 1) 0 ∷ get_or words (4 * round + 2) 0 ∷ get_or words (4 * round + 3) 0 ∷ [])
key_block words round enough =
    let behind : List ℕ = drop (4 * round) words in
    let first : get_or behind 0 0 ≡ get_or words (4 * round) 0 = get_or-drop (4 * round) words 0 0 ∙ ap (λ (n : ℕ). get_or words n 0) (omega arith) in
    ap (take 16) (ap (λ (n : ℕ). drop n (bytes_of words)) (omega arith) ∙ drop_bytes (4 * round) words)
    ∙ take_bytes behind (simp length-drop (omega arith))
    ∙ (λ i. bytes_of (first i ∷ get_or-drop (4 * round) words 1 0 i ∷ get_or-drop (4 * round) words 2 0 i ∷ get_or-drop (4 * round) words 3 0 i ∷ []))

-- two states added
pub added_states : (these those : List ℕ) → length these ≡ 4 → length those ≡ 4
    → bytes_of (bit_xor (get_or these 0 0) (get_or those 0 0) ∷ bit_xor (get_or these 1 0) (get_or those 1 0) ∷ bit_xor (get_or these 2 0) (get_or those 2 0) ∷ bit_xor (get_or these 3 0) (get_or those 3 0) ∷ [])
    ≡ xor_all (bytes_of these) (bytes_of those)
added_states these those len other =
    joined _ _ _ _ _ _ _ _ (xor_bytes (get_or these 0 0) (get_or those 0 0)) (xor_bytes (get_or these 1 0) (get_or those 1 0)) (xor_bytes (get_or these 2 0) (get_or those 2 0)) (xor_bytes (get_or these 3 0) (get_or those 3 0))
    ∙ (λ i. xor_all (bytes_of (sym (four_words these len) i)) (bytes_of (sym (four_words those other) i)))

module _ (state words : List ℕ) (round : ℕ) (len : length state ≡ 4) (enough : 4 * (round + 1) ≤ length words) where
  abbrev word : ℕ → ℕ
  word i = get_or words (4 * round + i) 0

  first_word : get_or words (4 * round) 0 ≡ word 0
  first_word = ap (λ (n : ℕ). get_or words n 0) (omega arith)

  -- the key of the round, added word by word
  pub keyed_state : bytes_of (bit_xor (get_or state 0 0) (get_or words (4 * round) 0) ∷ bit_xor (get_or state 1 0) (word 1) ∷ bit_xor (get_or state 2 0) (word 2) ∷ bit_xor (get_or state 3 0) (word 3) ∷ [])
      ≡ add_round_key (bytes_of words) round (bytes_of state)
  keyed_state =
      added_states state (get_or words (4 * round) 0 ∷ word 1 ∷ word 2 ∷ word 3 ∷ []) len refl
      ∙ ap (xor_all (bytes_of state)) (sym (key_block words round enough))

  module _ (rule : ℕ → ℕ) (p q r s a b c d : ℕ) where
    -- the column whose rows come from these columns of the state, and the word of the key that is added
    abbrev from : ℕ → ℕ → ℕ → ℕ → ℕ → List ℕ
    from i j k l key = xor_all (mix_column p q r s (rule (byte_in (get_or state i 0) 0)) (rule (byte_in (get_or state j 0) 1)) (rule (byte_in (get_or state k 0) 2)) (rule (byte_in (get_or state l 0) 3))) (to_be_bytes w32 key)

    pub forward_state : to_be_bytes w32 a ≡ from 0 1 2 3 (get_or words (4 * round) 0) → to_be_bytes w32 b ≡ from 1 2 3 0 (word 1)
        → to_be_bytes w32 c ≡ from 2 3 0 1 (word 2) → to_be_bytes w32 d ≡ from 3 0 1 2 (word 3)
        → bytes_of (a ∷ b ∷ c ∷ d ∷ []) ≡ add_round_key (bytes_of words) round (mix_by p q r s (shift_rows (map rule (bytes_of state))))
    forward_state ea eb ec ed =
        joined a b c d _ _ _ _ ea eb ec ed
        ∙ (λ i. xor_all (mix_by p q r s (shift_rows (map rule (bytes_of (sym (four_words state len) i))))) (sym (key_block words round enough) i))

    pub backward_state : to_be_bytes w32 a ≡ from 0 3 2 1 (get_or words (4 * round) 0) → to_be_bytes w32 b ≡ from 1 0 3 2 (word 1)
        → to_be_bytes w32 c ≡ from 2 1 0 3 (word 2) → to_be_bytes w32 d ≡ from 3 2 1 0 (word 3)
        → bytes_of (a ∷ b ∷ c ∷ d ∷ []) ≡ add_round_key (bytes_of words) round (mix_by p q r s (undo_shift_rows (map rule (bytes_of state))))
    backward_state ea eb ec ed =
        joined a b c d _ _ _ _ ea eb ec ed
        ∙ (λ i. xor_all (mix_by p q r s (undo_shift_rows (map rule (bytes_of (sym (four_words state len) i))))) (sym (key_block words round enough) i))
