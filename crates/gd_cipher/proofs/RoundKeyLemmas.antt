-- That each round has a key of 16 bytes.
-- `(key : List ℕ) → AreRoundKeys key rounds words → ..` in clauses on words: a function for keys of any size needs no type parameter.
use Rattle.std.proofs.Common.{◌≡◌, ℕ, zero, suc, ◌+◌, ◌-◌, ◌*◌, ◌/◌, ◌%◌, ◌<◌, ◌≤◌, Bool, true, false, cond, ◌==◌, ◌&&◌, nat_lt, List, [], ◌∷◌, ◌++◌, length, take, drop, map, inl, inr, refl, arith, length-drop}
use Rattle.std.proofs.lemmas.List.{length-take-le}
use Rattle.std.proofs.lemmas.List.Elements.{All-cons, All-drop, All-nil, All-take}
use Rattle.gd_cipher.specs.Bytes.{IsByte, AreBytes, IsKey}
use Rattle.gd_cipher.specs.Fields.{substitute}
use Rattle.gd_cipher.specs.Blocks.{xor_all, block_at}
use Rattle.gd_cipher.specs.Schedules.{word_at, rotated, power_of_x, round_constant, changed_word, next_word, expanded, key_words, rounds_of, schedule}
use Rattle.gd_cipher.proofs.ByteLemmas.{times_x-small}
use Rattle.gd_cipher.proofs.SumLemmas.{AreBytes-xor_all}
use Rattle.gd_cipher.proofs.UndoLemmas.{AreBytes-as, AreBytes-append, AreBytes-part, AreBytes-substituted}

power_of_x-small : (n : ℕ) → power_of_x n < 256
power_of_x-small zero = omega arith
power_of_x-small (suc n) = times_x-small (power_of_x n) (power_of_x-small n)

AreBytes-round_constant : (j : ℕ) → AreBytes 4 (round_constant j)
AreBytes-round_constant j = record {
  len = refl;
  small = All-cons IsByte (power_of_x (j - 1)) (0 ∷ 0 ∷ 0 ∷ []) (power_of_x-small (j - 1))
      (All-cons IsByte 0 (0 ∷ 0 ∷ []) (omega arith) (All-cons IsByte 0 (0 ∷ []) (omega arith) (All-cons IsByte 0 [] (omega arith) (All-nil IsByte))));
}

-- the last three bytes of a word and its first one
AreBytes-rotated : (word : List ℕ) → AreBytes 4 word → AreBytes 4 (rotated word)
AreBytes-rotated word are =
    let last : AreBytes 3 (drop 1 word) = record { len = omega (arith, length-drop 1 word, are.len); small = All-drop IsByte 1 word are.small } in
    let first : AreBytes 1 (take 1 word) = record { len = length-take-le 1 word (omega (arith, are.len)); small = All-take IsByte 1 word are.small } in
    AreBytes-append 3 1 (drop 1 word) (take 1 word) last first

AreBytes-chosen : (n : ℕ) (chosen : Bool) (these those : List ℕ) → AreBytes n these → AreBytes n those → AreBytes n (cond chosen these those)
AreBytes-chosen n true these those first second = first
AreBytes-chosen n false these those first second = second

AreBytes-changed_word : (nk i : ℕ) (word : List ℕ) → AreBytes 4 word → AreBytes 4 (changed_word nk i word)
AreBytes-changed_word nk i word are =
    AreBytes-chosen 4 (i % nk == 0) (xor_all (map substitute (rotated word)) (round_constant (i / nk))) (cond (nat_lt 6 nk && (i % nk == 4)) (map substitute word) word)
    (AreBytes-xor_all 4 (map substitute (rotated word)) (round_constant (i / nk)) (AreBytes-substituted 4 (rotated word) (AreBytes-rotated word are)) (AreBytes-round_constant (i / nk)))
    (AreBytes-chosen 4 (nat_lt 6 nk && (i % nk == 4)) (map substitute word) word (AreBytes-substituted 4 word are) are)

AreBytes-next_word : (nk words : ℕ) (bytes : List ℕ) → 0 < nk → nk ≤ words → AreBytes (4 * words) bytes → AreBytes 4 (next_word nk bytes)
AreBytes-next_word nk words bytes some within are =
    let i = length bytes / 4 in
    let before : AreBytes 4 (word_at bytes (i - nk)) = AreBytes-part (4 * words) (4 * (i - nk)) 4 bytes (omega (arith, some, within, are.len)) are in
    let last : AreBytes 4 (word_at bytes (i - 1)) = AreBytes-part (4 * words) (4 * (i - 1)) 4 bytes (omega (arith, some, within, are.len)) are in
    AreBytes-xor_all 4 (word_at bytes (i - nk)) (changed_word nk i (word_at bytes (i - 1))) before (AreBytes-changed_word nk i (word_at bytes (i - 1)) last)

AreBytes-expanded : (nk more words : ℕ) (bytes : List ℕ) → 0 < nk → nk ≤ words → AreBytes (4 * words) bytes → AreBytes (4 * (words + more)) (expanded nk more bytes)
AreBytes-expanded nk zero words bytes some within are = AreBytes-as (4 * words) (4 * (words + 0)) bytes (omega arith) are
AreBytes-expanded nk (suc more) words bytes some within are =
    AreBytes-as (4 * (words + 1 + more)) (4 * (words + suc more)) (expanded nk more (bytes ++ next_word nk bytes)) (omega arith)
    (AreBytes-expanded nk more (words + 1) (bytes ++ next_word nk bytes) some (omega (arith, within))
    (AreBytes-as (4 * words + 4) (4 * (words + 1)) (bytes ++ next_word nk bytes) (omega arith)
    (AreBytes-append (4 * words) 4 bytes (next_word nk bytes) are (AreBytes-next_word nk words bytes some within are))))

-- a key of 16 or 32 bytes
module _ (key : List ℕ) (is_key : IsKey key) where
  whole_words : length key ≡ 4 * key_words key
  whole_words = elim is_key [ inl short ↦ omega (arith, short.len) | inr twice ↦ omega (arith, twice.len) ]

  some_words : 0 < key_words key
  some_words = elim is_key [ inl short ↦ omega (arith, short.len) | inr twice ↦ omega (arith, twice.len) ]

  key_bytes : AreBytes (4 * key_words key) key
  key_bytes = record { len = whole_words; small = elim is_key [ inl short ↦ short.small | inr twice ↦ twice.small ] }

  AreBytes-schedule : AreBytes (16 * (rounds_of key + 1)) (schedule key)
  AreBytes-schedule =
      AreBytes-as (4 * (key_words key + (4 * (rounds_of key + 1) - key_words key))) (16 * (rounds_of key + 1)) (schedule key) (omega arith)
      (AreBytes-expanded (key_words key) (4 * (rounds_of key + 1) - key_words key) (key_words key) key some_words (omega arith) key_bytes)

  pub AreBytes-round_key : (round : ℕ) → round ≤ rounds_of key → AreBytes 16 (block_at (schedule key) round)
  AreBytes-round_key round within = AreBytes-part (16 * (rounds_of key + 1)) (16 * round) 16 (schedule key) (omega (arith, within)) AreBytes-schedule
