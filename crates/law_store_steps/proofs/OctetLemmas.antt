-- What is sealed has octets alone: each of its blocks is a sum of a round key and octets of the substitution (FIPS 197 sections 5.1 and 5.2).
use Rattle.std.proofs.Common.{◌≡◌, ◌∙◌, ap, arith, cond, refl, subst, sym, ℕ, zero, suc, ◌+◌, ◌-◌, ◌*◌, ◌/◌, ◌%◌, ◌<◌, ◌≤◌}
use Rattle.std.proofs.Common.{◌==◌, ◌&&◌, nat_lt, Bool, true, false, List, [], ◌∷◌, ◌++◌, All, bit_xor, drop, get_or, length, length-append, length-drop, map}
use Rattle.std.proofs.Common.{slice_index_or, take, zip}
use Rattle.std.specs.List.{range_with_len}
use Rattle.std.proofs.Math.Seq.{take-length}
use Rattle.std.proofs.lemmas.List.{get_or-map, length-map, length-take-le}
use Rattle.std.proofs.lemmas.List.Elements.{All-append, All-cons, All-drop, All-from_get_or, All-map, All-nil, All-take}
use Rattle.std.proofs.lemmas.List.FromFn.{get_or-map-range_with_len}
use Rattle.std.proofs.lemmas.Nat.{xor_of_8}
use Rattle.std.proofs.lemmas.Slice.Zip.{get_or-zip, length-zip}
use Rattle.gd_cipher.specs.Blocks.{block_at, shift_rows, xor_all}
use Rattle.gd_cipher.specs.Bytes.{AreBytes, IsByte}
use Rattle.gd_cipher.specs.Chains.{IsSealed}
use Rattle.gd_cipher.specs.Ciphers.{after_rounds, cipher}
use Rattle.gd_cipher.specs.Fields.{substitute, times_x}
use Rattle.gd_cipher.specs.Schedules.{changed_word, expanded, key_words, next_word, power_of_x, rotated, round_constant, rounds_of, schedule, word_at}

-- ---- octets

times_x_table : map (λ p. times_x p / 256) (range_with_len 0 256) ≡ map (λ p. 0) (range_with_len 0 256)
times_x_table = refl

times_x-small : (p : ℕ) → p < 256 → times_x p < 256
times_x-small p small =
    let none : times_x p / 256 ≡ 0 =
    sym (get_or-map-range_with_len (λ p. times_x p / 256) 0 256 p p 0 small (omega arith)) ∙ ap (λ table. get_or table p 0) times_x_table
    ∙ get_or-map-range_with_len (λ p. 0) 0 256 p p 0 small (omega arith) in
    omega (arith, none)

substitute-small : (p : ℕ) → substitute p < 256
substitute-small p = omega arith

power_of_x-small : (n : ℕ) → power_of_x n < 256
power_of_x-small zero = omega arith
power_of_x-small (suc n) = times_x-small (power_of_x n) (power_of_x-small n)

-- ---- lists of so many octets

as_many : (m n : ℕ) (bytes : List ℕ) → m ≡ n → AreBytes m bytes → AreBytes n bytes
as_many m n bytes same are = record { len = are.len ∙ same; small = are.small }

both_bytes : (m n : ℕ) (these those : List ℕ) → AreBytes m these → AreBytes n those → AreBytes (m + n) (these ++ those)
both_bytes m n these those first second = record {
  len = omega (arith, length-append these those, first.len, second.len);
  small = All-append IsByte these those first.small second.small;
}

part_bytes : (n from many : ℕ) (bytes : List ℕ) → from + many ≤ n → AreBytes n bytes → AreBytes many (take many (drop from bytes))
part_bytes n from many bytes within are = record {
  len = length-take-le many (drop from bytes) (omega (arith, within, are.len, length-drop from bytes));
  small = All-take IsByte many (drop from bytes) (All-drop IsByte from bytes are.small);
}

substituted_bytes : (n : ℕ) (bytes : List ℕ) → length bytes ≡ n → AreBytes n (map substitute bytes)
substituted_bytes n bytes len = record {
  len = length-map bytes substitute ∙ len;
  small = All-map IsByte substitute bytes (λ k d within. substitute-small (slice_index_or bytes k d));
}

-- sums of octets are octets
summed_bytes : (n : ℕ) (these those : List ℕ) → AreBytes n these → AreBytes n those → AreBytes n (xor_all these those)
summed_bytes n these those first second = record {
  len = long;
  small = All-from_get_or IsByte (xor_all these those) 0 (λ k within.
      let here : k < length these = omega (arith, long, first.len) in
      let there : k < length those = omega (arith, here, same) in
      rw (sum k here) (xor_of_8 (get_or these k 0) (get_or those k 0) (first.small k 0 here) (second.small k 0 there)));
}
  where
    same : length those ≡ length these
    same = second.len ∙ sym first.len

    long : length (xor_all these those) ≡ n
    long =
        let mapped : length (xor_all these those) ≡ length (zip these those) = length-map (zip these those) (λ pair. bit_xor pair.0 pair.1) in
        omega (arith, mapped, length-zip these those, same, first.len)

    sum : (k : ℕ) → k < length these → get_or (xor_all these those) k 0 ≡ bit_xor (get_or these k 0) (get_or those k 0)
    sum k within =
        get_or-map (λ pair. bit_xor pair.0 pair.1) (zip these those) k (0, 0) 0 (omega (arith, within, length-zip these those, same))
        ∙ ap (λ pair. bit_xor pair.0 pair.1) (get_or-zip these those k (0, 0) within (omega (arith, within, same)))

-- ---- round keys

constant_bytes : (j : ℕ) → AreBytes 4 (round_constant j)
constant_bytes j = record {
  len = refl;
  small = All-cons IsByte (power_of_x (j - 1)) (0 ∷ 0 ∷ 0 ∷ []) (power_of_x-small (j - 1))
      (All-cons IsByte 0 (0 ∷ 0 ∷ []) (omega arith) (All-cons IsByte 0 (0 ∷ []) (omega arith) (All-cons IsByte 0 [] (omega arith) (All-nil IsByte))));
}

either_bytes : (n : ℕ) (chosen : Bool) (these those : List ℕ) → AreBytes n these → AreBytes n those → AreBytes n (cond chosen these those)
either_bytes n true these those first second = first
either_bytes n false these those first second = second

rotated_len : (word : List ℕ) → length word ≡ 4 → length (rotated word) ≡ 4
rotated_len word len = omega (arith, len, length-append (drop 1 word) (take 1 word), length-drop 1 word, length-take-le 1 word (omega (arith, len)))

changed_bytes : (nk i : ℕ) (word : List ℕ) → AreBytes 4 word → AreBytes 4 (changed_word nk i word)
changed_bytes nk i word are =
    either_bytes 4 (i % nk == 0) (xor_all (map substitute (rotated word)) (round_constant (i / nk)))
    (cond (nat_lt 6 nk && (i % nk == 4)) (map substitute word) word)
    (summed_bytes 4 (map substitute (rotated word)) (round_constant (i / nk)) (substituted_bytes 4 (rotated word) (rotated_len word are.len))
    (constant_bytes (i / nk)))
    (either_bytes 4 (nat_lt 6 nk && (i % nk == 4)) (map substitute word) word (substituted_bytes 4 word are.len) are)

next_bytes : (nk words : ℕ) (bytes : List ℕ) → 0 < nk → nk ≤ words → AreBytes (4 * words) bytes → AreBytes 4 (next_word nk bytes)
next_bytes nk words bytes some within are =
    let i = length bytes / 4 in
    let before : AreBytes 4 (word_at bytes (i - nk)) = part_bytes (4 * words) (4 * (i - nk)) 4 bytes (omega (arith, some, within, are.len)) are in
    let last : AreBytes 4 (word_at bytes (i - 1)) = part_bytes (4 * words) (4 * (i - 1)) 4 bytes (omega (arith, some, within, are.len)) are in
    summed_bytes 4 (word_at bytes (i - nk)) (changed_word nk i (word_at bytes (i - 1))) before (changed_bytes nk i (word_at bytes (i - 1)) last)

expanded_bytes : (nk more words : ℕ) (bytes : List ℕ) → 0 < nk → nk ≤ words → AreBytes (4 * words) bytes
    → AreBytes (4 * (words + more)) (expanded nk more bytes)
expanded_bytes nk zero words bytes some within are = as_many (4 * words) (4 * (words + 0)) bytes (omega arith) are
expanded_bytes nk (suc more) words bytes some within are =
    as_many (4 * (words + 1 + more)) (4 * (words + suc more)) (expanded nk more (bytes ++ next_word nk bytes)) (omega arith)
    (expanded_bytes nk more (words + 1) (bytes ++ next_word nk bytes) some (omega (arith, within))
    (as_many (4 * words + 4) (4 * (words + 1)) (bytes ++ next_word nk bytes) (omega arith)
    (both_bytes (4 * words) 4 bytes (next_word nk bytes) are (next_bytes nk words bytes some within are))))

-- ---- under a key of 16 octets

module _ (key : List ℕ) (is_key : AreBytes 16 key) where
  schedule_bytes : AreBytes (16 * (rounds_of key + 1)) (schedule key)
  schedule_bytes =
      as_many (4 * (key_words key + (4 * (rounds_of key + 1) - key_words key))) (16 * (rounds_of key + 1)) (schedule key) (omega arith)
      (expanded_bytes (key_words key) (4 * (rounds_of key + 1) - key_words key) (key_words key) key (omega (arith, is_key.len)) (omega arith)
      (as_many 16 (4 * key_words key) key (omega (arith, is_key.len)) is_key))

  -- an octet of a substituted state
  moved : (state : List ℕ) (i : ℕ) → slice_index_or (map substitute state) i 0 < 256
  moved [] i = omega arith
  moved (byte ∷ state) zero = substitute-small byte
  moved (byte ∷ state) (suc i) = moved state i

  -- four octets of a substituted state in front of others
  abbrev four : List ℕ → ℕ → ℕ → ℕ → ℕ → List ℕ → List ℕ
  four state i j k l rest =
      slice_index_or (map substitute state) i 0 ∷ slice_index_or (map substitute state) j 0 ∷ slice_index_or (map substitute state) k 0
      ∷ slice_index_or (map substitute state) l 0 ∷ rest

  four_bytes : (state : List ℕ) (i j k l : ℕ) (rest : List ℕ) → All IsByte rest → All IsByte (four state i j k l rest)
  four_bytes state i j k l rest small =
      let byte : ℕ → ℕ = λ i. slice_index_or (map substitute state) i 0 in
      All-cons IsByte (byte i) (byte j ∷ byte k ∷ byte l ∷ rest) (moved state i)
      (All-cons IsByte (byte j) (byte k ∷ byte l ∷ rest) (moved state j)
      (All-cons IsByte (byte k) (byte l ∷ rest) (moved state k) (All-cons IsByte (byte l) rest (moved state l) small)))

  shifted_bytes : (state : List ℕ) → AreBytes 16 (shift_rows (map substitute state))
  shifted_bytes state =
      let last = four state 12 1 6 11 [] in
      let third = four state 8 13 2 7 last in
      record {
        len = refl;
        small = four_bytes state 0 5 10 15 (four state 4 9 14 3 third)
            (four_bytes state 4 9 14 3 third (four_bytes state 8 13 2 7 last (four_bytes state 12 1 6 11 [] (All-nil IsByte))));
      }

  cipher_bytes : (block : List ℕ) → AreBytes 16 (cipher key block)
  cipher_bytes block =
      let state = after_rounds (schedule key) (rounds_of key - 1) block in
      summed_bytes 16 (shift_rows (map substitute state)) (block_at (schedule key) (rounds_of key)) (shifted_bytes state)
      (part_bytes (16 * (rounds_of key + 1)) (16 * rounds_of key) 16 (schedule key) (omega arith) schedule_bytes)

  -- ---- the last block

  drop_after : (front rest : List ℕ) (n k : ℕ) → k ≡ length front + n → drop k (front ++ rest) ≡ drop n rest
  drop_after [] rest n k is =
      let same : k ≡ n = omega (arith, is) in
      ap (λ k. drop k rest) same
  drop_after (item ∷ front) rest n zero is = absurd (omega (arith, is))
  drop_after (item ∷ front) rest n (suc k) is = drop_after front rest n k (omega (arith, is))

  -- of what ends with a sealed text the last 16 octets are its last block
  pub last_bytes : (front iv text sealed : List ℕ) → 16 ≤ length text → IsSealed key iv text sealed
      → AreBytes 16 (drop (length (front ++ sealed) - 16) (front ++ sealed))
  last_bytes front iv text sealed some is =
      let i = length text / 16 - 1 in
      let at : 16 * i + 16 ≡ length sealed = omega (arith, some, is.whole, is.len) in
      let size : length (drop (16 * i) sealed) ≡ 16 = omega (arith, at, length-drop (16 * i) sealed) in
      let whole : take 16 (drop (16 * i) sealed) ≡ drop (16 * i) sealed =
      ap (λ n. take n (drop (16 * i) sealed)) (sym size) ∙ take-length (drop (16 * i) sealed) in
      let end : drop (length (front ++ sealed) - 16) (front ++ sealed) ≡ drop (16 * i) sealed =
      drop_after front sealed (16 * i) (length (front ++ sealed) - 16) (omega (arith, at, length-append front sealed)) in
      subst (AreBytes 16) (sym (is.blocks i (omega (arith, at, is.len))) ∙ whole ∙ sym end) (cipher_bytes _)
