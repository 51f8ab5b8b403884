-- Words and their bytes in the key expansion.
use Rattle.std.proofs.Common.{◌≡◌, ℕ, zero, suc, ◌+◌, ◌-◌, ◌*◌, ◌/◌, ◌%◌, ◌^◌, ◌<◌, ◌≤◌, Bool, cond, ltb, le-ltb, List, [], ◌∷◌, ◌++◌, map, length, take, drop, get_or, set, replicate, bit_or, bit_xor, sym, refl, ap, ◌∙◌, All, subst, zero-add, div-add-mod', eqb, eq-eqb, ne_eqb, ◌&&◌, lt-ltb, arith}
use Rattle.std.specs.Int.{w32, to_be_bytes, rotate_left}
use Rattle.std.proofs.Math.Nat.{div-eq_of_lt-le}
use Rattle.std.proofs.lemmas.Bool.{cond-true, cond-false, and_from, and_left, and_right}
use Rattle.std.proofs.lemmas.List.{take-append-le, take_more_set, take_all, take_at, get_or-take, length-set, length-append, length-take-le}
use Rattle.std.proofs.lemmas.List.Concat.{flat_map-append}
use Rattle.std.proofs.lemmas.List.Elements.{All-append, All-from_get_or, All-nil, All-take}
use Rattle.std.proofs.lemmas.Nat.{xor_block, or_shifted, le-div, mod_below}
use Rattle.byteorder.specs.Endian.{big_number, IsRead}
use Rattle.gd_cipher.specs.Fields.{times_x, substitute}
use Rattle.gd_cipher.specs.Blocks.{xor_all}
use Rattle.gd_cipher.specs.Schedules.{word_at, rotated, power_of_x, changed_word, next_word, expanded, key_words, rounds_of, schedule}
use Rattle.gd_cipher.specs.Bytes.{IsByte, AreBytes}
use Rattle.gd_cipher.specs.Words.{bytes_of}
use Rattle.gd_cipher.specs.Private.RoundKeys.{AreRoundKeys}
use Rattle.gd_cipher.proofs.WordLemmas.{xor_bytes, bytes_read}

-- x times a byte whose highest bit is set, by the bits that stay in a byte
pub times_x_high : (p : ℕ) → 128 ≤ p → p < 256 → bit_xor (p * 2 % 256) 0x1b ≡ times_x p
times_x_high p high fits =
    let low : p * 2 % 256 ≡ 2 * p - 256 = omega arith in
    let whole : 2 * p ≡ 1 * 2 ^ 8 + (2 * p - 256) = omega arith in
    let split : bit_xor (1 * 2 ^ 8 + (2 * p - 256)) (1 * 2 ^ 8 + 0x1b) ≡ bit_xor (2 * p - 256) 0x1b = xor_block 8 1 1 (2 * p - 256) 0x1b (omega arith) (omega arith) ∙ zero-add (bit_xor (2 * p - 256) 0x1b) in
    ap (λ (n : ℕ). bit_xor n 0x1b) low ∙ sym split ∙ ap (λ (n : ℕ). bit_xor n 0x11b) (sym whole)
    ∙ ap (λ (b : Bool). cond b (2 * p) (bit_xor (2 * p) 0x11b)) (sym (le-ltb p 128 high))

-- a word turned to the left by eight bits has its first byte last
bytes_turned : (n : ℕ) → n < 2 ^ 32 → to_be_bytes w32 (rotate_left w32 n 8) ≡ rotated (to_be_bytes w32 n)
bytes_turned n fits =
    let high : n / 2 ^ 24 < 2 ^ 8 = omega arith in
    let low : n * 2 ^ 8 % 2 ^ 32 ≡ n % 2 ^ 24 * 2 ^ 8 = omega arith in
    let whole : rotate_left w32 n 8 ≡ n % 2 ^ 24 * 2 ^ 8 + n / 2 ^ 24 = ap (λ (m : ℕ). bit_or m (n / 2 ^ 24)) low ∙ or_shifted (n % 2 ^ 24) 8 (n / 2 ^ 24) high in
    let a : (n % 2 ^ 24 * 2 ^ 8 + n / 2 ^ 24) / 256 ^ 3 % 256 ≡ n / 256 ^ 2 % 256 = omega arith in
    let b : (n % 2 ^ 24 * 2 ^ 8 + n / 2 ^ 24) / 256 ^ 2 % 256 ≡ n / 256 % 256 = omega arith in
    let c : (n % 2 ^ 24 * 2 ^ 8 + n / 2 ^ 24) / 256 % 256 ≡ n % 256 = omega arith in
    let d : (n % 2 ^ 24 * 2 ^ 8 + n / 2 ^ 24) % 256 ≡ n / 256 ^ 3 % 256 = omega arith in
    ap (to_be_bytes w32) whole ∙ rw (a, b, c, d) refl

-- a byte moved to the first place
bytes_highest : (p : ℕ) → p < 256 → to_be_bytes w32 (p * 2 ^ 24 % 2 ^ 32) ≡ p ∷ 0 ∷ 0 ∷ 0 ∷ []
bytes_highest p fits =
    let a : p * 2 ^ 24 % 2 ^ 32 / 256 ^ 3 % 256 ≡ p = omega arith in
    let b : p * 2 ^ 24 % 2 ^ 32 / 256 ^ 2 % 256 ≡ 0 = omega arith in
    let c : p * 2 ^ 24 % 2 ^ 32 / 256 % 256 ≡ 0 = omega arith in
    let d : p * 2 ^ 24 % 2 ^ 32 % 256 ≡ 0 = omega arith in
    rw (a, b, c, d) refl

length-bytes : (words : List ℕ) → length (bytes_of words) ≡ 4 * length words
length-bytes [] = refl
length-bytes (word ∷ words) = let rest = length-bytes words in omega (arith, rest)

-- the bytes of word i are at its place
word_at-bytes : (words : List ℕ) (i : ℕ) → i < length words → word_at (bytes_of words) i ≡ to_be_bytes w32 (get_or words i 0)
word_at-bytes [] i h = absurd (omega arith)
word_at-bytes (word ∷ words) zero h = refl
word_at-bytes (word ∷ words) (suc i) h =
    let places : 4 * suc i ≡ suc (suc (suc (suc (4 * i)))) = omega arith in
    ap (λ (n : ℕ). take 4 (drop n (bytes_of (word ∷ words)))) places ∙ word_at-bytes words i (omega arith)

-- the word after these, where it has the bytes that are due
next_bytes : (nk : ℕ) (words : List ℕ) (i y : ℕ) → 0 < nk → nk ≤ i → length words ≡ i → to_be_bytes w32 y ≡ xor_all (to_be_bytes w32 (get_or words (i - nk) 0)) (changed_word nk i (to_be_bytes w32 (get_or words (i - 1) 0))) → next_word nk (bytes_of words) ≡ to_be_bytes w32 y
next_bytes nk words i y some far len made =
    let count : length (bytes_of words) / 4 ≡ i = let all = length-bytes words in omega (arith, all) in
    let earlier = word_at-bytes words (i - nk) (omega arith) in
    let last = word_at-bytes words (i - 1) (omega arith) in
    ap (λ (n : ℕ). xor_all (word_at (bytes_of words) (n - nk)) (changed_word nk n (word_at (bytes_of words) (n - 1)))) count
    ∙ ap (λ (word : List ℕ). xor_all word (changed_word nk i (word_at (bytes_of words) (i - 1)))) earlier
    ∙ ap (λ (word : List ℕ). xor_all (to_be_bytes w32 (get_or words (i - nk) 0)) (changed_word nk i word)) last
    ∙ sym made

-- one word more that has the bytes that are due, in place i
pub expanded_more : (nk : ℕ) (words : List ℕ) (i y : ℕ) → 0 < nk → nk ≤ i → i < length words → to_be_bytes w32 y ≡ xor_all (to_be_bytes w32 (get_or words (i - nk) 0)) (changed_word nk i (to_be_bytes w32 (get_or words (i - 1) 0))) → expanded nk (length (set words i y) - (i + 1)) (bytes_of (take (i + 1) (set words i y))) ≡ expanded nk (length words - i) (bytes_of (take i words))
expanded_more nk words i y some far there made =
    let fewer : length (set words i y) - (i + 1) ≡ length words - (i + 1) = ap (λ (n : ℕ). n - (i + 1)) (length-set words i y) in
    let more : length words - i ≡ suc (length words - (i + 1)) = omega arith in
    let front : bytes_of (take (i + 1) (set words i y)) ≡ bytes_of (take i words) ++ to_be_bytes w32 y = ap bytes_of (take_more_set words i y there) ∙ flat_map-append (to_be_bytes w32) (take i words) (y ∷ []) in
    let earlier : get_or (take i words) (i - nk) 0 ≡ get_or words (i - nk) 0 = get_or-take i words (i - nk) 0 (omega arith) in
    let last : get_or (take i words) (i - 1) 0 ≡ get_or words (i - 1) 0 = get_or-take i words (i - 1) 0 (omega arith) in
    let same = made
    ∙ ap (λ (word : ℕ). xor_all (to_be_bytes w32 word) (changed_word nk i (to_be_bytes w32 (get_or words (i - 1) 0)))) (sym earlier)
    ∙ ap (λ (word : ℕ). xor_all (to_be_bytes w32 (get_or (take i words) (i - nk) 0)) (changed_word nk i (to_be_bytes w32 word))) (sym last) in
    let next = next_bytes nk (take i words) i y some far (length-take-le i words (omega arith)) same in
    ap (λ (n : ℕ). expanded nk n (bytes_of (take (i + 1) (set words i y)))) fewer
    ∙ ap (expanded nk (length words - (i + 1))) (front ∙ ap (λ (word : List ℕ). bytes_of (take i words) ++ word) (sym next))
    ∙ ap (λ (n : ℕ). expanded nk n (bytes_of (take i words))) (sym more)

-- expanded to the length that a key of nk words has, they are the schedule of the key
pub schedule_of_words : (nk : ℕ) (words : List ℕ) → length words ≡ 4 * (nk + 7) → expanded nk (length words - nk) (bytes_of (take nk words)) ≡ schedule (bytes_of (take nk words))
schedule_of_words nk words len =
    let front = length-take-le nk words (omega arith) in
    let count : key_words (bytes_of (take nk words)) ≡ nk = let bytes = length-bytes (take nk words) in omega (arith, bytes, front) in
    let all : length words ≡ 4 * (nk + 6 + 1) = omega arith in
    ap (λ (n : ℕ). expanded nk (n - nk) (bytes_of (take nk words))) all
    ∙ ap (λ (n : ℕ). expanded n (4 * (n + 6 + 1) - n) (bytes_of (take nk words))) (sym count)

-- the bytes that are expanded stay in front
take-expanded : (nk more n : ℕ) (bytes : List ℕ) → n ≤ length bytes → take n (expanded nk more bytes) ≡ take n bytes
take-expanded nk zero n bytes h = refl
take-expanded nk (suc more) n bytes h =
    let longer = length-append bytes (next_word nk bytes) in
    take-expanded nk more n (bytes ++ next_word nk bytes) (omega (arith, longer)) ∙ take-append-le n bytes (next_word nk bytes) h

-- the bytes of a key come first in its schedule
take-schedule : (n : ℕ) (key bytes : List ℕ) → length key ≡ n → bytes ≡ schedule key → take n bytes ≡ key
take-schedule n key bytes len whole =
    ap (take n) whole ∙ take-expanded (key_words key) (4 * (rounds_of key + 1) - key_words key) n key (omega arith) ∙ take_all n key (omega arith)

-- the schedule made of words that were read from a key and zeros after them
pub key_made : (nk behind : ℕ) (key read new : List ℕ) → length key ≡ 4 * nk → ((i : ℕ) → get_or key i 0 < 256) → length read ≡ nk → IsRead big_number 4 key read → bytes_of new ≡ schedule (bytes_of (take nk (read ++ replicate behind 0))) → (take (4 * nk) (bytes_of new) ≡ key) × (bytes_of new ≡ schedule (take (4 * nk) (bytes_of new)))
key_made nk behind key read new len small count are whole =
    let front = take_at read (replicate behind 0) nk count in
    let bytes = bytes_read read key (omega arith) small are in
    let all : bytes_of new ≡ schedule key = whole ∙ ap (λ (words : List ℕ). schedule (bytes_of words)) front ∙ ap schedule bytes in
    let first = take-schedule (4 * nk) key (bytes_of new) len all in
    (first, all ∙ ap schedule (sym first))

-- the bytes of words are bytes
to_be_bytes-small : (word i : ℕ) → i < 4 → get_or (to_be_bytes w32 word) i 0 < 256
to_be_bytes-small word zero within = omega arith
to_be_bytes-small word (suc zero) within = omega arith
to_be_bytes-small word (suc (suc zero)) within = omega arith
to_be_bytes-small word (suc (suc (suc zero))) within = omega arith
to_be_bytes-small word (suc (suc (suc (suc i)))) within = omega (arith, within)

All-to_be_bytes : (word : ℕ) → All IsByte (to_be_bytes w32 word)
All-to_be_bytes word =
    All-from_get_or IsByte (to_be_bytes w32 word) 0 (to_be_bytes-small word)

All-bytes_of : (words : List ℕ) → All IsByte (bytes_of words)
All-bytes_of [] = All-nil IsByte
All-bytes_of (word ∷ words) = All-append IsByte (to_be_bytes w32 word) (bytes_of words) (All-to_be_bytes word) (All-bytes_of words)

-- so are those of a key that is in front of them
pub AreBytes-front : (n : ℕ) (words key : List ℕ) → n ≤ 4 * length words → take n (bytes_of words) ≡ key → AreBytes n key
AreBytes-front n words key within same = subst (AreBytes n) same (record {
  len = length-take-le n (bytes_of words) (omega (arith, within, length-bytes words));
  small = All-take IsByte n (bytes_of words) (All-bytes_of words);
})

-- how many rounds a key has, by how many words
pub rounds_of_front : (nk : ℕ) (words : List ℕ) → nk ≤ length words → rounds_of (take (4 * nk) (bytes_of words)) ≡ nk + 6
rounds_of_front nk words h =
    let all = length-bytes words in
    let front = length-take-le (4 * nk) (bytes_of words) (omega arith) in
    ap (λ (n : ℕ). n / 4 + 6) front ∙ omega arith

-- the words of a schedule are the keys of all rounds of the key in front of them
pub round_keys : (nk : ℕ) (words key : List ℕ) → nk ≤ length words → bytes_of words ≡ schedule (take (4 * nk) (bytes_of words)) → take (4 * nk) (bytes_of words) ≡ key → AreRoundKeys key (nk + 6) words
round_keys nk words key enough are same = record {
  rounds_are = sym (rounds_of_front nk words enough) ∙ ap rounds_of same;
  are = are ∙ ap schedule same;
}

-- how many whole keys have been passed at the word before word i, where i is a multiple and where it is none
pub passed_at : (nk i : ℕ) → 0 < nk → nk ≤ i → i % nk ≡ 0 → (i - 1) / nk ≡ i / nk - 1
passed_at nk i some far first =
    let split = div-add-mod' i nk in
    let once : 1 ≤ i / nk = le-div 1 i nk some (omega arith) in
    let back : i / nk ≡ (i / nk - 1) + 1 = omega arith in
    let times : (i / nk - 1 + 1) * nk ≡ i = ap (λ (n : ℕ). n * nk) (sym back) ∙ omega arith in
    div-eq_of_lt-le {k = i / nk - 1} nk {m = i - 1} (omega arith) (omega arith)

pub passed_between : (nk i : ℕ) → 0 < nk → (i % nk ≡ 0 → ⊥) → (i - 1) / nk ≡ i / nk
passed_between nk i some other =
    let split = div-add-mod' i nk in
    let rest = mod_below i nk some in
    div-eq_of_lt-le {k = i / nk} nk {m = i - 1} (omega arith) (omega arith)

-- the power for the next multiple
pub power_more : (nk i power : ℕ) → 0 < nk → nk ≤ i → i % nk ≡ 0 → power ≡ power_of_x (i / nk - 1) → times_x power ≡ power_of_x (i / nk)
power_more nk i power some far first due =
    let once : 1 ≤ i / nk = le-div 1 i nk some (omega arith) in
    let back : suc (i / nk - 1) ≡ i / nk = omega arith in
    ap times_x due ∙ ap power_of_x back

-- what is added to an earlier word, by the place: at a multiple, at 4 more than one in a long key, and elsewhere in a short key and in any
pub changed_first : (nk i word changed power made : ℕ) → i % nk ≡ 0 → word < 2 ^ 32 → power < 256 → power ≡ power_of_x (i / nk - 1) → to_be_bytes w32 changed ≡ map substitute (to_be_bytes w32 (rotate_left w32 word 8)) → made ≡ bit_xor changed (power * 2 ^ 24 % 2 ^ 32) → to_be_bytes w32 made ≡ changed_word nk i (to_be_bytes w32 word)
changed_first nk i word changed power made first fits small due substituted whole =
    ap (to_be_bytes w32) whole
    ∙ xor_bytes changed (power * 2 ^ 24 % 2 ^ 32)
    ∙ ap (λ (bytes : List ℕ). xor_all bytes (to_be_bytes w32 (power * 2 ^ 24 % 2 ^ 32))) (substituted ∙ ap (map substitute) (bytes_turned word fits))
    ∙ ap (xor_all (map substitute (rotated (to_be_bytes w32 word)))) (bytes_highest power small ∙ ap (λ (p : ℕ). p ∷ 0 ∷ 0 ∷ 0 ∷ []) due)
    ∙ sym (cond-true (eqb (i % nk) 0) _ _ (eq-eqb (i % nk) 0 first))

pub changed_middle : (nk i : ℕ) (word : List ℕ) → (i % nk ≡ 0 → ⊥) → 6 < nk → i % nk ≡ 4 → map substitute word ≡ changed_word nk i word
changed_middle nk i word other long middle =
    sym (cond-false (eqb (i % nk) 0) _ _ (ne_eqb (i % nk) 0 other) ∙ cond-true (ltb 6 nk && eqb (i % nk) 4) _ _ (and_from (ltb 6 nk) (eqb (i % nk) 4) (lt-ltb 6 nk long) (eq-eqb (i % nk) 4 middle)))

pub changed_short : (nk i : ℕ) (word : List ℕ) → (i % nk ≡ 0 → ⊥) → nk ≤ 6 → word ≡ changed_word nk i word
changed_short nk i word other short =
    sym (cond-false (eqb (i % nk) 0) _ _ (ne_eqb (i % nk) 0 other) ∙ cond-false (ltb 6 nk && eqb (i % nk) 4) _ _ (and_left (ltb 6 nk) (eqb (i % nk) 4) (le-ltb 6 nk short)))

pub changed_other : (nk i : ℕ) (word : List ℕ) → (i % nk ≡ 0 → ⊥) → (i % nk ≡ 4 → ⊥) → word ≡ changed_word nk i word
changed_other nk i word other before =
    sym (cond-false (eqb (i % nk) 0) _ _ (ne_eqb (i % nk) 0 other) ∙ cond-false (ltb 6 nk && eqb (i % nk) 4) _ _ (and_right (ltb 6 nk) (eqb (i % nk) 4) (ne_eqb (i % nk) 4 before)))
