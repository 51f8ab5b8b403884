-- The key expansion (FIPS 197 section 5.2), as the list of its bytes: word i has the bytes 4i to 4i + 3.
use Rattle.std.specs.Prelude.{ℕ, zero, suc, ◌+◌, ◌-◌, ◌*◌, ◌/◌, ◌%◌, ◌==◌, ◌&&◌, nat_lt, List, [], ◌∷◌, ◌++◌, length, take, drop, map, if◌then◌else◌}
use Rattle.gd_cipher.specs.Fields.{times_x, substitute}
use Rattle.gd_cipher.specs.Blocks.{xor_all}

-- word i of a list of bytes, counted from 0
abbrev pub word_at : List ℕ → ℕ → List ℕ
word_at bytes i = take 4 (drop (4 * i) bytes)

-- the first byte of a word comes last
abbrev pub rotated : List ℕ → List ℕ
rotated word = drop 1 word ++ take 1 word

-- x to the power n
abbrev pub power_of_x : ℕ → ℕ
power_of_x zero = 1
power_of_x (suc n) = times_x (power_of_x n)

-- round constant j, counted from 1: x to the power j - 1 and three zeros
abbrev pub round_constant : ℕ → List ℕ
round_constant j = power_of_x (j - 1) ∷ 0 ∷ 0 ∷ 0 ∷ []

-- what is added to the word nk places before word i, given the word before it; a key has nk words
abbrev pub changed_word : ℕ → ℕ → List ℕ → List ℕ
changed_word nk i word =
    if i % nk == 0 then xor_all (map substitute (rotated word)) (round_constant (i / nk))
    else (if nat_lt 6 nk && (i % nk == 4) then map substitute word
    else word)

-- the word after these
abbrev pub next_word : ℕ → List ℕ → List ℕ
next_word nk bytes =
    let i = length bytes / 4 in
    xor_all (word_at bytes (i - nk)) (changed_word nk i (word_at bytes (i - 1)))

-- this number of words more
abbrev pub expanded : ℕ → ℕ → List ℕ → List ℕ
expanded nk zero bytes = bytes
expanded nk (suc more) bytes = expanded nk more (bytes ++ next_word nk bytes)

-- how many words a key has
abbrev pub key_words : List ℕ → ℕ
key_words key = length key / 4

-- how many rounds there are under a key (section 5, table 3)
abbrev pub rounds_of : List ℕ → ℕ
rounds_of key = key_words key + 6

-- the words of all round keys
abbrev pub schedule : List ℕ → List ℕ
schedule key = expanded (key_words key) (4 * (rounds_of key + 1) - key_words key) key
