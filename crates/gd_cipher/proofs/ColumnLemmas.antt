-- Columns as words, of what the tables give for their bytes.
use Rattle.std.proofs.Common.{◌≡◌, ◌<◌, ◌^◌, ◌∙◌, ℕ, List, [], ◌∷◌, ap, sym, refl, arith, get_or, map, bit_xor}
use lib.Bits.{xor_assoc, xor_zero_r}
use Rattle.std.proofs.lemmas.Nat.{xor_comm}
use Rattle.std.proofs.lemmas.List.{get_or-map}
use Rattle.std.proofs.lemmas.List.FromFn.{get_or-map-range_with_len}
use Rattle.std.specs.Int.{w32, to_be_bytes, rotate_right}
use Rattle.gd_cipher.specs.Fields.{times, substitute, undo_substitute}
use Rattle.gd_cipher.specs.Blocks.{mix_column, xor_all}
use Rattle.gd_cipher.specs.Words.{byte_in}
use Rattle.gd_cipher.specs.Private.Tables.{AreTables, part, table, turned}
use Rattle.gd_cipher.proofs.ByteLemmas.{undo_substitute-substitute}
use Rattle.gd_cipher.proofs.MixLemmas.{times-small}
use Rattle.gd_cipher.proofs.WordLemmas.{bytes_of_word, xor_words, turned_8, turned_16, turned_24}

-- the order in which the code adds the words, and that of a row
xor_order : (a b c d key : ℕ) → bit_xor (bit_xor (bit_xor d key) a) (bit_xor c b) ≡ bit_xor (bit_xor (bit_xor a b) (bit_xor c d)) key
xor_order a b c d key =
    xor_assoc (bit_xor d key) a (bit_xor c b)
    ∙ ap (bit_xor (bit_xor d key)) (ap (bit_xor a) (xor_comm c b) ∙ sym (xor_assoc a b c))
    ∙ xor_comm (bit_xor d key) (bit_xor (bit_xor a b) c)
    ∙ sym (xor_assoc (bit_xor (bit_xor a b) c) d key)
    ∙ ap (λ n. bit_xor n key) (xor_assoc (bit_xor a b) c d)

module _ (p q r s : ℕ) where
  part_bytes : (a : ℕ) → a < 256 → to_be_bytes w32 (part p q r s a) ≡ times p a ∷ times s a ∷ times r a ∷ times q a ∷ []
  part_bytes a small =
      bytes_of_word (part p q r s a) (times p a) (times s a) (times r a) (times q a) (times-small p a small) (times-small s a small) (times-small r a small) (times-small q a small) (λ i. part p q r s a)

  part-fits : (a : ℕ) → a < 256 → part p q r s a < 2 ^ 32
  part-fits a small = omega (arith, times-small p a small, times-small s a small, times-small r a small, times-small q a small)

  -- four of them, each turned into its row, and the key of the column
  words_added : (a b c d key : ℕ) → a < 256 → b < 256 → c < 256 → d < 256
      → to_be_bytes w32 (bit_xor (bit_xor (bit_xor (rotate_right w32 (part p q r s d) 24) key) (part p q r s a)) (bit_xor (rotate_right w32 (part p q r s c) 16) (rotate_right w32 (part p q r s b) 8)))
      ≡ xor_all (mix_column p q r s a b c d) (to_be_bytes w32 key)
  words_added a b c d key la lb lc ld =
      let first = part_bytes a la in
      let second = turned_8 (part p q r s b) (times p b) (times s b) (times r b) (times q b) (part_bytes b lb) (part-fits b lb) in
      let third = turned_16 (part p q r s c) (times p c) (times s c) (times r c) (times q c) (part_bytes c lc) (part-fits c lc) in
      let fourth = turned_24 (part p q r s d) (times p d) (times s d) (times r d) (times q d) (part_bytes d ld) (part-fits d ld) in
      let keyed = xor_words _ _ _ _ _ fourth key _ _ _ _ (λ i. to_be_bytes w32 key) in
      let half = xor_words _ _ _ _ _ keyed _ _ _ _ _ first in
      let other = xor_words _ _ _ _ _ third _ _ _ _ _ second in
      xor_words _ _ _ _ _ half _ _ _ _ _ other
      ∙ (λ i. xor_order (times p a) (times q b) (times r c) (times s d) (byte_in key 0) i
      ∷ xor_order (times s a) (times p b) (times q c) (times r d) (byte_in key 1) i
      ∷ xor_order (times r a) (times s b) (times p c) (times q d) (byte_in key 2) i
      ∷ xor_order (times q a) (times r b) (times s c) (times p d) (byte_in key 3) i ∷ [])

  -- the entries of a byte
  module _ (rule : ℕ → ℕ) (place byte : ℕ) (same : place ≡ byte) (small : byte < 256) where
    entry : get_or (table rule p q r s) place 0 ≡ part p q r s (rule byte)
    entry = get_or-map-range_with_len (λ n. part p q r s (rule n)) 0 256 place byte 0 (omega arith) (omega arith)

    turned_entry : (bits : ℕ) → get_or (turned bits (table rule p q r s)) place 0 ≡ rotate_right w32 (part p q r s (rule byte)) bits
    turned_entry bits =
        get_or-map (λ word. rotate_right w32 word bits) (table rule p q r s) place 0 0 (omega arith)
        ∙ ap (λ word. rotate_right w32 word bits) entry

-- the byte of a word in a row, as the code takes it
pub byte_taken : (bytes : List ℕ) (word row : ℕ) → bytes ≡ to_be_bytes w32 word → get_or bytes row 0 ≡ byte_in word row
byte_taken bytes word row same = ap (λ (list : List ℕ). get_or list row 0) same

pub column_is : (rule : ℕ → ℕ) (p q r s : ℕ) (tables : List (List ℕ)) → AreTables rule p q r s tables
    → (first second third fourth key pa pb pc pd : ℕ)
    → byte_in first 0 < 256 → byte_in second 1 < 256 → byte_in third 2 < 256 → byte_in fourth 3 < 256
    → pa ≡ byte_in first 0 → pb ≡ byte_in second 1 → pc ≡ byte_in third 2 → pd ≡ byte_in fourth 3
    → to_be_bytes w32 (bit_xor (bit_xor (bit_xor (get_or (get_or tables 3 []) pd 0) key) (get_or (get_or tables 0 []) pa 0)) (bit_xor (get_or (get_or tables 2 []) pc 0) (get_or (get_or tables 1 []) pb 0)))
    ≡ xor_all (mix_column p q r s (rule (byte_in first 0)) (rule (byte_in second 1)) (rule (byte_in third 2)) (rule (byte_in fourth 3))) (to_be_bytes w32 key)
column_is rule p q r s tables are first second third fourth key pa pb pc pd la lb lc ld ea eb ec ed =
    (λ i. to_be_bytes w32 (bit_xor (bit_xor (bit_xor (get_or (get_or (are.are i) 3 []) pd 0) key) (get_or (get_or (are.are i) 0 []) pa 0)) (bit_xor (get_or (get_or (are.are i) 2 []) pc 0) (get_or (get_or (are.are i) 1 []) pb 0))))
    ∙ (λ i. to_be_bytes w32 (bit_xor (bit_xor (bit_xor (turned_entry p q r s rule pd (byte_in fourth 3) ed ld 24 i) key) (entry p q r s rule pa (byte_in first 0) ea la i)) (bit_xor (turned_entry p q r s rule pc (byte_in third 2) ec lc 16 i) (turned_entry p q r s rule pb (byte_in second 1) eb lb 8 i))))
    ∙ words_added p q r s (rule (byte_in first 0)) (rule (byte_in second 1)) (rule (byte_in third 2)) (rule (byte_in fourth 3)) key
    (are.small (byte_in first 0) la) (are.small (byte_in second 1) lb) (are.small (byte_in third 2) lc) (are.small (byte_in fourth 3) ld)

-- the matrix that leaves each byte as it is
pub column_by_one : (a b c d : ℕ) → mix_column 1 0 0 0 a b c d ≡ a ∷ b ∷ c ∷ d ∷ []
column_by_one a b c d =
    let once : (n : ℕ) → bit_xor (times 1 n) 0 ≡ n = λ n. xor_zero_r (bit_xor n 0) ∙ xor_zero_r n in
    λ i. (xor_zero_r (bit_xor (times 1 a) 0) ∙ once a) i ∷ (xor_zero_r (times 1 b) ∙ xor_zero_r b) i ∷ once c i ∷ xor_zero_r d i ∷ []

-- a column without a key
without_key : (a b c d : ℕ) → xor_all (a ∷ b ∷ c ∷ d ∷ []) (to_be_bytes w32 0) ≡ a ∷ b ∷ c ∷ d ∷ []
without_key a b c d = λ i. xor_zero_r a i ∷ xor_zero_r b i ∷ xor_zero_r c i ∷ xor_zero_r d i ∷ []

pub substituted_is : (word n : ℕ)
    → to_be_bytes w32 n ≡ xor_all (mix_column 1 0 0 0 (substitute (byte_in word 0)) (substitute (byte_in word 1)) (substitute (byte_in word 2)) (substitute (byte_in word 3))) (to_be_bytes w32 0)
    → to_be_bytes w32 n ≡ map substitute (to_be_bytes w32 word)
substituted_is word n is =
    is
    ∙ ap (λ bytes. xor_all bytes (to_be_bytes w32 0)) (column_by_one (substitute (byte_in word 0)) (substitute (byte_in word 1)) (substitute (byte_in word 2)) (substitute (byte_in word 3)))
    ∙ without_key (substitute (byte_in word 0)) (substitute (byte_in word 1)) (substitute (byte_in word 2)) (substitute (byte_in word 3))

-- The tables undo a substitution, so that of the word is taken first.
pub unmixed_is : (word changed n : ℕ) → to_be_bytes w32 changed ≡ map substitute (to_be_bytes w32 word)
    → to_be_bytes w32 n ≡ xor_all (mix_column 14 11 13 9 (undo_substitute (byte_in changed 0)) (undo_substitute (byte_in changed 1)) (undo_substitute (byte_in changed 2)) (undo_substitute (byte_in changed 3))) (to_be_bytes w32 0)
    → to_be_bytes w32 n ≡ mix_column 14 11 13 9 (byte_in word 0) (byte_in word 1) (byte_in word 2) (byte_in word 3)
unmixed_is word changed n substituted is =
    let back : (row : ℕ) → get_or (map substitute (to_be_bytes w32 word)) row 0 ≡ substitute (byte_in word row) → byte_in word row < 256 → undo_substitute (byte_in changed row) ≡ byte_in word row =
    λ row there small. ap (λ bytes. undo_substitute (get_or bytes row 0)) substituted ∙ ap undo_substitute there ∙ undo_substitute-substitute (byte_in word row) small in
    let first = back 0 refl (omega arith) in
    let second = back 1 refl (omega arith) in
    let third = back 2 refl (omega arith) in
    let fourth = back 3 refl (omega arith) in
    is
    ∙ (λ i. xor_all (mix_column 14 11 13 9 (first i) (second i) (third i) (fourth i)) (to_be_bytes w32 0))
    ∙ without_key _ _ _ _
