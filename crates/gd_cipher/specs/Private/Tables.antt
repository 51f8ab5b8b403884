-- How the code mixes a column by look-ups: each of its four bytes adds a word to it, found in the table of the byte's row.
use Rattle.std.specs.Prelude.{◌≡◌, ◌<◌, ℕ, List, [], ◌∷◌, map}
use Rattle.std.specs.List.{range_with_len}
use Rattle.std.specs.Int.{w32, from_be_bytes, rotate_right}
use Rattle.gd_cipher.specs.Fields.{times}

-- what a byte in the first row adds to a column that is mixed by these factors: the first column of the matrix, times the byte
abbrev pub part : ℕ → ℕ → ℕ → ℕ → ℕ → ℕ
part p q r s byte = from_be_bytes w32 (times p byte ∷ times s byte ∷ times r byte ∷ times q byte ∷ [])

-- that of each byte, where a rule changes the byte first
abbrev pub table : (ℕ → ℕ) → ℕ → ℕ → ℕ → ℕ → List ℕ
table rule p q r s = map (λ byte. part p q r s (rule byte)) (range_with_len 0 256)

-- the words turned to the right by this number of bits
abbrev pub turned : ℕ → List ℕ → List ℕ
turned bits words = map (λ word. rotate_right w32 word bits) words

-- the tables of the four rows, from that of the first: in each further row what a byte adds is turned by one byte more
abbrev pub tables_from : List ℕ → List (List ℕ)
tables_from first = first ∷ turned 8 first ∷ turned 16 first ∷ turned 24 first ∷ []

-- the tables for a rule, which makes bytes of bytes, and for these factors
pub record AreTables (rule : ℕ → ℕ) (p q r s : ℕ) (tables : List (List ℕ)) : Type 0 where
  pub small : (byte : ℕ) → byte < 256 → rule byte < 256
  pub are : tables ≡ tables_from (table rule p q r s)
