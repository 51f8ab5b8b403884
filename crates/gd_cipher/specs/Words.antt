-- How the code keeps columns: a word of 32 bits has the four bytes of a column, the first one highest.
use Rattle.std.specs.Prelude.{ℕ, List, slice_index_or}
use Rattle.std.specs.List.{flat_map}
use Rattle.std.specs.Int.{w32, to_be_bytes}

-- the bytes of all these words
abbrev pub bytes_of : List ℕ → List ℕ
bytes_of words = flat_map (to_be_bytes w32) words

-- the byte of a column, given as a word, in a row
abbrev pub byte_in : ℕ → ℕ → ℕ
byte_in word row = slice_index_or (to_be_bytes w32 word) row 0
