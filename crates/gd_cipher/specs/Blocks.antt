-- Blocks of 16 bytes, and the steps of a round (FIPS 197 section 5). A state has 4 rows and 4 columns, and is the list of its 16 bytes,
-- column by column: the byte in row r and column c is at place r + 4c (section 3.4).
use Rattle.std.specs.Prelude.{ℕ, ◌+◌, ◌-◌, ◌*◌, ◌%◌, List, [], ◌∷◌, map, take, drop, bit_xor, slice_index_or}
use Rattle.std.specs.List.{range_with_len, flat_map, zip}
use Rattle.gd_cipher.specs.Fields.{times, substitute, undo_substitute}

-- Two lists of bytes added, byte by byte. The longer list is cut to the length of the other one.
abbrev pub xor_all : List ℕ → List ℕ → List ℕ
xor_all these those = map (λ pair. bit_xor pair.0 pair.1) (zip these those)

-- block i of a list of bytes, counted from 0
abbrev pub block_at : List ℕ → ℕ → List ℕ
block_at bytes i = take 16 (drop (16 * i) bytes)

-- the byte of a state in a row and a column
abbrev pub byte_at : List ℕ → ℕ → ℕ → ℕ
byte_at state row column = slice_index_or state (row + 4 * column) 0

-- the state that has these bytes, each given by its row and its column
abbrev pub state_of : (ℕ → ℕ → ℕ) → List ℕ
state_of byte = flat_map (λ column. map (λ row. byte row column) (range_with_len 0 4)) (range_with_len 0 4)

-- each byte is substituted (section 5.1.1)
abbrev pub sub_bytes : List ℕ → List ℕ
sub_bytes state = map substitute state

-- Each row moves to the left, by as many columns as its number (section 5.1.2): the byte in row r and column c comes from row r and column
-- (c + r) mod 4.
abbrev pub shift_rows : List ℕ → List ℕ
shift_rows state = state_of (λ row column. byte_at state row ((column + row) % 4))

-- a row of a matrix, with the factors p, q, r and s, times a column of the bytes a, b, c and d
abbrev pub row_times : ℕ → ℕ → ℕ → ℕ → ℕ → ℕ → ℕ → ℕ → ℕ
row_times p q r s a b c d = bit_xor (bit_xor (times p a) (times q b)) (bit_xor (times r c) (times s d))

-- a matrix times a column: its first row has these four factors, and each further row is the one above it moved one place to the right,
-- its last factor coming first (section 4.3)
abbrev pub mix_column : ℕ → ℕ → ℕ → ℕ → ℕ → ℕ → ℕ → ℕ → List ℕ
mix_column p q r s a b c d = row_times p q r s a b c d ∷ row_times s p q r a b c d ∷ row_times r s p q a b c d ∷ row_times q r s p a b c d ∷ []

-- that matrix times each column of a state
abbrev pub mix_by : ℕ → ℕ → ℕ → ℕ → List ℕ → List ℕ
mix_by p q r s state =
    flat_map (λ column. mix_column p q r s (byte_at state 0 column) (byte_at state 1 column) (byte_at state 2 column) (byte_at state 3 column))
    (range_with_len 0 4)

-- the columns are mixed (section 5.1.3)
abbrev pub mix_columns : List ℕ → List ℕ
mix_columns state = mix_by 0x02 0x03 0x01 0x01 state

-- The inverse of `shift_rows`, where each row moves to the right (section 5.3.1): the byte in row r and column c comes from row r and
-- column (c + 4 - r) mod 4.
abbrev pub undo_shift_rows : List ℕ → List ℕ
undo_shift_rows state = state_of (λ row column. byte_at state row ((column + 4 - row) % 4))

-- the inverse of `sub_bytes`: the substitution of each byte is undone (section 5.3.2)
abbrev pub undo_sub_bytes : List ℕ → List ℕ
undo_sub_bytes state = map undo_substitute state

-- the inverse of `mix_columns`, by the inverse matrix (section 5.3.3)
abbrev pub undo_mix_columns : List ℕ → List ℕ
undo_mix_columns state = mix_by 0x0e 0x0b 0x0d 0x09 state
