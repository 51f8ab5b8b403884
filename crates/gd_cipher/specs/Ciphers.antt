-- The cipher and its inverse (FIPS 197 sections 5.1 and 5.3), for every length of key that the standard has: 16, 24 and 32 bytes.
use Rattle.std.specs.Prelude.{ℕ, zero, suc, ◌-◌, List}
use Rattle.gd_cipher.specs.Blocks.{xor_all, block_at, sub_bytes, shift_rows, mix_columns, undo_sub_bytes, undo_shift_rows, undo_mix_columns}
use Rattle.gd_cipher.specs.Schedules.{schedule, rounds_of}

-- the key of a round is added (section 5.1.4): block i of the schedule is the key of round i, from round 0 on
abbrev pub add_round_key : List ℕ → ℕ → List ℕ → List ℕ
add_round_key keys round state = xor_all state (block_at keys round)

-- a block after the first addition and this number of whole rounds
abbrev pub after_rounds : List ℕ → ℕ → List ℕ → List ℕ
after_rounds keys zero block = add_round_key keys 0 block
after_rounds keys (suc round) block = add_round_key keys (suc round) (mix_columns (shift_rows (sub_bytes (after_rounds keys round block))))

-- this number of rounds in all, of which the last mixes no columns
abbrev pub encrypted : List ℕ → ℕ → List ℕ → List ℕ
encrypted keys rounds block = add_round_key keys rounds (shift_rows (sub_bytes (after_rounds keys (rounds - 1) block)))

-- the whole rounds from this one down to round 1, undone
abbrev pub undo_rounds : List ℕ → ℕ → List ℕ → List ℕ
undo_rounds keys zero state = state
undo_rounds keys (suc round) state =
    undo_rounds keys round (undo_mix_columns (add_round_key keys (suc round) (undo_sub_bytes (undo_shift_rows state))))

-- this number of rounds in all, undone from the last one to the first addition
abbrev pub decrypted : List ℕ → ℕ → List ℕ → List ℕ
decrypted keys rounds block =
    add_round_key keys 0 (undo_sub_bytes (undo_shift_rows (undo_rounds keys (rounds - 1) (add_round_key keys rounds block))))

-- a block encrypted under a key
abbrev pub cipher : List ℕ → List ℕ → List ℕ
cipher key block = encrypted (schedule key) (rounds_of key) block

-- a block decrypted under a key
abbrev pub decipher : List ℕ → List ℕ → List ℕ
decipher key block = decrypted (schedule key) (rounds_of key) block
