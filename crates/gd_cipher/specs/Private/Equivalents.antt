-- The equivalent inverse cipher (FIPS 197 section 5.3.5): it undoes the steps of a round in the order in which the cipher takes them, and so it
-- needs keys that were changed.
use Rattle.std.specs.Prelude.{◌≡◌, ◌≤◌, ◌<◌, ℕ, zero, suc, ◌-◌, List}
use Rattle.gd_cipher.specs.Blocks.{block_at, undo_sub_bytes, undo_shift_rows, undo_mix_columns}
use Rattle.gd_cipher.specs.Ciphers.{add_round_key}

-- The keys for it, from the keys of this number of rounds: between the first one and the last, each has its columns unmixed.
pub record AreEquivalentKeys (rounds : ℕ) (keys equivalent : List ℕ) : Type 0 where
  pub first : block_at equivalent 0 ≡ block_at keys 0
  pub between : (round : ℕ) → 1 ≤ round → round < rounds → block_at equivalent round ≡ undo_mix_columns (block_at keys round)
  pub last : block_at equivalent rounds ≡ block_at keys rounds

-- the whole rounds from this one down to round 1, undone under such keys
abbrev pub equivalently_undone : List ℕ → ℕ → List ℕ → List ℕ
equivalently_undone keys zero state = state
equivalently_undone keys (suc round) state =
    equivalently_undone keys round (add_round_key keys (suc round) (undo_mix_columns (undo_shift_rows (undo_sub_bytes state))))

-- so many rounds in all, undone under such keys
abbrev pub equivalently_decrypted : List ℕ → ℕ → List ℕ → List ℕ
equivalently_decrypted keys rounds block =
    add_round_key keys 0 (undo_shift_rows (undo_sub_bytes (equivalently_undone keys (rounds - 1) (add_round_key keys rounds block))))
