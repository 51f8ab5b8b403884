-- One round after another.
use Rattle.std.proofs.Common.{◌≡◌, ◌≤◌, ◌+◌, ◌-◌, ◌∙◌, ℕ, suc, List, ap, sym, arith}
use Rattle.gd_cipher.specs.Blocks.{sub_bytes, shift_rows, mix_columns, undo_sub_bytes, undo_shift_rows, undo_mix_columns}
use Rattle.gd_cipher.specs.Ciphers.{add_round_key, after_rounds, encrypted}
use Rattle.gd_cipher.specs.Private.Equivalents.{equivalently_undone}

module _ (keys : List ℕ) where
  pub one_round : (round : ℕ) (block state next : List ℕ) → 1 ≤ round → state ≡ after_rounds keys (round - 1) block
      → next ≡ add_round_key keys round (mix_columns (shift_rows (sub_bytes state))) → next ≡ after_rounds keys (round + 1 - 1) block
  one_round round block state next positive is step =
      let same : round ≡ suc (round - 1) = omega arith in
      let more : suc (round - 1) ≡ round + 1 - 1 = omega arith in
      step ∙ (λ i. add_round_key keys (same i) (mix_columns (shift_rows (sub_bytes (is i))))) ∙ ap (λ (n : ℕ). after_rounds keys n block) more

  pub last_round : (round rounds : ℕ) (block state : List ℕ) → round ≡ rounds → state ≡ after_rounds keys (round - 1) block
      → add_round_key keys rounds (shift_rows (sub_bytes state)) ≡ encrypted keys rounds block
  last_round round rounds block state same is =
      ap (λ (bytes : List ℕ). add_round_key keys rounds (shift_rows (sub_bytes bytes))) (is ∙ ap (λ (n : ℕ). after_rounds keys (n - 1) block) same)

  -- what is left to undo, from the state before this round and from the one after it
  pub one_round_undone : (round : ℕ) (state next : List ℕ) → 1 ≤ round → next ≡ add_round_key keys round (undo_mix_columns (undo_shift_rows (undo_sub_bytes state)))
      → equivalently_undone keys (round - 1) next ≡ equivalently_undone keys round state
  one_round_undone round state next positive step =
      let same : round ≡ suc (round - 1) = omega arith in
      ap (equivalently_undone keys (round - 1)) (step ∙ ap (λ (n : ℕ). add_round_key keys n (undo_mix_columns (undo_shift_rows (undo_sub_bytes state)))) same)
      ∙ ap (λ (n : ℕ). equivalently_undone keys n state) (sym same)
