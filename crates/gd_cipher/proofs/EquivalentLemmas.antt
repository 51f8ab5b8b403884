-- That the equivalent inverse cipher, under keys that were changed for it, is the inverse cipher.
-- A step without mixing is one that mixes by the matrix of ones (`mix_by_one`), so one function with tables as its argument serves both kinds of rounds.
use Rattle.std.proofs.Common.{◌≡◌, ℕ, zero, suc, ◌+◌, ◌-◌, ◌<◌, ◌≤◌, List, [], ◌∷◌, ◌++◌, map, length, get_or, bit_xor, refl, ap, sym, ◌∙◌, arith}
use Rattle.gd_cipher.specs.Bytes.{AreBytes}
use Rattle.gd_cipher.specs.Fields.{undo_substitute}
use Rattle.gd_cipher.specs.Blocks.{xor_all, block_at, mix_column, mix_by, undo_sub_bytes, undo_shift_rows, undo_mix_columns}
use Rattle.gd_cipher.specs.Schedules.{schedule}
use Rattle.gd_cipher.specs.Ciphers.{add_round_key, undo_rounds, decrypted, decipher}
use Rattle.gd_cipher.specs.Words.{bytes_of}
use Rattle.gd_cipher.specs.Private.RoundKeys.{AreOpeningKeys}
use Rattle.gd_cipher.specs.Private.Equivalents.{AreEquivalentKeys, equivalently_undone, equivalently_decrypted}
use Rattle.gd_cipher.proofs.ByteLemmas.{undo_substitute-small}
use Rattle.gd_cipher.proofs.ColumnLemmas.{column_by_one}
use Rattle.gd_cipher.proofs.MixLemmas.{row_times-xor}
use Rattle.gd_cipher.proofs.RoundKeyLemmas.{AreBytes-round_key}
use Rattle.gd_cipher.proofs.SumLemmas.{AreBytes-xor_all, get_or-xor_all}
use Rattle.gd_cipher.proofs.UndoLemmas.{AreBytes-map, AreBytes-mix_by, AreBytes-undo_shift_rows, written_out}

-- the matrix that leaves each column as it is
pub mix_by_one : (state : List ℕ) → length state ≡ 16 → mix_by 1 0 0 0 state ≡ state
mix_by_one state len =
    (λ i. column 0 i ++ column 4 i ++ column 8 i ++ column 12 i ++ []) ∙ written_out state len
  where
    column : (n : ℕ) → mix_column 1 0 0 0 (get_or state n 0) (get_or state (n + 1) 0) (get_or state (n + 2) 0) (get_or state (n + 3) 0)
        ≡ get_or state n 0 ∷ get_or state (n + 1) 0 ∷ get_or state (n + 2) 0 ∷ get_or state (n + 3) 0 ∷ []
    column n = column_by_one (get_or state n 0) (get_or state (n + 1) 0) (get_or state (n + 2) 0) (get_or state (n + 3) 0)

-- bytes are changed one by one, so it is the same before the rows are shifted and after
changed_and_shifted : (rule : ℕ → ℕ) (state : List ℕ) → length state ≡ 16 → undo_shift_rows (map rule state) ≡ map rule (undo_shift_rows state)
changed_and_shifted rule state len =
    ap (λ bytes. undo_shift_rows (map rule bytes)) (sym (written_out state len)) ∙ ap (λ bytes. map rule (undo_shift_rows bytes)) (written_out state len)

-- a sum is mixed as each of its parts is
module _ (p q r s : ℕ) (these those : List ℕ) (are : AreBytes 16 these) (others : AreBytes 16 those) where
  added : (n : ℕ) → n < 16 → get_or (xor_all these those) n 0 ≡ bit_xor (get_or these n 0) (get_or those n 0)
  added n within = get_or-xor_all these those n (others.len ∙ sym are.len) (omega (arith, within, are.len))

  -- the column of the four bytes from this place on
  abbrev mixed_from : ℕ → List ℕ → List ℕ
  mixed_from n state = mix_column p q r s (get_or state n 0) (get_or state (n + 1) 0) (get_or state (n + 2) 0) (get_or state (n + 3) 0)

  column_added : (n : ℕ) → n + 3 < 16 → mixed_from n (xor_all these those) ≡ xor_all (mixed_from n these) (mixed_from n those)
  column_added n within =
      let first = added n (omega (arith, within)) in
      let second = added (n + 1) (omega (arith, within)) in
      let third = added (n + 2) (omega (arith, within)) in
      let fourth = added (n + 3) within in
      let row : (f g h j : ℕ) → _ = λ f g h j. row_times-xor f g h j (get_or these n 0) (get_or these (n + 1) 0) (get_or these (n + 2) 0) (get_or these (n + 3) 0)
      (get_or those n 0) (get_or those (n + 1) 0) (get_or those (n + 2) 0) (get_or those (n + 3) 0)
      (are.small n 0 (omega (arith, within, are.len))) (are.small (n + 1) 0 (omega (arith, within, are.len))) (are.small (n + 2) 0 (omega (arith, within, are.len))) (are.small (n + 3) 0 (omega (arith, within, are.len)))
      (others.small n 0 (omega (arith, within, others.len))) (others.small (n + 1) 0 (omega (arith, within, others.len))) (others.small (n + 2) 0 (omega (arith, within, others.len))) (others.small (n + 3) 0 (omega (arith, within, others.len))) in
      (λ i. mix_column p q r s (first i) (second i) (third i) (fourth i))
      ∙ (λ i. row p q r s i ∷ row s p q r i ∷ row r s p q i ∷ row q r s p i ∷ [])

  pub mix_by-added : mix_by p q r s (xor_all these those) ≡ xor_all (mix_by p q r s these) (mix_by p q r s those)
  mix_by-added = λ i. column_added 0 (omega arith) i ++ column_added 4 (omega arith) i ++ column_added 8 (omega arith) i ++ column_added 12 (omega arith) i ++ []

AreBytes-moved_back : (state : List ℕ) → AreBytes 16 state → AreBytes 16 (undo_sub_bytes (undo_shift_rows state))
AreBytes-moved_back state are = AreBytes-map undo_substitute (λ byte small. undo_substitute-small byte) 16 (undo_shift_rows state) (AreBytes-undo_shift_rows state are)

module _ (rounds : ℕ) (keys equivalent : List ℕ) (each : (round : ℕ) → round ≤ rounds → AreBytes 16 (block_at keys round)) (are_keys : AreEquivalentKeys rounds keys equivalent) where
  -- one round, in the order of either
  round_undone : (round : ℕ) → 1 ≤ round → round < rounds → (state : List ℕ) → AreBytes 16 state
      → add_round_key equivalent round (undo_mix_columns (undo_shift_rows (undo_sub_bytes state))) ≡ undo_mix_columns (add_round_key keys round (undo_sub_bytes (undo_shift_rows state)))
  round_undone round positive within state are =
      (λ i. xor_all (undo_mix_columns (changed_and_shifted undo_substitute state are.len i)) (are_keys.between round positive within i))
      ∙ sym (mix_by-added 14 11 13 9 (undo_sub_bytes (undo_shift_rows state)) (block_at keys round) (AreBytes-moved_back state are) (each round (omega (arith, within))))

  same_undone : (round : ℕ) → round < rounds → (state : List ℕ) → AreBytes 16 state → equivalently_undone equivalent round state ≡ undo_rounds keys round state
  same_undone zero within state are = refl
  same_undone (suc round) within state are =
      let moved = undo_sub_bytes (undo_shift_rows state) in
      let keyed : AreBytes 16 (add_round_key keys (suc round) moved) = AreBytes-xor_all 16 moved (block_at keys (suc round)) (AreBytes-moved_back state are) (each (suc round) (omega (arith, within))) in
      ap (equivalently_undone equivalent round) (round_undone (suc round) (omega arith) within state are)
      ∙ same_undone round (omega (arith, within)) (undo_mix_columns (add_round_key keys (suc round) moved)) (AreBytes-mix_by (add_round_key keys (suc round) moved) keyed 14 11 13 9)

  AreBytes-undo_rounds : (round : ℕ) → round ≤ rounds → (state : List ℕ) → AreBytes 16 state → AreBytes 16 (undo_rounds keys round state)
  AreBytes-undo_rounds zero within state are = are
  AreBytes-undo_rounds (suc round) within state are =
      let moved = undo_sub_bytes (undo_shift_rows state) in
      let keyed : AreBytes 16 (add_round_key keys (suc round) moved) = AreBytes-xor_all 16 moved (block_at keys (suc round)) (AreBytes-moved_back state are) (each (suc round) within) in
      AreBytes-undo_rounds round (omega (arith, within)) (undo_mix_columns (add_round_key keys (suc round) moved)) (AreBytes-mix_by (add_round_key keys (suc round) moved) keyed 14 11 13 9)

  pub same_decrypted : 1 ≤ rounds → (block : List ℕ) → AreBytes 16 block → equivalently_decrypted equivalent rounds block ≡ decrypted keys rounds block
  same_decrypted positive block are =
      let first = add_round_key keys rounds block in
      let first_are : AreBytes 16 first = AreBytes-xor_all 16 block (block_at keys rounds) are (each rounds (omega arith)) in
      (λ i. xor_all (undo_shift_rows (undo_sub_bytes (equivalently_undone equivalent (rounds - 1) (xor_all block (are_keys.last i))))) (are_keys.first i))
      ∙ ap (λ state. add_round_key keys 0 (undo_shift_rows (undo_sub_bytes state))) (same_undone (rounds - 1) (omega (arith, positive)) first first_are)
      ∙ ap (add_round_key keys 0) (changed_and_shifted undo_substitute (undo_rounds keys (rounds - 1) first) (AreBytes-undo_rounds (rounds - 1) (omega arith) first first_are).len)

-- a block under the words of the keys for the equivalent inverse cipher
pub opened_by : (key : List ℕ) (rounds : ℕ) (words block : List ℕ) → AreOpeningKeys key rounds words → AreBytes 16 block
    → equivalently_decrypted (bytes_of words) rounds block ≡ decipher key block
opened_by key rounds words block are block_are =
    let each : (round : ℕ) → round ≤ rounds → AreBytes 16 (block_at (schedule key) round) = λ round within. AreBytes-round_key key are.is_key round (omega (arith, within, are.rounds_are)) in
    same_decrypted rounds (schedule key) (bytes_of words) each are.are (omega (arith, are.rounds_are)) block block_are
    ∙ ap (λ n. decrypted (schedule key) n block) are.rounds_are
