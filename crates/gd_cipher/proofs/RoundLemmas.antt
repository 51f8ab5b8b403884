-- That the rounds of a cipher can be undone.
use Rattle.std.proofs.Common.{◌≡◌, ℕ, zero, suc, ◌-◌, ◌<◌, ◌≤◌, List, [], ◌∷◌, map, slice_index_or, refl, ap, ◌∙◌, arith}
use Rattle.std.specs.List.{range_with_len}
use Rattle.std.proofs.lemmas.List.Elements.{All-map}
use Rattle.gd_cipher.specs.Bytes.{AreBytes, IsByte, IsKey}
use Rattle.gd_cipher.specs.Blocks.{block_at, sub_bytes, shift_rows, mix_columns, undo_sub_bytes, undo_shift_rows, undo_mix_columns}
use Rattle.gd_cipher.specs.Schedules.{schedule, rounds_of}
use Rattle.gd_cipher.specs.Ciphers.{add_round_key, after_rounds, encrypted, undo_rounds, decrypted, cipher, decipher}
use Rattle.gd_cipher.proofs.ByteLemmas.{substitute-small}
use Rattle.gd_cipher.proofs.SumLemmas.{AreBytes-xor_all, xor_all_twice}
use Rattle.gd_cipher.proofs.UndoLemmas.{AreBytes-substituted, sub_bytes-undone, AreBytes-shift_rows, shift_rows-undone, AreBytes-mix_columns, mix_columns-undone}
use Rattle.gd_cipher.proofs.RoundKeyLemmas.{AreBytes-round_key}

-- bytes substituted and rows shifted, and back
abbrev moved : List ℕ → List ℕ
moved state = shift_rows (sub_bytes state)

abbrev moved_back : List ℕ → List ℕ
moved_back state = undo_sub_bytes (undo_shift_rows state)

-- a substitution gives bytes, whatever it is given
substituted-small : (state : List ℕ) (i : ℕ) → slice_index_or (sub_bytes state) i 0 < 256
substituted-small [] i = omega arith
substituted-small (byte ∷ bytes) zero = substitute-small byte
substituted-small (byte ∷ bytes) (suc i) = substituted-small bytes i

AreBytes-moved : (state : List ℕ) → AreBytes 16 (moved state)
AreBytes-moved state =
    let bytes : List ℕ = map (λ i. slice_index_or (sub_bytes state) i 0) (range_with_len 0 16) in
    AreBytes-shift_rows bytes (record {
      len = refl;
      small = All-map IsByte (λ i. slice_index_or (sub_bytes state) i 0) (range_with_len 0 16)
          (λ k d within. substituted-small state (slice_index_or (range_with_len 0 16) k d));
    })

moved-undone : (state : List ℕ) → AreBytes 16 state → moved_back (moved state) ≡ state
moved-undone state are = ap undo_sub_bytes (shift_rows-undone (sub_bytes state) (AreBytes-substituted 16 state are)) ∙ sub_bytes-undone 16 state are

-- keys whose rounds have 16 bytes each, up to this round
module _ (keys : List ℕ) (rounds : ℕ) (each : (round : ℕ) → round ≤ rounds → AreBytes 16 (block_at keys round)) (block : List ℕ) (are : AreBytes 16 block) where
  AreBytes-after_rounds : (round : ℕ) → round ≤ rounds → AreBytes 16 (after_rounds keys round block)
  AreBytes-after_rounds zero within = AreBytes-xor_all 16 block (block_at keys 0) are (each 0 within)
  AreBytes-after_rounds (suc round) within =
      let mixed = AreBytes-mix_columns (moved (after_rounds keys round block)) (AreBytes-moved (after_rounds keys round block)) in
      AreBytes-xor_all 16 (mix_columns (moved (after_rounds keys round block))) (block_at keys (suc round)) mixed (each (suc round) within)

  undo_rounds-after : (round : ℕ) → round ≤ rounds → undo_rounds keys round (moved (after_rounds keys round block)) ≡ moved (add_round_key keys 0 block)
  undo_rounds-after zero within = refl
  undo_rounds-after (suc round) within =
      let state = moved (after_rounds keys round block) in
      let state_are = AreBytes-moved (after_rounds keys round block) in
      ap (λ now. undo_rounds keys round (undo_mix_columns (add_round_key keys (suc round) now))) (moved-undone (after_rounds keys (suc round) block) (AreBytes-after_rounds (suc round) within))
      ∙ ap (λ now. undo_rounds keys round (undo_mix_columns now)) (xor_all_twice 16 (mix_columns state) (block_at keys (suc round)) (AreBytes-mix_columns state state_are) (each (suc round) within))
      ∙ ap (undo_rounds keys round) (mix_columns-undone state state_are)
      ∙ undo_rounds-after round (omega (arith, within))

  decrypted-encrypted : decrypted keys rounds (encrypted keys rounds block) ≡ block
  decrypted-encrypted =
      let early : rounds - 1 ≤ rounds = omega arith in
      let state = moved (after_rounds keys (rounds - 1) block) in
      let state_are = AreBytes-moved (after_rounds keys (rounds - 1) block) in
      ap (λ now. add_round_key keys 0 (moved_back (undo_rounds keys (rounds - 1) now))) (xor_all_twice 16 state (block_at keys rounds) state_are (each rounds (omega arith)))
      ∙ ap (λ now. add_round_key keys 0 (moved_back now)) (undo_rounds-after (rounds - 1) early)
      ∙ ap (add_round_key keys 0) (moved-undone (add_round_key keys 0 block) (AreBytes-after_rounds 0 (omega arith)))
      ∙ xor_all_twice 16 block (block_at keys 0) are (each 0 (omega arith))

pub decipher-cipher : (key block : List ℕ) → IsKey key → AreBytes 16 block → decipher key (cipher key block) ≡ block
decipher-cipher key block is_key are = decrypted-encrypted (schedule key) (rounds_of key) (AreBytes-round_key key is_key) block are

-- what the cipher gives is bytes, whatever it is given
pub AreBytes-cipher : (key block : List ℕ) → IsKey key → AreBytes 16 (cipher key block)
AreBytes-cipher key block is_key =
    let state = after_rounds (schedule key) (rounds_of key - 1) block in
    AreBytes-xor_all 16 (moved state) (block_at (schedule key) (rounds_of key)) (AreBytes-moved state)
    (AreBytes-round_key key is_key (rounds_of key) (omega arith))
