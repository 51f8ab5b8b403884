-- The words of round keys, unmixed one by one.
use Rattle.std.proofs.Common.{◌≡◌, ◌<◌, ◌≤◌, ◌+◌, ◌*◌, ◌∙◌, ◌⊎◌, inl, inr, ℕ, List, [], ◌∷◌, ap, sym, arith, get_or, set, length, below_more, subst}
use Rattle.std.proofs.lemmas.List.{get_or-set_same, get_or-set_other, length-set}
use Rattle.std.specs.Int.{w32, to_be_bytes}
use Rattle.gd_cipher.specs.Bytes.{IsKey}
use Rattle.gd_cipher.specs.Blocks.{mix_column, undo_mix_columns, block_at}
use Rattle.gd_cipher.specs.Words.{byte_in, bytes_of}
use Rattle.gd_cipher.specs.Private.Equivalents.{AreEquivalentKeys}
use Rattle.gd_cipher.specs.Private.RoundKeys.{AreRoundKeys, AreOpeningKeys}
use Rattle.gd_cipher.proofs.StateLemmas.{joined, key_block}

-- the bytes of a word, unmixed
abbrev unmixed : ℕ → List ℕ
unmixed word = mix_column 14 11 13 9 (byte_in word 0) (byte_in word 1) (byte_in word 2) (byte_in word 3)

-- The words of the first key are as they were, those from there to word i are unmixed, and those from word i on are as they were.
pub record AreUnmixedTo (i : ℕ) (before now : List ℕ) : Type 0 where
  len : length now ≡ length before
  done : (k : ℕ) → k < i → 4 ≤ k → to_be_bytes w32 (get_or now k 0) ≡ unmixed (get_or before k 0)
  rest : (k : ℕ) → (k < 4) ⊎ (i ≤ k) → get_or now k 0 ≡ get_or before k 0

pub none_unmixed : (words : List ℕ) → AreUnmixedTo 4 words words
none_unmixed words = record { len = λ i. length words; done = λ k below from. absurd (omega (arith, below, from)); rest = λ k place i. get_or words k 0 }

-- one word more
pub one_unmixed : (i word : ℕ) (before now : List ℕ) → 4 ≤ i → i < length now → to_be_bytes w32 word ≡ unmixed (get_or now i 0) → AreUnmixedTo i before now → AreUnmixedTo (i + 1) before (set now i word)
one_unmixed i word before now from within is so_far = record {
  len = length-set now i word ∙ so_far.len;
  done = below_more _ i
      (λ k below late. ap (to_be_bytes w32) (get_or-set_other now i k word 0 (omega (arith, below))) ∙ so_far.done k below late)
      (λ late. ap (to_be_bytes w32) (get_or-set_same now i word 0 within) ∙ is ∙ ap unmixed (so_far.rest i (inr (omega arith))));
  rest = λ k place. get_or-set_other now i k word 0 (elim place [ inl early ↦ omega (arith, early, from) | inr late ↦ omega (arith, late) ]) ∙ so_far.rest k (elim place [ inl early ↦ inl early | inr late ↦ inr (omega (arith, late)) ]);
}

-- All but those of the last key are unmixed.
module _ (rounds i : ℕ) (before now : List ℕ) (long : length before ≡ 4 * (rounds + 1)) (to : 4 * rounds ≤ i) (enough : i ≤ 4 * rounds) (are : AreUnmixedTo i before now) where
  long_now : length now ≡ 4 * (rounds + 1)
  long_now = are.len ∙ long

  -- a key whose words are as they were
  same_key : (round : ℕ) → round ≤ rounds → ((j : ℕ) → j < 4 → get_or now (4 * round + j) 0 ≡ get_or before (4 * round + j) 0) → block_at (bytes_of now) round ≡ block_at (bytes_of before) round
  same_key round within same =
      let first : get_or now (4 * round) 0 ≡ get_or before (4 * round) 0 = ap (λ n. get_or now n 0) (omega arith) ∙ same 0 (omega arith) ∙ ap (λ n. get_or before n 0) (omega arith) in
      key_block now round (omega (arith, long_now, within))
      ∙ (λ i. bytes_of (first i ∷ same 1 (omega arith) i ∷ same 2 (omega arith) i ∷ same 3 (omega arith) i ∷ []))
      ∙ sym (key_block before round (omega (arith, long, within)))

  unmixed_key : (round : ℕ) → 1 ≤ round → round < rounds → block_at (bytes_of now) round ≡ undo_mix_columns (block_at (bytes_of before) round)
  unmixed_key round positive within =
      let word : (j : ℕ) → j < 4 → to_be_bytes w32 (get_or now (4 * round + j) 0) ≡ unmixed (get_or before (4 * round + j) 0) = λ j below. are.done (4 * round + j) (omega (arith, below, to, within)) (omega (arith, positive)) in
      key_block now round (omega (arith, long_now, within))
      ∙ joined (get_or now (4 * round) 0) (get_or now (4 * round + 1) 0) (get_or now (4 * round + 2) 0) (get_or now (4 * round + 3) 0) _ _ _ _
      (are.done (4 * round) (omega (arith, to, within)) (omega (arith, positive))) (word 1 (omega arith)) (word 2 (omega arith)) (word 3 (omega arith))
      ∙ ap undo_mix_columns (sym (key_block before round (omega (arith, long, within))))

  pub all_unmixed : AreEquivalentKeys rounds (bytes_of before) (bytes_of now)
  all_unmixed = record {
    first = same_key 0 (omega arith) (λ j below. are.rest (4 * 0 + j) (inl (omega (arith, below))));
    between = unmixed_key;
    last = same_key rounds (omega arith) (λ j below. are.rest (4 * rounds + j) (inr (omega (arith, enough))));
  }

-- round keys that were unmixed
pub opening_keys : (key : List ℕ) (rounds : ℕ) (words unmixed : List ℕ) → IsKey key → AreRoundKeys key rounds words → AreEquivalentKeys rounds (bytes_of words) (bytes_of unmixed) → AreOpeningKeys key rounds unmixed
opening_keys key rounds words unmixed is_key are unmixed_are = record {
  is_key = is_key;
  rounds_are = are.rounds_are;
  are = subst (λ keys. AreEquivalentKeys rounds keys (bytes_of unmixed)) are.are unmixed_are;
}
