-- What is sealed comes back when it is opened, and is sealed in one way; under another IV all comes back but the first block.
use Rattle.std.proofs.Common.{◌≡◌, ℕ, zero, suc, ◌+◌, ◌-◌, ◌*◌, ◌%◌, ◌<◌, List, ◌++◌, length, take, drop, All, refl, sym, ◌∙◌, ap, subst, arith}
use Rattle.std.proofs.Common.{length-drop}
use Rattle.std.proofs.lemmas.List.{drop-drop}
use Rattle.gd_cipher.specs.Bytes.{IsByte, AreBytes, IsKey}
use Rattle.gd_cipher.specs.Blocks.{xor_all, block_at}
use Rattle.gd_cipher.specs.Ciphers.{cipher, decipher}
use Rattle.gd_cipher.specs.Chains.{IsSealed, IsOpened}
use Rattle.gd_cipher.proofs.SumLemmas.{AreBytes-xor_all, xor_all_twice}
use Rattle.gd_cipher.proofs.UndoLemmas.{AreBytes-part}
use Rattle.gd_cipher.proofs.RoundLemmas.{decipher-cipher, AreBytes-cipher}
use Rattle.gd_cipher.proofs.ChainLemmas.{chained_first, chained_next, same_from_blocks}

-- a whole block of a text of bytes, and of what it is sealed as, is bytes
text_block : (text : List ℕ) → All IsByte text → length text % 16 ≡ 0 → (i : ℕ) → 16 * i < length text → AreBytes 16 (block_at text i)
text_block text bytes whole i within = AreBytes-part (length text) (16 * i) 16 text (omega (arith, whole)) (record { len = refl; small = bytes })

sealed_block : (key iv text sealed : List ℕ) → IsKey key → IsSealed key iv text sealed → (i : ℕ) → 16 * i < length text → AreBytes 16 (block_at sealed i)
sealed_block key iv text sealed is_key is_sealed i within = subst (AreBytes 16) (sym (is_sealed.blocks i within)) (AreBytes-cipher key _ is_key)

-- a text that was sealed
module _ (key iv text sealed : List ℕ) (is_key : IsKey key) (iv_bytes : AreBytes 16 iv) (bytes : All IsByte text) (is_sealed : IsSealed key iv text sealed) where
  plain_bytes : (i : ℕ) → 16 * i < length text → AreBytes 16 (block_at text i)
  plain_bytes = text_block text bytes is_sealed.whole

  -- what comes before a block is bytes
  chain_bytes : (i : ℕ) → 16 * i < length text → AreBytes 16 (block_at (iv ++ sealed) i)
  chain_bytes zero within = subst (AreBytes 16) (sym (chained_first iv sealed iv_bytes.len)) iv_bytes
  chain_bytes (suc i) within =
      subst (AreBytes 16) (sym (chained_next iv sealed i iv_bytes.len)) (sealed_block key iv text sealed is_key is_sealed i (omega (arith, within)))

  -- so is what is encrypted
  sum_bytes : (i : ℕ) → 16 * i < length text → AreBytes 16 (xor_all (block_at text i) (block_at (iv ++ sealed) i))
  sum_bytes i within = AreBytes-xor_all 16 (block_at text i) (block_at (iv ++ sealed) i) (plain_bytes i within) (chain_bytes i within)

  -- each block comes back
  block_back : (i : ℕ) → 16 * i < length text → xor_all (decipher key (block_at sealed i)) (block_at (iv ++ sealed) i) ≡ block_at text i
  block_back i within =
      ap (λ block. xor_all block (block_at (iv ++ sealed) i)) (ap (decipher key) (is_sealed.blocks i within) ∙ decipher-cipher key _ is_key (sum_bytes i within))
      ∙ xor_all_twice 16 (block_at text i) (block_at (iv ++ sealed) i) (plain_bytes i within) (chain_bytes i within)

  pub sealed-opens : IsOpened key iv sealed text
  sealed-opens = record {
    whole = is_sealed.whole;
    len = sym is_sealed.len;
    blocks = λ i within. sym (block_back i (omega (arith, is_sealed.len)));
  }

  pub opened-sealed : (opened : List ℕ) → IsOpened key iv sealed opened → opened ≡ text
  opened-sealed opened is_opened =
      same_from_blocks opened text (is_opened.len ∙ is_sealed.len) (λ i within. let here : 16 * i < length text = omega (arith, is_opened.len, is_sealed.len) in
      is_opened.blocks i (omega (arith, is_sealed.len)) ∙ block_back i here)

-- two sealed forms of a text are the same
module _ (key iv text one other : List ℕ) (long : length iv ≡ 16) (is_one : IsSealed key iv text one) (is_other : IsSealed key iv text other) where
  same_after : (i : ℕ) → 16 * i < length text → block_at (iv ++ one) i ≡ block_at (iv ++ other) i → block_at one i ≡ block_at other i
  same_after i within same = is_one.blocks i within ∙ ap (λ chain. cipher key (xor_all (block_at text i) chain)) same ∙ sym (is_other.blocks i within)

  same_chain : (i : ℕ) → 16 * i < length text → block_at (iv ++ one) i ≡ block_at (iv ++ other) i
  same_chain zero within = chained_first iv one long ∙ sym (chained_first iv other long)
  same_chain (suc i) within =
      let here : 16 * i < length text = omega arith in
      chained_next iv one i long ∙ same_after i here (same_chain i here) ∙ sym (chained_next iv other i long)

  pub same_sealed : one ≡ other
  same_sealed =
      same_from_blocks one other (is_one.len ∙ sym is_other.len) (λ i within. let here : 16 * i < length text = omega (arith, is_one.len) in same_after i here (same_chain i here))

-- two opened forms of a text are the same
pub same_opened : (key iv sealed one other : List ℕ) → IsOpened key iv sealed one → IsOpened key iv sealed other → one ≡ other
same_opened key iv sealed one other is_one is_other =
    same_from_blocks one other (is_one.len ∙ sym is_other.len)
    (λ i within. let here : 16 * i < length sealed = omega (arith, is_one.len) in is_one.blocks i here ∙ sym (is_other.blocks i here))

-- the blocks of a text after the first one
rest_block : (text : List ℕ) (i : ℕ) → block_at (drop 16 text) i ≡ block_at text (suc i)
rest_block text i =
    let place : 16 + 16 * i ≡ 16 * suc i = omega arith in
    ap (take 16) (drop-drop (16 * i) 16 text ∙ ap (λ n. drop n text) place)

-- a text that was sealed, and is opened under another IV
module _ (key iv other_iv text sealed opened : List ℕ) (is_key : IsKey key) (long : length iv ≡ 16) (other_long : length other_iv ≡ 16)
    (bytes : All IsByte text) (is_sealed : IsSealed key iv text sealed) (is_opened : IsOpened key other_iv sealed opened) where
  -- each block after the first one comes back
  next_back : (i : ℕ) → 16 * suc i < length text → block_at opened (suc i) ≡ block_at text (suc i)
  next_back i within =
      let here : 16 * suc i < length sealed = omega (arith, within, is_sealed.len) in
      let plain : List ℕ = block_at text (suc i) in
      let before : List ℕ = block_at sealed i in
      let plain_bytes = text_block text bytes is_sealed.whole (suc i) within in
      let before_bytes = sealed_block key iv text sealed is_key is_sealed i (omega (arith, within)) in
      is_opened.blocks (suc i) here
      ∙ ap (xor_all (decipher key (block_at sealed (suc i)))) (chained_next other_iv sealed i other_long)
      ∙ ap (λ block. xor_all (decipher key block) before)
      (is_sealed.blocks (suc i) within ∙ ap (λ chain. cipher key (xor_all plain chain)) (chained_next iv sealed i long))
      ∙ ap (λ block. xor_all block before) (decipher-cipher key _ is_key (AreBytes-xor_all 16 plain before plain_bytes before_bytes))
      ∙ xor_all_twice 16 plain before plain_bytes before_bytes

  pub opened-but_first : drop 16 opened ≡ drop 16 text
  opened-but_first =
      same_from_blocks (drop 16 opened) (drop 16 text)
      (length-drop 16 opened ∙ ap (λ n. n - 16) (is_opened.len ∙ is_sealed.len) ∙ sym (length-drop 16 text))
      (λ i within. let next : 16 * suc i < length text = omega (arith, length-drop 16 opened, is_opened.len, is_sealed.len) in
      rest_block opened i ∙ next_back i next ∙ sym (rest_block text i))
