-- Cipher block chaining (SP 800-38A section 6.2): each block is chained with the one before it, and the first one with the IV. Texts have
-- whole blocks.
use Rattle.std.specs.Prelude.{◌≡◌, ℕ, ◌*◌, ◌%◌, ◌<◌, List, ◌++◌, length}
use Rattle.gd_cipher.specs.Blocks.{xor_all, block_at}
use Rattle.gd_cipher.specs.Ciphers.{cipher, decipher}

-- Block i of the sealed text is the cipher of the sum of block i of the text and what comes before it in the IV and the sealed text.
pub record IsSealed (key iv text sealed : List ℕ) : Type 0 where
  pub whole : length text % 16 ≡ 0
  pub len : length sealed ≡ length text
  pub blocks : (i : ℕ) → 16 * i < length text → block_at sealed i ≡ cipher key (xor_all (block_at text i) (block_at (iv ++ sealed) i))

-- Block i of the opened text is the sum of block i of the sealed text, deciphered, and what comes before that block in the IV and the
-- sealed text.
pub record IsOpened (key iv sealed text : List ℕ) : Type 0 where
  pub whole : length text % 16 ≡ 0
  pub len : length text ≡ length sealed
  pub blocks : (i : ℕ) → 16 * i < length sealed → block_at text i ≡ xor_all (decipher key (block_at sealed i)) (block_at (iv ++ sealed) i)
