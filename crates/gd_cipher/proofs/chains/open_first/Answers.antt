-- The block was decrypted, and then added to the one before it.
use Rattle.std.proofs.Common.{ap, ◌∙◌, ◌++◌, drop}
use Rattle.gd_cipher.specs.Blocks.{xor_all}
use Rattle.gd_cipher.specs.Ciphers.{decipher}
use Rattle.gd_cipher.specs.Words.{bytes_of}
use Rattle.gd_cipher.proofs.ChainLemmas.{first_block}
use Rattle.gd_cipher.proofs.chains.open_first.Goals as goal

pub returns-clause-sealed : goal.returns-clause-sealed
returns-clause-sealed c =
    c.read-sealed.ensures ∙ first_block c.args.text.now c.first_chunk_mut.result c.unwrap-block.result c.unwrap-block.ensures c.first_chunk_mut.ensures.cases

pub returns-clause-text : goal.returns-clause-text
returns-clause-text c key are =
    ap (λ block. block ++ drop 16 c.args.text.now)
    (c.write.ensures ∙ c.sum.ensures
    ∙ ap (λ block. xor_all block (bytes_of c.args.before)) (c.decrypt.ensures key are ∙ ap (decipher key) (returns-clause-sealed c)))
