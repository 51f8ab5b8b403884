-- The block was added to the one before it, and then encrypted.
use Rattle.std.proofs.Common.{ap, ◌∙◌}
use Rattle.gd_cipher.specs.Blocks.{xor_all}
use Rattle.gd_cipher.specs.Ciphers.{cipher}
use Rattle.gd_cipher.specs.Words.{bytes_of}
use Rattle.gd_cipher.proofs.ChainLemmas.{first_block}
use Rattle.gd_cipher.proofs.chains.seal_first.Goals as goal

pub returns-clause-sealed : goal.returns-clause-sealed
returns-clause-sealed c key are =
    let first = first_block c.args.text.now c.first_chunk_mut.result c.unwrap-block.result c.unwrap-block.ensures c.first_chunk_mut.ensures.cases in
    c.encrypt-sealed.ensures key are
    ∙ ap (cipher key) (c.sum.ensures ∙ ap (λ block. xor_all block (bytes_of c.args.before)) (c.read.ensures ∙ first))
