use Rattle.std.proofs.Common.{◌∙◌, ap}
use Rattle.gd_cipher.specs.Ciphers.{decipher}
use Rattle.gd_cipher.proofs.blocks.decrypt_block.Goals as goal

pub returns : goal.returns
returns c key are = c.write.ensures ∙ c.decrypt-state.ensures key are ∙ ap (decipher key) c.read.ensures
