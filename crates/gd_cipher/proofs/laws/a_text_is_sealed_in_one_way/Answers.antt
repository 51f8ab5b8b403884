-- What comes before a block is the IV or a sealed block, so the sealed blocks are the same one after another.
use Rattle.gd_cipher.proofs.SealLemmas.{same_sealed}
use Rattle.gd_cipher.proofs.laws.a_text_is_sealed_in_one_way.Goals as goal

pub returns : goal.returns
returns c = same_sealed
