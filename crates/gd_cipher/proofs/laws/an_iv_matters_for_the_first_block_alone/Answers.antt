-- A later block is chained with the sealed block before it, under every IV.
use Rattle.gd_cipher.proofs.SealLemmas.{opened-but_first}
use Rattle.gd_cipher.proofs.laws.an_iv_matters_for_the_first_block_alone.Goals as goal

pub returns : goal.returns
returns c = opened-but_first
