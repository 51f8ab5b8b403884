use Rattle.gd_cipher.proofs.SealLemmas.{opened-sealed}
use Rattle.gd_cipher.proofs.laws.open_undoes_seal.Goals as goal

pub returns : goal.returns
returns c key iv text sealed opened is_key iv_bytes bytes is_sealed = opened-sealed key iv text sealed is_key iv_bytes bytes is_sealed opened
