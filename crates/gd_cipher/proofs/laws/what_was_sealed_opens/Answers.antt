use Rattle.gd_cipher.proofs.SealLemmas.{sealed-opens}
use Rattle.gd_cipher.proofs.laws.what_was_sealed_opens.Goals as goal

pub returns : goal.returns
returns c = sealed-opens
