-- Each block of it is a sum of what is given.
use Rattle.gd_cipher.proofs.SealLemmas.{same_opened}
use Rattle.gd_cipher.proofs.laws.a_text_is_opened_in_one_way.Goals as goal

pub returns : goal.returns
returns c = same_opened
