use Rattle.gd_cipher.proofs.RoundLemmas.{decipher-cipher}
use Rattle.gd_cipher.proofs.laws.decrypt_undoes_encrypt.Goals as goal

pub returns : goal.returns
returns c = decipher-cipher
