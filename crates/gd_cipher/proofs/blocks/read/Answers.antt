use Rattle.std.proofs.Common.{arith}
use Rattle.gd_cipher.proofs.WordLemmas.{bytes_read}
use Rattle.gd_cipher.proofs.blocks.read.Goals as goal

pub returns : goal.returns
returns c = bytes_read c.read_u32_into.new.dst c.args.block.now (omega arith) c.fits-block c.read_u32_into.ensures
