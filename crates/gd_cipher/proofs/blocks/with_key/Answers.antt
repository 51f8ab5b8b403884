use Rattle.std.proofs.Common.{arith}
use Rattle.gd_cipher.proofs.StateLemmas.{keyed_state}
use Rattle.gd_cipher.proofs.blocks.with_key.Goals as goal

pub returns : goal.returns
returns c = keyed_state c.args.state c.args.words.now c.args.round (omega arith) (omega arith)
