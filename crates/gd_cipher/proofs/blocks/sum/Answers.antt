use Rattle.std.proofs.Common.{arith}
use Rattle.gd_cipher.proofs.StateLemmas.{added_states}
use Rattle.gd_cipher.proofs.blocks.sum.Goals as goal

pub returns : goal.returns
returns c = added_states c.args.these c.args.those (omega arith) (omega arith)
