use Rattle.std.proofs.Common.{arith}
use Rattle.gd_cipher.proofs.StateLemmas.{backward_state}
use Rattle.gd_cipher.proofs.blocks.backward.Goals as goal

pub returns : goal.returns
returns c rule p q r s are = backward_state c.args.state c.args.words.now c.args.round (omega arith) (omega arith) rule p q r s
    c.column.result c.column-2.result c.column-3.result c.column-4.result
    (c.column.ensures rule p q r s are) (c.column-2.ensures rule p q r s are)
    (c.column-3.ensures rule p q r s are) (c.column-4.ensures rule p q r s are)
