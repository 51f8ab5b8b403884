use Rattle.std.proofs.Common.{arith}
use Rattle.gd_cipher.proofs.UnmixLemmas.{none_unmixed, one_unmixed, all_unmixed}
use Rattle.gd_cipher.proofs.schedules.unmix.Goals as goal

pub loop-i-init : goal.loop-i-init
loop-i-init c = none_unmixed c.args.words.now

pub loop-i-preserved : goal.loop-i-preserved
loop-i-preserved c = one_unmixed c.loop-i.i c.unmixed_column.result c.args.words.now c.loop-i.words (omega arith) (omega arith) c.unmixed_column.ensures c.loop-i.invariant

pub returns : goal.returns
returns c rounds long = all_unmixed rounds c.loop-i.i c.args.words.now c.loop-i.words long (omega (arith, long)) (omega (arith, long)) c.loop-i.invariant
