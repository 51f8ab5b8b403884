use Rattle.std.proofs.Common.{bit_xor}
use Rattle.gd_cipher.proofs.MacLemmas.{changed_below_more, xor_all-changed}
use Rattle.gd_cipher.proofs.macs.with_pad.Goals as goal

pub loop-byte-preserved : goal.loop-byte-preserved
loop-byte-preserved c = changed_below_more (λ x. bit_xor x c.args.pad) c.args.block c.loop-byte.byte-items c.loop-byte.byte-index c.loop-byte.invariant

pub returns : goal.returns
returns c = xor_all-changed c.args.block c.loop-byte.byte-items c.loop-byte.byte-index 64 c.args.pad c.loop-byte-test.array_long c.loop-byte-test.false c.loop-byte.invariant
