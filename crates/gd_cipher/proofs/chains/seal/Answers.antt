-- Each turn seals one block more.
use Rattle.std.proofs.Common.{subst, sym, arith}
use Rattle.gd_cipher.specs.Words.{bytes_of}
use Rattle.gd_cipher.proofs.ChainLemmas.{SealsTo, SealsTo-none, SealsTo-part, IsSealed-all}
use Rattle.gd_cipher.proofs.StateLemmas.{AreBytes-state}
use Rattle.gd_cipher.proofs.chains.seal.Goals as goal

pub loop-i-init : goal.loop-i-init
loop-i-init c key are =
    subst (SealsTo 0 key c.args.iv.now c.args.text.now c.args.text.now) (sym c.read-before.ensures) (SealsTo-none key c.args.iv.now c.args.text.now c.told-iv)

pub loop-i-preserved : goal.loop-i-preserved
loop-i-preserved c key are =
    SealsTo-part c.loop-i.i key c.args.iv.now c.args.text.now c.loop-i.text (bytes_of c.loop-i.before) c.seal_first-sealed.new.text (bytes_of c.seal_first-sealed.result)
    c.told-iv (omega arith) (AreBytes-state c.seal_first-sealed.result (omega arith)).len (c.loop-i.invariant key are)
    (c.seal_first-sealed.ensures.sealed key are) c.seal_first-sealed.ensures.text

pub returns : goal.returns
returns c key are =
    IsSealed-all c.loop-i.i key c.args.iv.now c.args.text.now c.loop-i.text (bytes_of c.loop-i.before) c.loop-i.auto.text c.requires.whole c.loop-i-test.false (c.loop-i.invariant key are)
