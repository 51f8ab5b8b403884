-- Each turn opens one block more.
use Rattle.std.proofs.Common.{subst, sym, arith}
use Rattle.gd_cipher.specs.Words.{bytes_of}
use Rattle.gd_cipher.proofs.ChainLemmas.{OpensTo, OpensTo-none, OpensTo-part, IsOpened-all}
use Rattle.gd_cipher.proofs.chains.open.Goals as goal

pub loop-i-init : goal.loop-i-init
loop-i-init c key are =
    subst (OpensTo 0 key c.args.iv.now c.args.text.now c.args.text.now) (sym c.read-before.ensures) (OpensTo-none key c.args.iv.now c.args.text.now c.told-iv)

pub loop-i-preserved : goal.loop-i-preserved
loop-i-preserved c key are =
    OpensTo-part c.loop-i.i key c.args.iv.now c.args.text.now c.loop-i.text (bytes_of c.loop-i.before) c.open_first-sealed.new.text (bytes_of c.open_first-sealed.result)
    c.told-iv (omega arith) (c.loop-i.invariant key are) c.open_first-sealed.ensures.sealed c.open_first-sealed.auto.text (c.open_first-sealed.ensures.text key are)

pub returns : goal.returns
returns c key are =
    IsOpened-all c.loop-i.i key c.args.iv.now c.args.text.now c.loop-i.text (bytes_of c.loop-i.before) c.loop-i.auto.text c.requires.whole c.loop-i-test.false (c.loop-i.invariant key are)
