use Rattle.std.proofs.Common.{take_all, subst, arith}
use Rattle.std.specs.List.{All}
use Rattle.std.proofs.lemmas.List.Elements.{All-more}
use Rattle.kd_wire.specs.Texts.{PathKeyFits}
use Rattle.kd_wire.proofs.fits.prove_path_keys_fit.Goals as goal

pub loop-key-preserved : goal.loop-key-preserved
loop-key-preserved c =
    let key = c.key-item.result in
    let fits = subst PathKeyFits c.key-item.is c.prove_path_key_fits.ensures in
    All-more PathKeyFits c.args.keys.now c.loop-key.key-index key c.loop-key-test.true c.loop-key.invariant fits

pub returns : goal.returns
returns c = subst (All PathKeyFits) (take_all c.loop-key.key-index c.args.keys.now (omega arith)) c.loop-key.invariant
