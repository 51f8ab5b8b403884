use Rattle.std.proofs.Common.{take}
use Rattle.std.specs.List.{All}
use Rattle.kd_wire.specs.Texts.{PathKeyFits}
use Rattle.kd_wire.proofs.fits.prove_path_keys_fit.Given as goal

abbrev pub invariant-loop-key : goal.invariant-loop-key
invariant-loop-key l = All PathKeyFits (take l.key-index l.fn.keys)
