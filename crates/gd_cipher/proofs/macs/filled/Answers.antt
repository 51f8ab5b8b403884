use Rattle.std.proofs.Common.{◌++◌, length, replicate, drop, ap, ◌∙◌}
use Rattle.gd_cipher.proofs.MacLemmas.{zeros_behind}
use Rattle.gd_cipher.proofs.macs.filled.Goals as goal

pub returns : goal.returns
returns c = ap (λ ys. ys ++ drop (length c.args.key.now) (replicate 64 0)) c.copy_from_slice.ensures.after ∙ zeros_behind c.args.key.now 64
