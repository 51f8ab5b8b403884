use Rattle.std.proofs.Common.{◌≡◌, ◌-◌}
use Rattle.gd_cipher.specs.Ciphers.{after_rounds}
use Rattle.gd_cipher.specs.Words.{bytes_of}
use Rattle.gd_cipher.proofs.blocks.encrypt.Given as goal

abbrev pub invariant-loop-round : goal.invariant-loop-round
invariant-loop-round l = bytes_of l.state ≡ after_rounds (bytes_of l.words) (l.round - 1) (bytes_of l.fn.state)
