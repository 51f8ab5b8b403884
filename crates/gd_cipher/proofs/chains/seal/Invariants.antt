use Rattle.std.proofs.Common.{List, ℕ}
use Rattle.gd_cipher.specs.Words.{bytes_of}
use Rattle.gd_cipher.specs.Private.RoundKeys.{AreRoundKeys}
use Rattle.gd_cipher.proofs.ChainLemmas.{SealsTo}
use Rattle.gd_cipher.proofs.chains.seal.Given as goal

abbrev pub invariant-loop-i : goal.invariant-loop-i
invariant-loop-i l = (key : List ℕ) → AreRoundKeys key l.rounds l.words → SealsTo l.i key l.iv l.fn.text l.text (bytes_of l.before)
