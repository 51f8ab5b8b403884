use Rattle.std.proofs.Common.{List, ℕ}
use Rattle.gd_cipher.specs.Words.{bytes_of}
use Rattle.gd_cipher.specs.Private.RoundKeys.{AreOpeningKeys}
use Rattle.gd_cipher.proofs.ChainLemmas.{OpensTo}
use Rattle.gd_cipher.proofs.chains.open.Given as goal

abbrev pub invariant-loop-i : goal.invariant-loop-i
invariant-loop-i l = (key : List ℕ) → AreOpeningKeys key l.rounds l.words → OpensTo l.i key l.iv l.fn.text l.text (bytes_of l.before)
