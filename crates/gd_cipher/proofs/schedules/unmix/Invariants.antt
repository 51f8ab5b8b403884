use Rattle.gd_cipher.proofs.UnmixLemmas.{AreUnmixedTo}
use Rattle.gd_cipher.proofs.schedules.unmix.Given as goal

abbrev pub invariant-loop-i : goal.invariant-loop-i
invariant-loop-i l = AreUnmixedTo l.i l.fn.words l.words
