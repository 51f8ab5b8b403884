use Rattle.std.proofs.Common.{[], take}
use Rattle.group_model.specs.Derivations.{AreAtHand}
use Rattle.sym_closure.proofs.derivations.each_is_at_hand.Given as goal

-- the keys so far are at hand
abbrev pub invariant-loop-place : goal.invariant-loop-place
invariant-loop-place l = AreAtHand l.have l.pairs [] (take l.place l.names)
