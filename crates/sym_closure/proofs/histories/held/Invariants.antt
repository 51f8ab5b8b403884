use Rattle.std.proofs.Common.{[], take, map}
use Rattle.group_terms.specs.declared.keys.KeyName.TheVariants.{Phase}
use Rattle.group_model.specs.Derivations.{held_names}
use Rattle.sym_closure.specs.Private.Gains.{Gains}
use Rattle.sym_closure.proofs.histories.held.Given as goal

-- the phase 1 keys so far
abbrev pub invariant-loop-member : goal.invariant-loop-member
invariant-loop-member l = Gains [] (map Phase (take l.member-index l.fn.members)) l.names

-- and the keys of the replies so far
abbrev pub invariant-loop-entry : goal.invariant-loop-entry
invariant-loop-entry l = Gains [] (held_names (take l.entry-index l.fn.history) l.fn.members) l.names
