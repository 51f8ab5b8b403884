use Rattle.std.proofs.Common.{◌≡◌, ◌++◌, take}
use Rattle.group_model.specs.Derivations.{told_pairs}
use Rattle.sym_closure.proofs.histories.add_keys.Given as goal

-- the keys so far
abbrev pub invariant-loop-name : goal.invariant-loop-name
invariant-loop-name l = l.pairs ≡ l.fn.pairs ++ told_pairs l.fn.member (take l.name-index l.names)
