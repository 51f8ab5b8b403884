use Rattle.std.proofs.Common.{◌≡◌, ◌++◌, ◌||◌, drop, eqb}
use Rattle.std.specs.List.{filter}
use Rattle.key_tree.specs.declared.marks.Renewed.{Renewed}
use Rattle.key_tree.specs.Marks.{ids_renewed}
use Rattle.key_tree.proofs.preparing.drawn.Given as goal

-- those so far, and those that are left
abbrev pub invariant-loop-found : goal.invariant-loop-found
invariant-loop-found l =
    l.ids ++ ids_renewed (filter (λ (found : Renewed). eqb found.id 1 || found.held) (drop l.found-index l.renewed))
    ≡ ids_renewed (filter (λ (found : Renewed). eqb found.id 1 || found.held) l.renewed)
