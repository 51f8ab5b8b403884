-- The two directions of the bounded search.
use Rattle.group_terms.proofs.BelowLemmas.{IsBelow-from_test, test_from_halved}
use Rattle.group_terms.proofs.positions.steps_are_at_most_the_depth.Goals as goal

pub returns : goal.returns
returns c depth v x positive small =
    (IsBelow-from_test depth v x, λ below. test_from_halved depth below.0 v x positive small below.1)
