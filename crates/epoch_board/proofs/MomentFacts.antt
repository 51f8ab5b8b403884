-- What a look from the memory of a pass would be: one that adds no moment to the history.
use Rattle.std.proofs.Common.{◌≡◌, ap, arith, List, [], ◌∷◌, ◌++◌, length}
use Rattle.std.proofs.lemmas.List.{length-append}
use Rattle.epoch_board.specs.Moments.{EndsWith}
use Rattle.epoch_board.specs.declared.moments.Moment.{Moment}
use Rattle.epoch_board.specs.declared.moments.Moment.TheVariants.{Looked}

a_look_is_one_moment_more : (moments : List Moment) → EndsWith Looked moments moments → ⊥
a_look_is_one_moment_more moments ends =
    omega (arith, ap (λ (all : List Moment). length all) ends.1, length-append (moments ++ ends.0) (Looked ∷ []), length-append moments ends.0)
