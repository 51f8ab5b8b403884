-- The history of a board, of which each publication and each look is one moment.
use Rattle.std.specs.Prelude.{◌≡◌, List, [], ◌∷◌, ◌++◌}
use Rattle.epoch_board.specs.declared.pairs.Seen.{Seen}
use Rattle.epoch_board.specs.declared.moments.Moment.{Moment}
use Rattle.epoch_board.specs.declared.moments.Moment.TheVariants.{Published, Looked}

-- the pairs that were published in a history, in order
abbrev pub pairs_in : List Moment → List Seen
pairs_in [] = []
pairs_in (Published pair ∷ moments) = pair ∷ pairs_in moments
pairs_in (Looked ∷ moments) = pairs_in moments

-- a history goes on from another one, and ends with this moment
abbrev pub EndsWith : Moment → List Moment → List Moment → Type 0
EndsWith moment before after = (between : List Moment) × (after ≡ (before ++ between) ++ moment ∷ [])
