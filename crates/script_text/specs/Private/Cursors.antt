-- The lines of the soak that are left, by where it has come.
use Rattle.std.specs.Prelude.{ℕ, ◌+◌, ◌-◌, List, ◌∷◌, ◌++◌, codes}
use Rattle.script_text.specs.Soak.{joins_from, leaves_from, rounds_from, state_after}
use Rattle.script_text.specs.declared.lines.Line.{Line}
use Rattle.script_text.specs.declared.lines.Line.TheVariants.{Allow, Batch, DeliverAll, End}
use Rattle.script_text.specs.declared.soaks.Cursor.{Cursor}
use Rattle.script_text.specs.declared.soaks.Stage.{Stage}
use Rattle.script_text.specs.declared.soaks.Stage.TheVariants.{Rule, Round, Joins, Leaves, Pushes}

-- what comes after the joins of a round: leaves, from this state on, the batch, its pushes, and the rounds after this one
abbrev pub leaves_on : ℕ → ℕ → ℕ → List Line
leaves_on left x rounds = leaves_from x left ++ (Batch ∷ DeliverAll ∷ rounds_from (state_after x left) rounds)

-- the lines from a stage on, with this state and this number of rounds after the present one
abbrev pub lines_on : Stage → ℕ → ℕ → List Line
lines_on Rule x rounds = Allow (codes "*") ∷ rounds_from x rounds
lines_on Round x rounds = rounds_from x rounds
lines_on (Joins first done) x rounds = joins_from (first + done) (12 - done) ++ (End ∷ leaves_on 5 x rounds)
lines_on (Leaves left) x rounds = leaves_on left x rounds
lines_on Pushes x rounds = DeliverAll ∷ rounds_from x rounds

-- the lines that are left
abbrev pub lines_left : Cursor → List Line
lines_left cursor = lines_on cursor.stage cursor.state cursor.rounds
