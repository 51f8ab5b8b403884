-- The script of the soak: rounds of a block of joins, leaves, a batch and its pushes. A linear congruential generator draws the names (with the constants of
-- Knuth, The Art of Computer Programming, volume 2, section 3.3.4).
use Rattle.std.specs.Prelude.{ℕ, zero, suc, ◌+◌, ◌*◌, ◌/◌, ◌%◌, ◌^◌, List, [], ◌∷◌, ◌++◌, Option, codes, slice_get}
use Rattle.std.specs.Fmt.{decimal}
use Rattle.std.specs.List.{flat_map}
use Rattle.group_terms.specs.Names.{Name}
use Rattle.script_text.specs.Written.{ended_line}
use Rattle.script_text.specs.declared.lines.Line.{Line}
use Rattle.script_text.specs.declared.lines.Line.TheVariants.{Allow, Join, Leave, Batch, DeliverAll, Together, End}

-- the state of the generator after one draw
unfoldable pub next_state : ℕ → ℕ
next_state x = (x * 6364136223846793005 + 1442695040888963407) % 2 ^ 64

-- what a draw gives that left this state: the state without its low 33 bits, modulo the number of names
unfoldable pub number_drawn : ℕ → ℕ
number_drawn x = x / 2 ^ 33 % 80

-- the state after n draws
unfoldable pub state_after : ℕ → ℕ → ℕ
state_after x zero = x
state_after x (suc n) = state_after (next_state x) n

-- the name of a number
abbrev pub soak_member : ℕ → Name
soak_member number = codes "m" ++ decimal number

-- n joins of names one after the other, from this number on; after the last name comes the first one
unfoldable pub joins_from : ℕ → ℕ → List Line
joins_from number zero = []
joins_from number (suc n) = Join (soak_member (number % 80)) ∷ joins_from (number + 1) n

-- n leaves of names that are drawn, from this state on; a name may come twice
unfoldable pub leaves_from : ℕ → ℕ → List Line
leaves_from x zero = []
leaves_from x (suc n) = Leave (soak_member (number_drawn (next_state x))) ∷ leaves_from (next_state x) n

-- a round, from this state on: a block of twelve joins, from a number that is drawn; five leaves; a batch, and its pushes
abbrev pub round_from : ℕ → List Line
round_from x =
    Together ∷ (joins_from (number_drawn (next_state x)) 12
    ++ (End ∷ (leaves_from (next_state x) 5
    ++ (Batch ∷ DeliverAll ∷ []))))

-- n rounds, from this state on; each draws six numbers
unfoldable pub rounds_from : ℕ → ℕ → List Line
rounds_from x zero = []
rounds_from x (suc n) = round_from x ++ rounds_from (state_after x 6) n

-- everybody may join; then come forty rounds, and the generator begins at the number of the soak
unfoldable pub soak_lines : ℕ → List Line
soak_lines number = Allow (codes "*") ∷ rounds_from number 40

-- the line at a place, counted from 0, where there is one
abbrev pub soak_line_of : ℕ → ℕ → Option Line
soak_line_of number index = slice_get (soak_lines number) index

-- the script of a soak as octets: its lines as they are written, each with its line end
unfoldable pub soak_script : ℕ → List ℕ
soak_script number = flat_map ended_line (soak_lines number)
