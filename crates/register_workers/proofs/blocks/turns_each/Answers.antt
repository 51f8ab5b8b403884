use Rattle.std.proofs.Common.{ℕ, zero, suc, ◌+◌, ◌*◌, ◌≤◌, ◌/◌, ◌%◌, min, arith}
use Rattle.std.proofs.Math.Nat.{div-le_self, min-le_left}
use Rattle.std.proofs.lemmas.Grind.{div_ceil_times}
use Rattle.register_workers.proofs.blocks.turns_each.Goals as goal

some_rounds : (rounds workers lines : ℕ) → lines ≤ rounds * workers → 1 ≤ lines → 1 ≤ rounds
some_rounds zero workers lines few some = omega (arith, few, some)
some_rounds (suc rounds) workers lines few some = omega arith

pub returns-clause-some : goal.returns-clause-some
returns-clause-some c =
    let lines = c.args.lines in
    let workers = c.args.workers in
    let some = some_rounds (lines / workers + min 1 (lines % workers)) workers lines (div_ceil_times lines workers c.requires.workers).0 c.requires.lines.0 in
    omega (arith, some, c.div_ceil.ensures)

pub returns-clause-few : goal.returns-clause-few
returns-clause-few c =
    let lines = c.args.lines in
    let workers = c.args.workers in
    omega (arith, div-le_self lines workers, min-le_left 1 (lines % workers), c.requires.lines.1, c.div_ceil.ensures)
