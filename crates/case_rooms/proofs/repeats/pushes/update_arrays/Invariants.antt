use Rattle.std.specs.Prelude.{replicate}
use Rattle.kd_wire.specs.Texts.{AreUpdateTexts}
use Rattle.case_rooms.proofs.repeats.pushes.update_arrays.Given as goal

-- the arrays that are written, all of one job
abbrev pub invariant-loop : goal.invariant-loop
invariant-loop l = AreUpdateTexts (replicate l.counter l.job) l.out
