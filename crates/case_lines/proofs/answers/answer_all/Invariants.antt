use Rattle.case_lines.proofs.answers.answer_all.Given as goal

abbrev pub invariant-loop-line : goal.invariant-loop-line
invariant-loop-line g l = g.C.Cases.Ready l.cases
