use Rattle.std.proofs.Common.{◌≡◌, take}
use Rattle.script_text.specs.Summary.{refused}
use Rattle.script_text.proofs.summaries.count_refused.Given as goal

-- how many of the entries before it were refused
abbrev pub invariant-loop-entry : goal.invariant-loop-entry
invariant-loop-entry l = l.refusals ≡ refused (take l.entry-index l.history)
