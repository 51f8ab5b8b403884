use Rattle.std.proofs.Common.{◌≡◌, drop}
use Rattle.std.specs.List.{fold}
use Rattle.group_model.specs.declared.entries.Entry.{Entry}
use Rattle.script_text.specs.Private.Tallies.{tallied}
use Rattle.script_text.specs.Summary.{after_answer}
use Rattle.script_text.proofs.tallies.Tally.take_all.Given as goal

-- what the entries that are left tell after those before them, all of them tell
abbrev pub invariant-loop-entry : goal.invariant-loop-entry
invariant-loop-entry l =
    fold (λ told (entry : Entry). after_answer told entry.answer entry.asked) (tallied l.self) (drop l.entry-index l.history)
    ≡ fold (λ told (entry : Entry). after_answer told entry.answer entry.asked) (tallied l.fn.self) l.history
