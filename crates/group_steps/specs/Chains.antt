-- Entries, one after the other, each of which leads from one state to the next.
use Rattle.std.specs.Prelude.{◌≡◌, List, [], ◌∷◌, ◌++◌}
use Rattle.group_model.specs.declared.entries.Entry.{Entry}

-- what leads from one state to the next may depend on the entries before it
module _ {R : Type 0} (step : List Entry → R → Entry → R → Type 0) where
  -- each entry is such a step from the state that those before it left, and the last one leaves the state at the end
  abbrev pub Along : List Entry → R → List Entry → R → Type 0
  Along before run [] after = after ≡ run
  Along before run (entry ∷ entries) after = (next : R) × step before run entry next × Along (before ++ entry ∷ []) next entries after
