-- The changes that wait after a request.
use Rattle.std.specs.Prelude.{List, [], ◌∷◌, ◌++◌}
use Rattle.group_terms.specs.Names.{Name}
use Rattle.group_terms.specs.declared.changes.Change.{Change}
use Rattle.group_terms.specs.declared.changes.Change.TheVariants.{Out}
use Rattle.group_model.specs.declared.entries.Answer.{Answer}
use Rattle.group_model.specs.declared.entries.Answer.TheVariants.{Done}

-- a leave that is granted is the last of them
abbrev pub queue_after_leave : List Change → Name → Answer → List Change
queue_after_leave queue m Done = queue ++ Out m ∷ []
queue_after_leave queue m answer = queue
