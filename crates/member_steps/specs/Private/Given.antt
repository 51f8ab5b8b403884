-- What is answered where a push was given to a member.
use Rattle.std.specs.Prelude.{Option, None, Some, Result}
use Rattle.group_terms.specs.declared.pushes.PushRefusal.{PushRefusal}
use Rattle.group_model.specs.declared.entries.Answer.{Answer}
use Rattle.group_model.specs.declared.entries.Answer.TheVariants.{Nothing}
use Rattle.member_store.specs.declared.answers.Taken.{Taken}
use Rattle.member_steps.specs.Steps.{answer_of}

-- where its store answers so, if it has one
abbrev pub answer_if : Option (Result Taken PushRefusal) → Answer
answer_if None = Nothing
answer_if (Some result) = answer_of result
