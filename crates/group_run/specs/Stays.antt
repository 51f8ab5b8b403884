-- What stays where a request is made, and what a rule changes.
use Rattle.std.specs.Prelude.{◌≡◌, ◌+◌, List, [], ◌∷◌, ◌++◌, length}
use Rattle.group_terms.specs.declared.patterns.Rule.{Rule}
use Rattle.group_model.specs.declared.entries.Answer.{Answer}
use Rattle.group_model.specs.declared.entries.Answer.TheVariants.{Refused, RuleNumber}
use Rattle.group_model.specs.declared.entries.Entry.{Entry}
use Rattle.group_model.specs.declared.entries.Refusal.TheVariants.{NoMemory}
use Rattle.group_run.specs.Views.{View}

-- the rules of who may join, and the place of the next block that is drawn for members
pub record RulesStay {D G R : Type 0} (old new : View D G R) : Type 0 where
  pub rules : new.server.rules ≡ old.server.rules
  pub place : new.members.place ≡ old.members.place

-- and what is on its way to them
pub record MailStays {D G R : Type 0} (old new : View D G R) : Type 0 where
  pub rules_stay : RulesStay old new
  pub mail : new.members.mail ≡ old.members.mail

-- a rule comes after all others, and the answer is its number; or the rules stay, since the server was out of memory
abbrev pub TakesRule : Answer → Rule → List Rule → List Rule → Type 0
TakesRule (RuleNumber number) rule old new = (number ≡ length old + 1) × (new ≡ old ++ rule ∷ [])
TakesRule answer rule old new = (answer ≡ Refused NoMemory) × (new ≡ old)

-- by the answer of the entry that was added
pub record AddsRule {D G R : Type 0} (rule : Rule) (old new : View D G R) : Type 0 where
  pub entry : Entry
  pub added : new.entries ≡ old.entries ++ entry ∷ []
  pub takes : TakesRule entry.answer rule old.server.rules new.server.rules
