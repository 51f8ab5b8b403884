-- What the entries of a history sent to members, and what of it is on its way.
use Rattle.std.specs.Prelude.{ℕ, List, [], ◌∷◌, drop, Option, None, Some}
use Rattle.std.specs.List.{flat_map}
use Rattle.group_model.specs.declared.entries.Answer.{Answer}
use Rattle.group_model.specs.declared.entries.Asked.{Asked}
use Rattle.group_model.specs.declared.entries.Asked.TheVariants.{Batch, Serve}
use Rattle.group_model.specs.declared.entries.Entry.{Entry}
use Rattle.group_steps.specs.Gets.{mail_by, mail_to}
use Rattle.member_steps.specs.Members.{Mail}

-- what the answer to a request sends
abbrev pub mail_of_answer : Asked → Answer → List Mail
mail_of_answer (Serve m datagram) answer = mail_to m answer
mail_of_answer Batch answer = mail_by answer
mail_of_answer asked answer = []

-- what an entry does
abbrev pub mail_in : Entry → List Mail
mail_in entry = mail_of_answer entry.asked entry.answer

-- what entries sent from a place on, but for the first datagrams, as many as were taken
abbrev pub mail_since : List Entry → ℕ → ℕ → List Mail
mail_since entries place taken = drop taken (flat_map mail_in (drop place entries))

-- the first of some datagrams
abbrev pub first_of : List Mail → Option Mail
first_of [] = None
first_of (mail ∷ later) = Some mail
