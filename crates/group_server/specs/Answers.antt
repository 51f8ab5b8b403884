-- What calls of the server answer, as answers of a history.
use Rattle.std.specs.Prelude.{ℕ, Result, Ok, Err}
use Rattle.group_model.specs.declared.entries.Answer.{Answer}
use Rattle.group_model.specs.declared.entries.Answer.TheVariants.{Datagram, Queued, Refused, RuleNumber}
use Rattle.group_model.specs.declared.entries.Refusal.{Refusal}
use Rattle.group_server.specs.declared.replies.Reply.{Reply}
use Rattle.group_server.specs.declared.replies.Reply.TheVariants as replies

-- the number of a rule
abbrev pub answer_rule : Result ℕ Refusal → Answer
answer_rule (Ok number) = RuleNumber number
answer_rule (Err why) = Refused why

-- what is answered to a datagram
abbrev pub answer_reply : Reply → Answer
answer_reply (replies.Datagram octets names) = Datagram octets names
answer_reply replies.Queued = Queued

abbrev pub answer_served : Result Reply Refusal → Answer
answer_served (Ok reply) = answer_reply reply
answer_served (Err why) = Refused why
