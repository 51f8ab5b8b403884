-- What turns ask, and what workers are told of the answers.
use Rattle.std.specs.Prelude.{◌≡◌, Bool, true, false, Option}
use Rattle.group_model.specs.Answers.{ran_out}
use Rattle.group_model.specs.declared.entries.Answer.{Answer}
use Rattle.group_model.specs.declared.entries.Answer.TheVariants.{Datagram}
use Rattle.group_model.specs.declared.entries.Asked.{Asked}
use Rattle.group_model.specs.declared.entries.Asked.TheVariants as asked
use Rattle.group_model.specs.declared.entries.SymReply.{SymReply}
use Rattle.register_workers.specs.declared.requests.Request.{Request}
use Rattle.register_workers.specs.declared.requests.Request.TheVariants.{Serve, Leave, Batch}
use Rattle.register_workers.specs.declared.turns.Told.{Told}
use Rattle.register_workers.specs.declared.turns.Told.TheVariants as told

-- a request as the history has it
abbrev pub asked_of : Request → Asked
asked_of (Serve m datagram) = asked.Serve m datagram
asked_of (Leave m) = asked.Leave m
asked_of Batch = asked.Batch

-- whether an answer is a datagram
abbrev pub is_datagram : Answer → Bool
is_datagram (Datagram octets names) = true
is_datagram answer = false

-- what is told of an answer; where memory is short, that alone
abbrev pub Tells : Answer → Told → Type 0
Tells answer (told.Datagram octets) = (names : Option SymReply) × (answer ≡ Datagram octets names)
Tells answer told.Nothing = (is_datagram answer ≡ false) × (ran_out answer ≡ false)
Tells answer told.NoMemory = Unit {0}

-- whether it is told that memory was short
abbrev pub is_short : Told → Bool
is_short told.NoMemory = true
is_short t = false
