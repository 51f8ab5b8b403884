-- What an answer to a datagram sends.
use Rattle.std.specs.Prelude.{ℕ, List, [], ◌∷◌}
use Rattle.group_model.specs.declared.entries.Answer.{Answer}
use Rattle.group_model.specs.declared.entries.Answer.TheVariants.{Datagram}

-- a message, or nothing
abbrev pub datagrams_in : Answer → List (List ℕ)
datagrams_in (Datagram octets names) = octets ∷ []
datagrams_in answer = []
