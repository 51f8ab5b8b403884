-- What a refusal shows of itself to a programmer: for another HASH neither value, since with the one that is due a datagram would be taken.
use Rattle.std.specs.Prelude.{ℕ, List, Option, Some, None, codes}
use Rattle.pull_sessions.specs.declared.refusals.SessionRefusal.{SessionRefusal}
use Rattle.pull_sessions.specs.declared.refusals.SessionRefusal.TheVariants.{BadHash, Malformed, NoMemory, PhaseFull, PhaseTaken, UnknownPeer, WrongStep}

-- where it is said, all that it shows
abbrev pub shown_refusal : SessionRefusal → Option (List ℕ)
shown_refusal (Malformed message at) = None
shown_refusal UnknownPeer = Some (codes "UnknownPeer")
shown_refusal WrongStep = Some (codes "WrongStep")
shown_refusal (BadHash carried expected) = Some (codes "BadHash { .. }")
shown_refusal PhaseTaken = Some (codes "PhaseTaken")
shown_refusal (PhaseFull held) = None
shown_refusal NoMemory = Some (codes "NoMemory")
