-- What a refusal shows of itself to a programmer: of another HASH neither, since with the one that is due a datagram would be taken.
use Rattle.std.specs.Prelude.{ℕ, List, Option, Some, None, codes}
use Rattle.member_pull.specs.declared.refusals.PullRefusal.{PullRefusal}
use Rattle.member_pull.specs.declared.refusals.PullRefusal.TheVariants.{WrongStep, Malformed, BadHash, NoMemory}

-- where it is said, all that it shows
abbrev pub shown_refusal : PullRefusal → Option (List ℕ)
shown_refusal WrongStep = Some (codes "WrongStep")
shown_refusal (Malformed at) = None
shown_refusal (BadHash carried expected) = Some (codes "BadHash { .. }")
shown_refusal NoMemory = Some (codes "NoMemory")
