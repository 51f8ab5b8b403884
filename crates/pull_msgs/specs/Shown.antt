-- What a refusal shows of itself to a programmer: of another HASH neither, since with the one that is due a datagram would be taken.
use Rattle.std.specs.Prelude.{ℕ, List, Option, Some, None, codes}
use Rattle.pull_msgs.specs.declared.faults.PullFault.{PullFault}
use Rattle.pull_msgs.specs.declared.faults.PullFault.TheVariants.{Malformed, BadHash, NoMemory}

-- where it is said, all that it shows
abbrev pub shown_fault : PullFault → Option (List ℕ)
shown_fault (Malformed fault) = None
shown_fault (BadHash carried expected) = Some (codes "BadHash { .. }")
shown_fault NoMemory = Some (codes "NoMemory")
