-- What comes of a datagram that was given to a pull as the fourth message.
use Rattle.std.specs.Prelude.{◌≡◌, IsErr, Result, Ok, Err}
use Rattle.group_terms.specs.declared.memory.NoMemory.{NoMemory}
use Rattle.group_terms.specs.declared.paths.Keyed.{Keyed}
use Rattle.group_peers.specs.declared.pulled.Pulled.{Pulled}
use Rattle.group_peers.specs.declared.pulled.Pulled.TheVariants.{Ignored, Told}
use Rattle.member_pull.specs.declared.refusals.PullRefusal.{PullRefusal}
use Rattle.member_pull.specs.declared.refusals.PullRefusal.TheVariants as refusals

-- keys, or nothing that was waited for; or out of memory
abbrev pub IsPulledBy : Result Keyed PullRefusal → Result Pulled NoMemory → Type 0
IsPulledBy (Ok keyed) result = result ≡ Ok (Told keyed)
IsPulledBy (Err refusals.NoMemory) result = IsErr result
IsPulledBy (Err why) result = result ≡ Ok Ignored
