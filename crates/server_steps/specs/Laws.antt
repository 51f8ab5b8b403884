-- What follows where a key server serves one request after the other.
use Rattle.std.specs.Prelude.{◌≡◌, List, ◌∷◌, ◌++◌, [], Option, Result}
use Rattle.gd_disk.specs.declared.disks.Disk.{Ghosts as DiskGhosts}
use Rattle.gd_edges.specs.declared.draws.Draws.{Ghosts as DrawGhosts}
use Rattle.gd_edges.specs.declared.signers.Signer.{Ghosts as SignerGhosts}
use Rattle.group_model.specs.declared.entries.Answer.{Answer}
use Rattle.group_model.specs.declared.entries.Asked.{Asked}
use Rattle.group_model.specs.declared.entries.Asked.TheVariants.{Reopen}
use Rattle.group_model.specs.declared.entries.Entry.{Entry}
use Rattle.group_model.specs.declared.entries.PushPair.{PushPair}
use Rattle.group_model.specs.declared.entries.Refusal.{Refusal}
use Rattle.group_model.specs.Servers.{Server}
use Rattle.gcks_core.specs.Stands.{Stands}
use Rattle.server_steps.specs.Entries.{noted}
use Rattle.server_steps.specs.Serves.{IsSince, Serves, ServesReopening, Start, answer_reopened}
use Rattle.server_steps.specs.Views.{View}

module _ {D G R : Type 0} (d : DiskGhosts D) (g : SignerGhosts G) (draws : DrawGhosts R) where
  -- a server, and the history up to now: no entry was added since
  abbrev pub BeginsNow : Type 0
  BeginsNow = (view : View D G R) (entries : List Entry) → IsSince d g draws (record { server = view; before = entries }) view entries

  -- and one more request was served, of which the entry was added
  abbrev pub GoesOnSince : Type 0
  GoesOnSince =
      (start : Start D G R) (old new : View D G R) (entries : List Entry) (request : Asked) (answer : Answer) → IsSince d g draws start old entries
      → Serves d g draws request answer old new
      → IsSince d g draws start new (entries ++ noted request answer (draws.place_of old.core.draws) ∷ [])

  -- A group that was opened again was served so, where the answer shows it.
  abbrev pub ReopeningsAreServed : Type 0
  ReopeningsAreServed =
      (result : Result (Option PushPair) Refusal) (answer : Answer) (old new : View D G R) → ServesReopening d g draws result old new
      → ((server : Server) → Stands draws new.core server → answer ≡ answer_reopened server result) → Serves d g draws Reopen answer old new
