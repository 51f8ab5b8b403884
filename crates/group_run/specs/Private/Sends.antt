-- A member's datagram that the server is given.
use Rattle.std.specs.Prelude.{◌≡◌, ℕ, List, [], ◌∷◌, ◌++◌, None, Some}
use Rattle.gd_disk.specs.declared.disks.Disk.{Ghosts as DiskGhosts}
use Rattle.gd_edges.specs.declared.draws.Draws.{Ghosts as DrawGhosts}
use Rattle.gd_edges.specs.declared.signers.Signer.{Ghosts as SignerGhosts}
use Rattle.group_terms.specs.Names.{Name}
use Rattle.group_model.specs.declared.entries.Answer.{Answer}
use Rattle.group_model.specs.declared.entries.Asked.TheVariants.{Serve}
use Rattle.group_model.specs.declared.entries.Entry.{Entry}
use Rattle.group_peers.specs.Peers.{sent_by}
use Rattle.group_peers.specs.declared.members.Peer.{Peer}
use Rattle.server_steps.specs.Entries.{noted}
use Rattle.server_steps.specs.Sent.{pair_by}
use Rattle.server_steps.specs.Serves.{Serves}
use Rattle.server_steps.specs.Views.{View}

-- what the member sent last was served, and the entry of that was added
pub record IsSent {D G R : Type 0} (d : DiskGhosts D) (g : SignerGhosts G) (draws : DrawGhosts R) (peers : List Peer) (m : Name) (old new : View D G R)
    (before after : List Entry) : Type 0 where
  pub datagram : List ℕ
  pub sent : sent_by peers m ≡ Some datagram
  pub answer : Answer
  pub no_push : pair_by answer ≡ None
  pub serves : Serves d g draws (Serve m datagram) answer old new
  pub added : after ≡ before ++ noted (Serve m datagram) answer (draws.place_of old.core.draws) ∷ []
