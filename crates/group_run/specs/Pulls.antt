-- What is asked of a server for a member's pull (RFC 6407 section 3).
use Rattle.std.specs.Prelude.{◌≡◌, ◌⊎◌, ℕ, List, Option, None, Some}
use Rattle.gd_disk.specs.declared.disks.Disk.{Ghosts as DiskGhosts}
use Rattle.gd_edges.specs.declared.draws.Draws.{Ghosts as DrawGhosts}
use Rattle.gd_edges.specs.declared.signers.Signer.{Ghosts as SignerGhosts}
use Rattle.group_terms.specs.Names.{Name}
use Rattle.group_terms.specs.declared.phases.Phase1.{Phase1}
use Rattle.group_model.specs.declared.entries.Asked.TheVariants.{Again, Introduce, Serve}
use Rattle.group_peers.specs.Peers.{phase_of, sent_by}
use Rattle.group_run.specs.Moves.{Acts, Serves}
use Rattle.group_run.specs.Views.{View}
use Rattle.member_steps.specs.Acts.{BeginsPull, IsUse}
use Rattle.member_steps.specs.Members.{Members}
use Rattle.member_steps.specs.Steps.{HasSentNothing}

-- Memory ran out before anything was asked: server and history stay, and so do the members, or this one has begun its pull where the members' draws have these
-- blocks.
pub record HasBegunAtMost {D G R : Type 0} (block : ℕ → List ℕ) (group m : Name) (old new : View D G R) : Type 0 where
  pub server : new.server ≡ old.server
  pub entries : new.entries ≡ old.entries
  pub members : (new.members ≡ old.members) ⊎ BeginsPull block group m old.members new.members

module _ {D G R : Type 0} (d : DiskGhosts D) (g : SignerGhosts G) (draws : DrawGhosts R) where
  -- a member sends what it sent last once more; where it sent nothing, nothing happens
  abbrev pub SendsAgain : Option (List ℕ) → Name → View D G R → View D G R → Type 0
  SendsAgain None m old new = Acts d draws (HasSentNothing m) old.members (Again m) old new
  SendsAgain (Some datagram) m old new = Serves d g draws old.members (Serve m datagram) old new

  -- where the members' draws have these blocks
  module _ (block : ℕ → List ℕ) where
    -- the SA of a member is introduced, which is drawn at its first use
    pub record Introduces (m : Name) (old new : View D G R) : Type 0 where
      pub used : Members
      pub uses : IsUse block m old.members used
      pub phase : Phase1
      pub is : phase_of used.all m ≡ Some phase
      pub serves : Serves d g draws used (Introduce phase) old new

    -- a member begins a pull for this group, and its first message is served
    pub record Pulls (group m : Name) (old new : View D G R) : Type 0 where
      pub acted : Members
      pub begins : BeginsPull block group m old.members acted
      pub datagram : List ℕ
      pub sent : sent_by acted.all m ≡ Some datagram
      pub serves : Serves d g draws acted (Serve m datagram) old new
