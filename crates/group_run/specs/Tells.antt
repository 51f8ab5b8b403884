-- What comes of the next datagram that is on its way (RFC 6407 section 3.2).
use Rattle.std.specs.Prelude.{◌≡◌, ◌⊎◌, ℕ, List, Some}
use Rattle.gd_disk.specs.declared.disks.Disk.{Ghosts as DiskGhosts}
use Rattle.gd_edges.specs.declared.draws.Draws.{Ghosts as DrawGhosts}
use Rattle.gd_edges.specs.declared.signers.Signer.{Ghosts as SignerGhosts}
use Rattle.group_terms.specs.Names.{Name}
use Rattle.group_model.specs.declared.entries.Asked.TheVariants.{Keep, Serve}
use Rattle.group_run.specs.Moves.{Acts, Serves}
use Rattle.group_run.specs.Reads.{AreAtRest, ReadsMail}
use Rattle.group_run.specs.Views.{View}
use Rattle.member_steps.specs.Acts.{Agrees, Ignores}
use Rattle.member_steps.specs.Members.{Members}
use Rattle.member_steps.specs.Steps.{IsKeeping}

module _ {D G R : Type 0} (d : DiskGhosts D) (g : SignerGhosts G) (draws : DrawGhosts R) where
  -- a member answered a second message by the third one, which was served
  pub record SendsNext (old new : View D G R) : Type 0 where
    pub m : Name
    pub third : List ℕ
    pub acted : Members
    pub asks : ReadsMail old.members (Some (Serve m third, acted))
    pub serves : Serves d g draws acted (Serve m third) old new

  -- a datagram went missing, or a member took the keys of its fourth message
  pub record KeepsNext (old new : View D G R) : Type 0 where
    pub m : Name
    pub acted : Members
    pub asks : ReadsMail old.members (Some (Keep m, acted))
    pub acts : Acts d draws (IsKeeping m) acted (Keep m) old new

  -- nothing was left but what members ignore, and no entry was added
  pub record AllIsRead (old new : View D G R) : Type 0 where
    pub rest : Members
    pub at_rest : AreAtRest old.members rest
    pub now : new ≡ record old { members = rest }

-- Memory ran out before anything was asked: server and history stay; members ignored some of what was on its way, and perhaps one answered a second message.
pub record HasReadSome {D G R : Type 0} (old new : View D G R) : Type 0 where
  pub server : new.server ≡ old.server
  pub entries : new.entries ≡ old.entries
  pub read : Members
  pub ignored : Ignores old.members read
  pub rest : (new.members ≡ read) ⊎ ((m : Name) × (third : List ℕ) × Agrees m third read new.members)
