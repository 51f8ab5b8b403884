-- What comes of making a group, and of opening one.
use Rattle.std.specs.Prelude.{◌≡◌, ℕ, Option}
use Rattle.gd_disk.specs.declared.disks.Disk.{Ghosts as DiskGhosts}
use Rattle.gd_edges.specs.declared.draws.Draws.{Ghosts as DrawGhosts}
use Rattle.group_model.specs.declared.entries.Answer.{Answer}
use Rattle.group_model.specs.declared.entries.Answer.TheVariants.{Refused}
use Rattle.group_model.specs.declared.entries.Asked.{Asked}
use Rattle.group_model.specs.declared.entries.Outside.{Outside}
use Rattle.group_model.specs.declared.entries.PushPair.{PushPair}
use Rattle.group_model.specs.declared.entries.Refusal.{Refusal}
use Rattle.gcks_core.specs.declared.outputs.Parts.{Parts}
use Rattle.server_steps.specs.Entries.{noted}
use Rattle.server_steps.specs.Hosts.{Host}
use Rattle.server_steps.specs.Reflects.{IsServerOf}
use Rattle.server_steps.specs.Serves.{answer_opened}
use Rattle.server_steps.specs.Steps.{IsHostStep}
use Rattle.server_steps.specs.Views.{View}

module _ {D G R : Type 0} (d : DiskGhosts D) (draws : DrawGhosts R) (step : Host D → Answer → Outside → Host D → Type 0) (request : Asked) (start : Host D)
    (parts : Parts D G R) where
  -- The group is open, by a step of this kind: this is the server of the host after it, with the signer and the blocks of the parts. This pair, if there is
  -- one, was sent again.
  pub record Opens (view : View D G R) (resent : Option PushPair) : Type 0 where
    pub next : Host D
    pub stepped : IsHostStep d step start (noted request (answer_opened next.server resent) (draws.place_of parts.draws)) next
    pub server : IsServerOf d draws view next
    pub signer : view.core.signer ≡ parts.signer
    pub blocks : (k : ℕ) → draws.block_at view.core.draws k ≡ draws.block_at parts.draws k

  -- That was refused, by a step of this kind, and these parts come back: the disk and the place of the draws are those of the host after it.
  pub record FailsToOpen (why : Refusal) (back : Parts D G R) : Type 0 where
    pub next : Host D
    pub stepped : IsHostStep d step start (noted request (Refused why) (draws.place_of parts.draws)) next
    pub disk : next.disk ≡ back.disk
    pub place : next.server.place ≡ draws.place_of back.draws
    pub signer : back.signer ≡ parts.signer
    pub blocks : (k : ℕ) → draws.block_at back.draws k ≡ draws.block_at parts.draws k
