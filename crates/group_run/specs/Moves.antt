-- What a request does.
use Rattle.std.specs.Prelude.{◌≡◌, [], ◌∷◌, ◌++◌}
use Rattle.gd_disk.specs.declared.disks.Disk.{Ghosts as DiskGhosts}
use Rattle.gd_edges.specs.declared.draws.Draws.{Ghosts as DrawGhosts}
use Rattle.gd_edges.specs.declared.signers.Signer.{Ghosts as SignerGhosts}
use Rattle.group_model.specs.declared.entries.Answer.{Answer}
use Rattle.group_model.specs.declared.entries.Asked.{Asked}
use Rattle.group_model.specs.declared.entries.Entry.{Entry}
use Rattle.group_model.specs.declared.entries.Outside.{Outside}
use Rattle.group_run.specs.Reflects.{Reflects}
use Rattle.group_run.specs.Views.{View}
use Rattle.group_steps.specs.Runs.{Run, with_members}
use Rattle.group_steps.specs.Steps.{IsActing, IsServing, IsStepBy}
use Rattle.member_steps.specs.Members.{Members}
use Rattle.server_steps.specs.Serves.{GoesOn}

-- One entry was added, which answers a request by such a step, once the members are these. Whatever run was reflected before, the entry is a step from it with
-- these members, and the run after that step is reflected then.
pub record Moves {D G R : Type 0} (d : DiskGhosts D) (draws : DrawGhosts R) (step : Run D → Answer → Outside → Run D → Type 0) (acted : Members)
    (request : Asked) (old new : View D G R) : Type 0 where
  pub entry : Entry
  pub added : new.entries ≡ old.entries ++ entry ∷ []
  pub asked : entry.asked ≡ request
  pub goes_on : GoesOn draws old.server new.server
  pub each : (run : Run D) → Reflects d draws old run
      → (next : Run D) × IsStepBy d step (with_members run acted) entry next × Reflects d draws new next

-- the server served the request, and what it sent is on its way to the members
abbrev pub Serves : {D G R : Type 0} → DiskGhosts D → SignerGhosts G → DrawGhosts R → Members → Asked → View D G R → View D G R → Type 0
Serves d g draws acted request old new =
    Moves d draws (IsServing d g old.server.core.signer (draws.block_at old.server.core.draws) request) acted request old new

-- a member acted so
abbrev pub Acts : {D G R : Type 0} → DiskGhosts D → DrawGhosts R → (Members → Answer → Members → Type 0) → Members → Asked → View D G R → View D G R → Type 0
Acts d draws acts acted request old new = Moves d draws (IsActing acts) acted request old new
