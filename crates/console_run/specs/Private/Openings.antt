-- How a group is opened.
use Rattle.std.specs.Prelude.{ℕ, List}
use Rattle.command_words.specs.declared.commands.Opening.{Opening}
use Rattle.command_words.specs.declared.commands.Opening.TheVariants.{New, Open, Soak}
use Rattle.gd_disk.specs.declared.disks.Disk.{Ghosts as DiskGhosts}
use Rattle.gd_edges.specs.declared.signers.Signer.{Ghosts as SignerGhosts}
use Rattle.group_model.specs.declared.entries.Answer.{Answer}
use Rattle.group_model.specs.declared.entries.Outside.{Outside}
use Rattle.server_steps.specs.Hosts.{Host}
use Rattle.server_steps.specs.Openings.{IsBeginning, IsCreation}
use Rattle.console_run.specs.Promises.{soak_depth}

-- the step of an opening
abbrev pub step_of : {D G : Type 0} → DiskGhosts D → SignerGhosts G → G → (ℕ → List ℕ) → Opening → Host D → Answer → Outside → Host D → Type 0
step_of d g signer block (New depth) = IsCreation d block depth
step_of d g signer block (Soak number) = IsCreation d block soak_depth
step_of d g signer block Open = IsBeginning d g signer
