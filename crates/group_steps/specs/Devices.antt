-- What a run of a group stands on.
use Rattle.std.specs.Prelude.{ℕ, List}
use Rattle.gd_disk.specs.declared.disks.Disk.{Ghosts as DiskGhosts}
use Rattle.gd_edges.specs.declared.signers.Signer.{Ghosts as SignerGhosts}
use Rattle.gd_edges.specs.declared.verifiers.Verifier.{Ghosts as VerifierGhosts}
use Rattle.group_terms.specs.Names.{Name}

-- disks, signers and verifiers of some types, and the verifier of the members
pub record Devices (D G V : Type 0) : Type 1 where
  pub disks : DiskGhosts D
  pub signers : SignerGhosts G
  pub verifiers : VerifierGhosts V
  pub verifier : V

-- the devices of these types, and a verifier
abbrev pub devices : {D G V : Type 0} → DiskGhosts D → SignerGhosts G → VerifierGhosts V → V → Devices D G V
devices disks signers verifiers verifier = record { disks = disks; signers = signers; verifiers = verifiers; verifier = verifier }

-- What keys are made with: the signer of the key server, and the blocks of its draws by their places; those of the members' draws; and the name of the group
-- for which the members ask.
pub record Keying (G : Type 0) : Type 0 where
  pub signer : G
  pub block : ℕ → List ℕ
  pub members_block : ℕ → List ℕ
  pub group : Name

-- with these
abbrev pub keying : {G : Type 0} → G → (ℕ → List ℕ) → (ℕ → List ℕ) → Name → Keying G
keying signer block members_block group = record { signer = signer; block = block; members_block = members_block; group = group }
