-- Signers that sign alike.
use Rattle.std.specs.Prelude.{◌≡◌, ℕ, List}
use Rattle.gd_edges.specs.declared.signers.Signer.{Ghosts as SignerGhosts}

-- Two signers sign alike: they have one kind, and give each digest the same signature, of one size.
pub record SignAlike {G : Type 0} (g : SignerGhosts G) (signer another : G) : Type 0 where
  pub kind : g.kind_of another ≡ g.kind_of signer
  pub size : g.size_of another ≡ g.size_of signer
  pub signature : (digest : List ℕ) → g.signature another digest ≡ g.signature signer digest
