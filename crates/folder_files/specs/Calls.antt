-- What one or more calls of a file do.
use Rattle.std.specs.Prelude.{◌≡◌, ◌↔◌, ℕ, List, Option, IsSome}
use Rattle.gd_disk.specs.Disks.{known, Knows, Steps, Follows, Narrows, Elapses}
use Rattle.folder_files.specs.declared.folder_files.FolderFile.{Ghosts}

-- the octets of a file, where they are known
abbrev pub octets_of : {F : Type 0} → Ghosts F → F → Option (List ℕ)
octets_of g file = known g.honest g.image file

-- time goes on
abbrev pub Goes : {F : Type 0} → Ghosts F → F → F → Type 0
Goes g old new = Elapses (g.moment old) (g.moment new) (g.left_since old) (g.left_since new) (g.may_leave new)

-- a file is as honest as it was and exposes its octets as before
pub record Stays {F : Type 0} (g : Ghosts F) (old new : F) : Type 0 where
  pub honest : g.honest new ≡ g.honest old
  pub exposed : IsSome (g.image new) ↔ IsSome (g.image old)

-- calls that change nothing
pub record IsQuiet {F : Type 0} (g : Ghosts F) (old new : F) : Type 0 where
  pub image : octets_of g new ≡ octets_of g old
  pub crash : (c : List ℕ) → g.may_leave new c ↔ g.may_leave old c
  pub time : Goes g old new
  pub stays : Stays g old new

-- calls that bring octets to the device
pub record IsNarrow {F : Type 0} (g : Ghosts F) (old new : F) : Type 0 where
  pub image : octets_of g new ≡ octets_of g old
  pub crash : Narrows (g.may_leave old) (g.may_leave new)
  pub time : Goes g old new
  pub stays : Stays g old new

-- calls that change octets by a step
pub record IsStep {F : Type 0} (g : Ghosts F) (step : List ℕ → List ℕ → Type 0) (old new : F) : Type 0 where
  pub image : Steps step (octets_of g old) (octets_of g new)
  pub crash : Knows (octets_of g old) (λ _. Follows step (g.may_leave old) (g.may_leave new))
  pub time : Goes g old new
  pub stays : Stays g old new
