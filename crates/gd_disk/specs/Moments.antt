-- What is known of a disk between two moments.
use Rattle.std.specs.Prelude.{◌≡◌, ◌⊎◌, ◌↔◌, ℕ, ◌≤◌, List, Option, IsSome}
use Rattle.group_terms.specs.Faults.{Rose}
use Rattle.gd_disk.specs.Disks.{known, Knows}
use Rattle.gd_disk.specs.declared.disks.Disk.{Ghosts}

-- the file of a disk, where that is honest and exposes it
abbrev pub shown : {D : Type 0} → Ghosts D → D → Option (List ℕ)
shown g disk = known g.honest g.image disk

-- a disk is as honest as it was and exposes its octets as before, and its count of faults has not fallen
pub record Keeps {D : Type 0} (g : Ghosts D) (old new : D) : Type 0 where
  pub honest : g.honest new ≡ g.honest old
  pub exposed : IsSome (g.image new) ↔ IsSome (g.image old)
  pub counted : g.faults old ≤ g.faults new

-- between two moments each image that a crash might have left has a property; what it might have left since an earlier moment is as before, or
-- has the property
pub record LeavesOnly {D : Type 0} (g : Ghosts D) (old new : D) (P : List ℕ → Type 0) : Type 0 where
  pub later : g.moment old ≤ g.moment new
  pub each : (c : List ℕ) → g.left_since new (g.moment old) c → P c
  pub before : (t : ℕ) (c : List ℕ) → t ≤ g.moment old → g.left_since new t c → g.left_since old t c ⊎ P c

-- A call reports a fault of the disk exactly where it met one: the count of faults rose there, and is the same elsewhere. The disk is as honest as it
-- was, and exposes its octets as before.
pub record ReportsFaults {D : Type 0} (g : Ghosts D) (fault : Type 0) (old new : D) : Type 0 where
  pub cause : fault → Rose (g.faults old) (g.faults new)
  pub no_fault : (fault → ⊥) → g.faults new ≡ g.faults old
  pub keeps : Keeps g old new

-- A call that only reads: the file is the same, and at each moment a crash leaves only what it might have left before the call.
pub record OnlyReads {D : Type 0} (g : Ghosts D) (fault : Type 0) (old new : D) : Type 0 where
  pub reports : ReportsFaults g fault old new
  pub same : shown g new ≡ shown g old
  pub any_moment : Knows (shown g old) (λ _. LeavesOnly g old new (g.may_leave old))
