-- What a crash leaves in a run of calls of a disk.
use Rattle.std.proofs.Common.{ℕ, List}
use Rattle.gd_disk.specs.Disks.{Elapses}
use Rattle.gd_disk.specs.MomentLaws.{started, called}
use Rattle.gd_disk.specs.Moments.{LeavesOnly}
use Rattle.gd_disk.specs.declared.disks.Disk.{Ghosts}

module _ {D : Type 0} (g : Ghosts D) where
  -- time goes on from one value of a disk to another
  abbrev pub Goes : D → D → Type 0
  Goes old new = Elapses (g.moment old) (g.moment new) (g.left_since old) (g.left_since new) (g.may_leave new)

  -- a call after which a crash leaves what it might have left before, or what has the property
  pub one_call : (old new : D) (P : List ℕ → Type 0) → ((c : List ℕ) → g.left_since old (g.moment old) c → g.may_leave old c)
      → ((c : List ℕ) → g.may_leave old c → P c) → Goes old new → ((c : List ℕ) → g.may_leave new c → P c) → LeavesOnly g old new P
  one_call old new P only_now before time here = called g old old new P (started g old P only_now before) time here

  -- one call and then another
  pub two_calls : (old mid new : D) (P : List ℕ → Type 0) → ((c : List ℕ) → g.left_since old (g.moment old) c → g.may_leave old c)
      → ((c : List ℕ) → g.may_leave old c → P c) → Goes old mid → ((c : List ℕ) → g.may_leave mid c → P c)
      → Goes mid new → ((c : List ℕ) → g.may_leave new c → P c) → LeavesOnly g old new P
  two_calls old mid new P only_now before first there second here =
      called g old mid new P (one_call old mid P only_now before first there) second here
