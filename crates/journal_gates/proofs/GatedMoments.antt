-- What a crash leaves while a piece is written after a clear commit mark, and that is set.
use Rattle.std.proofs.Common.{◌≡◌, ◌+◌, ◌++◌, ◌∷◌, ℕ, List, length}
use Rattle.gd_disk.specs.Disks.{Only}
use Rattle.gd_disk.specs.MomentLaws.{joined, weaker}
use Rattle.gd_disk.specs.Moments.{LeavesOnly}
use Rattle.gd_disk.specs.declared.disks.Disk.{Ghosts}
use Rattle.journal_gates.specs.Gates.{IsGated, IsTorn, gated}
use Rattle.journal_gates.proofs.GateLemmas.{gated_first, gated_second}

module _ {D : Type 0} (g : Ghosts D) (front : List ℕ) (shut : ℕ) (behind piece : List ℕ) (gate : ℕ) (place : length front ≡ gate) (old mid : D)
    (only : Only (front ++ shut ∷ behind) (g.may_leave old)) (first : LeavesOnly g old mid (IsTorn (gate + 1) (length piece) (g.may_leave old))) where
  pub after_first : LeavesOnly g old mid (IsGated front shut piece behind)
  after_first =
      weaker g old mid _ (IsGated front shut piece behind) (gated_first front shut behind piece gate place (length piece) (g.may_leave old) only) first

  pub after_both : (new : D) → Only (gated front shut piece behind) (g.may_leave mid) → LeavesOnly g mid new (IsTorn gate 1 (g.may_leave mid))
      → LeavesOnly g old new (IsGated front shut piece behind)
  after_both new there second =
      joined g old mid new (IsGated front shut piece behind) after_first
      (weaker g mid new _ (IsGated front shut piece behind) (gated_second front shut behind piece gate place (g.may_leave mid) there) second)
