-- What a crash leaves while a journal is begun.
use Rattle.std.proofs.Common.{inr, ℕ, List, [], ◌∷◌, ◌++◌}
use Rattle.gd_disk.specs.Disks.{Torn, Cut, Follows}
use Rattle.gd_disk.specs.MomentLaws.{joined, weaker}
use Rattle.gd_disk.specs.Moments.{LeavesOnly}
use Rattle.gd_disk.specs.declared.disks.Disk.{Ghosts}
use Rattle.tree_journal.specs.Crashes.{IsCutOf, IsUnfilled, MakesJournal}
use Rattle.journal_gates.specs.Gates.{IsGated, IsTorn}
use Rattle.tree_journal.specs.Records.{name_text}
use Rattle.tree_journal.proofs.BeginLemmas.{not_begun, only_cut, torn_first, gated_name}
use Rattle.journal_gates.proofs.CallLemmas.{Goes, one_call}

module _ {D : Type 0} (g : Ghosts D) (old : D) where
  abbrev P : List ℕ → Type 0
  P = IsCutOf (g.may_leave old)

  module _ (cut : D) (nothing_written : (at n : ℕ) (file : List ℕ) → Torn at n file file) (nothing_cut : (to : ℕ) (file : List ℕ) → Cut to file file)
      (only_now : (c : List ℕ) → g.left_since old (g.moment old) c → g.may_leave old c) (time : Goes g old cut)
      (follows : Follows (Cut 0) (g.may_leave old) (g.may_leave cut)) where
    pub after_cut : LeavesOnly g old cut P
    after_cut =
        one_call g old cut P only_now (not_begun nothing_written nothing_cut (g.may_leave old)) time
        (only_cut nothing_written nothing_cut (g.may_leave old) (g.may_leave cut) follows)

    pub after_first : (new : D) → LeavesOnly g cut new (IsTorn 0 1 (g.may_leave cut)) → LeavesOnly g old new P
    after_first new first =
        joined g old cut new P after_cut (weaker g cut new _ P (torn_first (g.may_leave old) (g.may_leave cut) follows) first)

  pub after_name : (mid new : D) → LeavesOnly g old mid P → LeavesOnly g mid new (IsGated [] 0 (name_text ++ 0 ∷ []) []) → MakesJournal g old new
  after_name mid new first second = inr (mid, first, weaker g mid new _ IsUnfilled gated_name second)
