-- A sync is a call that only reads, alone and before another one.
use Rattle.std.proofs.Common.{◌≡◌, ◌∙◌, ℕ, List}
use Rattle.gd_disk.specs.Disks.{Knows, Narrows}
use Rattle.gd_disk.specs.MomentLaws.{reads-joined, weaker}
use Rattle.gd_disk.specs.Moments.{shown, Keeps, OnlyReads, ReportsFaults}
use Rattle.gd_disk.specs.declared.disks.Disk.{Ghosts}
use Rattle.journal_gates.proofs.CallLemmas.{Goes, one_call}

module _ {D : Type 0} (g : Ghosts D) (old mid : D) (only_now : (c : List ℕ) → g.left_since old (g.moment old) c → g.may_leave old c)
    (time : Goes g old mid) (same : shown g mid ≡ shown g old) (narrows : Knows (shown g old) (λ _. Narrows (g.may_leave old) (g.may_leave mid))) where
  pub synced : (fault : Type 0) → ReportsFaults g fault old mid → OnlyReads g fault old mid
  synced fault reports = record {
    reports = reports;
    same = same;
    any_moment = λ file is. one_call g old mid (g.may_leave old) only_now (λ c now. now) time (narrows file is);
  }

  pub then_read : (fault : Type 0) (new : D) → Keeps g old mid → g.faults mid ≡ g.faults old → OnlyReads g fault mid new → OnlyReads g fault old new
  then_read fault new keeps no_fault reads =
      reads-joined g old mid new ⊥ fault (synced ⊥ (record { cause = λ none. absurd none; no_fault = λ _. no_fault; keeps = keeps })) (λ none. none)
      reads.reports reads.same
      (λ file is. weaker g mid new (g.may_leave mid) (g.may_leave old) (narrows file is) (reads.any_moment file (same ∙ is)))
