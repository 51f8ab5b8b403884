-- Laws of what a crash leaves between two moments of a disk.
use Rattle.std.specs.Prelude.{◌≡◌, ◌≤◌, ◌↔◌, ℕ, Bool, true, false, List, Option, None, Some, IsSome, if◌then◌else◌}
use Rattle.std.proofs.Common.{inl, inr, ⊎_elim, ◌∙◌, refl, subst, arith}
use Rattle.group_terms.specs.Faults.{Rose}
use Rattle.gd_disk.specs.Disks.{Elapses, Knows}
use Rattle.gd_disk.specs.Moments.{shown, Keeps, LeavesOnly, OnlyReads, ReportsFaults}
use Rattle.gd_disk.specs.declared.disks.Disk.{Ghosts}

module _ {D : Type 0} (g : Ghosts D) where
  -- before the first call
  pub started : (disk : D) (P : List ℕ → Type 0) → ((c : List ℕ) → g.left_since disk (g.moment disk) c → g.may_leave disk c)
      → ((c : List ℕ) → g.may_leave disk c → P c) → LeavesOnly g disk disk P
  started disk P only_now here = record { later = omega arith; each = λ c left. here c (only_now c left); before = λ t c le left. inl left }

  -- after one call more
  pub called : (old mid new : D) (P : List ℕ → Type 0) → LeavesOnly g old mid P
      → Elapses (g.moment mid) (g.moment new) (g.left_since mid) (g.left_since new) (g.may_leave new)
      → ((c : List ℕ) → g.may_leave new c → P c) → LeavesOnly g old new P
  called old mid new P so_far time here = record {
    later = omega (arith, so_far.later, time.later);
    each = λ c left. ⊎_elim (so_far.each c) (here c) (time.nothing_else (g.moment old) c so_far.later left);
    before = λ t c le left.
        ⊎_elim (so_far.before t c le) (λ now. inr (here c now)) (time.nothing_else t c (omega (arith, le, so_far.later)) left);
  }

  -- one after the other
  pub joined : (old mid new : D) (P : List ℕ → Type 0) → LeavesOnly g old mid P → LeavesOnly g mid new P → LeavesOnly g old new P
  joined old mid new P first second = record {
    later = omega (arith, first.later, second.later);
    each = λ c left. ⊎_elim (first.each c) (λ now. now) (second.before (g.moment old) c first.later left);
    before = λ t c le left. ⊎_elim (first.before t c le) (λ now. inr now) (second.before t c (omega (arith, le, first.later)) left);
  }

  -- a property that follows
  pub weaker : (old new : D) (P Q : List ℕ → Type 0) → ((c : List ℕ) → P c → Q c) → LeavesOnly g old new P → LeavesOnly g old new Q
  weaker old new P Q follows only = record {
    later = only.later;
    each = λ c left. follows c (only.each c left);
    before = λ t c le left. ⊎_elim (λ was. inl was) (λ now. inr (follows c now)) (only.before t c le left);
  }

  -- a disk that keeps what it is, and then again
  pub keeps-joined : (old mid new : D) → Keeps g old mid → Keeps g mid new → Keeps g old new
  keeps-joined old mid new first second = record {
    honest = second.honest ∙ first.honest;
    exposed = (λ some. first.exposed.0 (second.exposed.0 some), λ some. second.exposed.1 (first.exposed.1 some));
    counted = omega (arith, first.counted, second.counted);
  }

-- another word for a fault
module _ {D : Type 0} (g : Ghosts D) (old new : D) (first second : Type 0) (to : first → second) (from : second → first) where
  pub faults_as : ReportsFaults g first old new → ReportsFaults g second old new
  faults_as one = record { cause = λ fault. one.cause (from fault); no_fault = λ no. one.no_fault (λ fault. no (to fault)); keeps = one.keeps }

  pub reads_as : OnlyReads g first old new → OnlyReads g second old new
  reads_as one = record { reports = faults_as one.reports; same = one.same; any_moment = one.any_moment }

-- a call without a fault, and then another
module _ {D : Type 0} (g : Ghosts D) (old mid new : D) (first second : Type 0) where
  pub faults-joined : ReportsFaults g first old mid → (first → ⊥) → ReportsFaults g second mid new → ReportsFaults g second old new
  faults-joined one goes two = record {
    cause = λ failed. subst (λ n. Rose n (g.faults new)) (one.no_fault goes) (two.cause failed);
    no_fault = λ not. two.no_fault not ∙ one.no_fault goes;
    keeps = keeps-joined g old mid new one.keeps two.keeps;
  }

  -- where the first one only reads, and a crash in the second leaves no more than before
  pub reads-joined : OnlyReads g first old mid → (first → ⊥) → ReportsFaults g second mid new → shown g new ≡ shown g mid
      → Knows (shown g old) (λ _. LeavesOnly g mid new (g.may_leave old)) → OnlyReads g second old new
  reads-joined one goes two same left = record {
    reports = faults-joined one.reports goes two;
    same = same ∙ one.same;
    any_moment = λ file is. joined g old mid new (g.may_leave old) (one.any_moment file is) (left file is);
  }

-- what a crash leaves now has the property
pub leaves_now : {D : Type 0} (g : Ghosts D) (old new : D) (P : List ℕ → Type 0)
    → ((t : ℕ) (c : List ℕ) → t ≤ g.moment new → g.may_leave new c → g.left_since new t c) → LeavesOnly g old new P → (c : List ℕ)
    → g.may_leave new c → P c
leaves_now g old new P counts_now only c now = only.each c (counts_now (g.moment old) c only.later now)

-- where a file is shown, one was shown before
pub shown_before : {D : Type 0} (g : Ghosts D) (old new : D) → Keeps g old new → (file : List ℕ) → shown g new ≡ Some file
    → (was : List ℕ) × (shown g old ≡ Some was)
shown_before g old new keeps file is = before (g.honest old) (g.honest new) (g.image old) (g.image new) keeps.honest keeps.exposed is
  where
    before : (was now : Bool) (had has : Option (List ℕ)) → now ≡ was → (IsSome has ↔ IsSome had)
        → (if now then has else None) ≡ Some file → (was_file : List ℕ) × ((if was then had else None) ≡ Some was_file)
    before true true (Some old_file) has same exposed shows = (old_file, refl)
    before true true None (Some new_file) same exposed shows = absurd (cc (exposed.0 refl))
    before true true None None same exposed shows = absurd (cc)
    before true false had has same exposed shows = absurd (cc)
    before false true had has same exposed shows = absurd (cc)
    before false false had has same exposed shows = absurd (cc)
