-- A history counts the faults of its disk.
use Rattle.std.proofs.Common.{◌≡◌, ◌∙◌, ℕ, ◌+◌, true, false, Bool, if◌then◌else◌, List, [], ◌∷◌, ◌++◌, refl, sym, ap, subst, inl, inr, ⊎_elim, arith}
use Rattle.std.specs.Prelude.{cond}
use Rattle.std.proofs.lemmas.List.Sums.{sum_by-cons}
use Rattle.gd_disk.specs.MomentLaws.{keeps-joined}
use Rattle.gd_disk.specs.Moments.{Keeps}
use Rattle.gd_disk.specs.declared.disks.Disk.{Ghosts as DiskGhosts}
use Rattle.gd_edges.specs.declared.signers.Signer.{Ghosts as SignerGhosts}
use Rattle.group_model.specs.declared.entries.Entry.{Entry}
use Rattle.server_steps.specs.Disks.{Counts}
use Rattle.server_steps.specs.Hosts.{Host}
use Rattle.server_steps.specs.Steps.{AreServed}
use Rattle.group_steps.specs.Counts.{CountsFaults, DisksStayHonest, FaultsAreCounted, faults_in}
use Rattle.group_steps.specs.Devices.{Devices, Keying}
use Rattle.group_steps.specs.Runs.{Run}
use Rattle.group_steps.specs.Served.{ServedCountFaults}
use Rattle.group_steps.specs.Steps.{AreRunSteps}

module _ {D : Type 0} (d : DiskGhosts D) where
  -- a fault, and then those that follow
  fault_first : (n : ℕ) (old mid new : D) → Counts d true old mid → Keeps d mid new → CountsFaults d n mid new
      → CountsFaults d (1 + n) old new
  fault_first n old mid new rose keeps rest = record {
    counted =
        ⊎_elim
        (λ more. ⊎_elim (λ went_up. inl (omega (arith, more, went_up))) (λ last. inr (omega (arith, last, keeps.counted))) rose)
        (λ last. inr last) rest.counted;
    none = λ zero. absurd (omega (arith, zero));
  }

  -- what a request counts, and then those that follow
  counts_first : (failed : Bool) (n : ℕ) (old mid new : D) → Counts d failed old mid → Keeps d mid new → CountsFaults d n mid new
      → CountsFaults d ((if failed then 1 else 0) + n) old new
  counts_first true n old mid new rose keeps rest = fault_first n old mid new rose keeps rest
  counts_first false n old mid new same keeps rest = record {
    counted = ⊎_elim (λ more. inl (omega (arith, more, same))) (λ last. inr last) rest.counted;
    none = λ zero. rest.none (omega (arith, zero)) ∙ same;
  }

  keeps_itself : (disk : D) → Keeps d disk disk
  keeps_itself disk = record { honest = refl; exposed = (λ some. some, λ some. some); counted = omega arith }

  counts_nothing : (disk : D) → CountsFaults d 0 disk disk
  counts_nothing disk = record { counted = inl (omega arith); none = λ zero. refl }

  -- each entry leads from one disk to another one, which is as honest, and counts whether it failed
  abbrev AreCounted : D → List Entry → D → Type 0
  AreCounted old [] new = new ≡ old
  AreCounted old (entry ∷ entries) new =
      (mid : D) × Keeps d old mid × Counts d entry.outside.disk_failed old mid × AreCounted mid entries new

  stay : (old : D) (entries : List Entry) (new : D) → AreCounted old entries new → Keeps d old new
  stay old [] new same = subst (Keeps d old) (sym same) (keeps_itself old)
  stay old (entry ∷ entries) new steps = keeps-joined d old steps.0 new steps.1 (stay steps.0 entries new steps.3)

  counted : (old : D) (entries : List Entry) (new : D) → AreCounted old entries new → CountsFaults d (faults_in entries) old new
  counted old [] new same = subst (CountsFaults d 0 old) (sym same) (counts_nothing old)
  counted old (entry ∷ entries) new steps =
      subst (λ n. CountsFaults d n old new) (sym (sum_by-cons (λ (given : Entry). cond given.outside.disk_failed 1 0) entry entries))
      (counts_first entry.outside.disk_failed (faults_in entries) old steps.0 new steps.2 (stay steps.0 entries new steps.3)
      (counted steps.0 entries new steps.3))

module _ {D G : Type 0} (d : DiskGhosts D) (g : SignerGhosts G) (signer : G) (block : ℕ → List ℕ) where
  disks_served : (host : Host D) (entries : List Entry) (after : Host D) → AreServed d g signer block host entries after
      → AreCounted d host.disk entries after.disk
  disks_served host [] after same = ap (λ (given : Host D). given.disk) same
  disks_served host (entry ∷ entries) after steps =
      let next = steps.0 in (next.disk, steps.1.keeps, steps.1.counts, disks_served next entries after steps.2)

  pub served_counted : ServedCountFaults d g signer block
  served_counted host entries after steps =
      let disks = disks_served host entries after steps in
      (counted d host.disk entries after.disk disks, stay d host.disk entries after.disk disks)

module _ {D G V : Type 0} (on : Devices D G V) (by : Keying G) where
  disks_run : (before : List Entry) (run : Run D) (entries : List Entry) (after : Run D)
      → AreRunSteps on by before run entries after → AreCounted on.disks run.host.disk entries after.host.disk
  disks_run before run [] after same = ap (λ (given : Run D). given.host.disk) same
  disks_run before run (entry ∷ entries) after steps =
      let next = steps.0 in
      (next.host.disk, steps.1.answered.keeps, steps.1.answered.counts, disks_run (before ++ entry ∷ []) next entries after steps.2)

  pub disks_stay : DisksStayHonest on by
  disks_stay before run entries after steps = stay on.disks run.host.disk entries after.host.disk (disks_run before run entries after steps)

  pub all_counted : FaultsAreCounted on by
  all_counted before run entries after steps = counted on.disks run.host.disk entries after.host.disk (disks_run before run entries after steps)
