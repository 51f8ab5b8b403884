-- What is noted beside a refusal.
use Rattle.std.proofs.Common.{◌≡◌, ℕ, true, false, None, refl, sym, subst}
use Rattle.std.specs.Prelude.{Result, Ok, Err, IfErr, IsErrAnd, OnErr}
use Rattle.gd_disk.specs.declared.disks.Disk.{Ghosts}
use Rattle.group_terms.specs.Faults.{Rose}
use Rattle.group_model.specs.Answers.{is_disk_fault}
use Rattle.group_model.specs.declared.entries.Answer.TheVariants.{Refused}
use Rattle.group_model.specs.declared.entries.Refusal.{Refusal}
use Rattle.group_model.specs.declared.entries.Refusal.TheVariants.{NeedsReopen, Malformed, UnknownPeer, WrongStep, BadHash, WrongGroup, Denied}
use Rattle.group_model.specs.declared.entries.Refusal.TheVariants.{NotMember, AlreadyPending, TreeFull, BatchFull, Spent, DiskFault, PhaseTaken}
use Rattle.group_model.specs.declared.entries.Refusal.TheVariants.{PhaseFull, NotAJournal, NoMemory}
use Rattle.server_steps.specs.Disks.{Counts}
use Rattle.server_steps.specs.Outsides.{beside_refusal}
use Rattle.server_steps.specs.Hosts.{Host}
use Rattle.server_steps.specs.Entries.{beside}

-- what holds of an error holds of the same one that was handed on
pub if_error : {T E : Type 0} (P : E → Type 0) (result : Result T E) (error : E) → IsErrAnd result (λ e. e ≡ error) → P error → IfErr result P
if_error P (Ok value) error is holds = absurd is
if_error P (Err why) error is holds = subst P (sym is) holds

-- what holds anyway holds of an error
pub on_err : {T E P : Type 0} (result : Result T E) → P → OnErr result P
on_err (Ok value) holds = tt
on_err (Err why) holds = holds

module _ {D : Type 0} where
  pub beside_refused : (host : Host D) (why : Refusal) (place : ℕ) → place ≡ host.server.place → beside (Refused why) place ≡ beside_refusal host why
  beside_refused host NeedsReopen place same i = record { disk_failed = false; found = None; place = same i }
  beside_refused host (Malformed message at) place same i = record { disk_failed = false; found = None; place = same i }
  beside_refused host UnknownPeer place same i = record { disk_failed = false; found = None; place = same i }
  beside_refused host WrongStep place same i = record { disk_failed = false; found = None; place = same i }
  beside_refused host (BadHash carried expected) place same i = record { disk_failed = false; found = None; place = same i }
  beside_refused host WrongGroup place same i = record { disk_failed = false; found = None; place = same i }
  beside_refused host (Denied rule) place same i = record { disk_failed = false; found = None; place = same i }
  beside_refused host NotMember place same i = record { disk_failed = false; found = None; place = same i }
  beside_refused host AlreadyPending place same i = record { disk_failed = false; found = None; place = same i }
  beside_refused host (TreeFull held) place same i = record { disk_failed = false; found = None; place = same i }
  beside_refused host (BatchFull pending) place same i = record { disk_failed = false; found = None; place = same i }
  beside_refused host (Spent counter at) place same i = record { disk_failed = false; found = None; place = same i }
  beside_refused host DiskFault place same i = record { disk_failed = true; found = None; place = same i }
  beside_refused host PhaseTaken place same i = record { disk_failed = false; found = None; place = same i }
  beside_refused host (PhaseFull held) place same i = record { disk_failed = false; found = None; place = same i }
  beside_refused host (NotAJournal at) place same i = record { disk_failed = false; found = None; place = same i }
  beside_refused host NoMemory place same i = record { disk_failed = false; found = None; place = same i }

  -- a fault is counted where the disk failed
  pub counts_refused : (d : Ghosts D) (why : Refusal) (old new : D) → (why ≡ DiskFault → Rose (d.faults old) (d.faults new))
      → ((why ≡ DiskFault → ⊥) → d.faults new ≡ d.faults old) → Counts d (is_disk_fault why) old new
  counts_refused d NeedsReopen old new rose stands = stands (λ is. cc is)
  counts_refused d (Malformed message at) old new rose stands = stands (λ is. cc is)
  counts_refused d UnknownPeer old new rose stands = stands (λ is. cc is)
  counts_refused d WrongStep old new rose stands = stands (λ is. cc is)
  counts_refused d (BadHash carried expected) old new rose stands = stands (λ is. cc is)
  counts_refused d WrongGroup old new rose stands = stands (λ is. cc is)
  counts_refused d (Denied rule) old new rose stands = stands (λ is. cc is)
  counts_refused d NotMember old new rose stands = stands (λ is. cc is)
  counts_refused d AlreadyPending old new rose stands = stands (λ is. cc is)
  counts_refused d (TreeFull held) old new rose stands = stands (λ is. cc is)
  counts_refused d (BatchFull pending) old new rose stands = stands (λ is. cc is)
  counts_refused d (Spent counter at) old new rose stands = stands (λ is. cc is)
  counts_refused d DiskFault old new rose stands = rose refl
  counts_refused d PhaseTaken old new rose stands = stands (λ is. cc is)
  counts_refused d (PhaseFull held) old new rose stands = stands (λ is. cc is)
  counts_refused d (NotAJournal at) old new rose stands = stands (λ is. cc is)
  counts_refused d NoMemory old new rose stands = stands (λ is. cc is)
