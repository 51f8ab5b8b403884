-- A change that is let in was not pending, and a join that no reason keeps out is let in.
use Rattle.std.proofs.Common.{◌≡◌, ◌^◌, ℕ, Bool, false, true, None, Some, inl, inr, List, Ok, Err, refl, if◌then◌else◌}
use Rattle.std.specs.Prelude.{◌==◌, nat_lt, length}
use Rattle.std.proofs.lemmas.Bool.{cases_Bool}
use Rattle.batch_queue.specs.Answers.{answer_to_change}
use Rattle.batch_queue.specs.declared.refusals.QueueRefusal.TheVariants as queue_refusals
use Rattle.group_terms.specs.Changes.{is_pending, member_of}
use Rattle.group_terms.specs.Names.{Name}
use Rattle.group_terms.specs.declared.changes.Change.{Change}
use Rattle.group_terms.specs.declared.changes.Change.TheVariants.{In}
use Rattle.group_model.specs.Places.{Holders}
use Rattle.group_model.specs.Refusals.{leaves_taken, why_no_join}
use Rattle.group_model.specs.declared.entries.Refusal.TheVariants.{NeedsReopen, AlreadyPending, TreeFull, BatchFull}

-- what is pending is not added, and what is added was not pending
refused : (queue : List Change) (change : Change) → is_pending queue (member_of change) ≡ true → answer_to_change queue change ≡ Err queue_refusals.AlreadyPending
refused queue change pending = rw pending refl

pub not_pending : (queue : List Change) (change : Change) → Ok tt ≡ answer_to_change queue change → is_pending queue (member_of change) ≡ false
not_pending queue change ok = elim (cases_Bool (is_pending queue (member_of change))) [
  | inl pending ↦ absurd (cc (ok, refused queue change pending))
  | inr free ↦ free
]

-- of four tests, the last of which is to say yes, none gives a reason
record NoneHolds (first second third fourth : Bool) : Type 0 where
  pub not_first : first ≡ false
  pub not_second : second ≡ false
  pub not_third : third ≡ false
  pub is_fourth : fourth ≡ true

none_holds : {A : Type 0} (a b c d : Bool) (w x y z : A)
    → (if a then Some w else (if b then Some x else (if c then Some y else (if d then None else Some z)))) ≡ None → NoneHolds a b c d
none_holds true b c d w x y z none = absurd (cc)
none_holds false true c d w x y z none = absurd (cc)
none_holds false false true d w x y z none = absurd (cc)
none_holds false false false true w x y z none = record { not_first = refl; not_second = refl; not_third = refl; is_fourth = refl }
none_holds false false false false w x y z none = absurd (cc)

-- a join that no reason keeps out is added to what waits
pub is_added : (needs_reopen : Bool) (depth : ℕ) (holders : Holders) (queue : List Change) (m : Name) → why_no_join needs_reopen depth holders queue m ≡ None
    → answer_to_change queue (In m) ≡ Ok tt
is_added needs_reopen depth holders queue m none =
    let leaves = leaves_taken depth holders queue in
    let holds = none_holds needs_reopen (is_pending queue m) (leaves == 2 ^ depth) (nat_lt (length queue) 32) NeedsReopen AlreadyPending (TreeFull leaves)
    (BatchFull (length queue)) none in
    let free = holds.not_second in
    let room = holds.is_fourth in
    rw (free, room) refl
