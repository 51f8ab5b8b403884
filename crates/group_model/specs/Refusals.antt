-- For which reason a change may not wait for the next batch, and no batch is made.
use Rattle.std.specs.Prelude.{ℕ, ◌+◌, ◌-◌, ◌^◌, ◌==◌, nat_le, nat_lt, Bool, List, length, Option, None, Some, if◌then◌else◌}
use Rattle.group_terms.specs.Names.{Name}
use Rattle.group_terms.specs.Changes.{is_pending, leavers, joiners}
use Rattle.group_terms.specs.declared.changes.Change.{Change}
use Rattle.group_model.specs.declared.entries.Counter.TheVariants.{Epoch, Sequence}
use Rattle.group_model.specs.declared.entries.Refusal.{Refusal}
use Rattle.group_model.specs.declared.entries.Refusal.TheVariants.{NeedsReopen, NotMember, AlreadyPending, TreeFull, BatchFull, Spent}
use Rattle.group_model.specs.Places.{Holders, is_member, member_count}

-- the leaves that the next batch will leave taken: those of members that are not leaving, and those of joins that wait
abbrev pub leaves_taken : ℕ → Holders → List Change → ℕ
leaves_taken depth holders queue = member_count holders - length (leavers queue) + length (joiners queue)

-- Of a group that has to be opened again or not, with a tree of this depth, these holders of leaves and these changes that wait: the first reason that holds.
module _ (needs_reopen : Bool) (depth : ℕ) (holders : Holders) (queue : List Change) where
  -- who comes in is no member
  abbrev pub why_no_join : Name → Option Refusal
  why_no_join m =
      if needs_reopen then Some NeedsReopen
      else (if is_pending queue m then Some AlreadyPending
      else (if leaves_taken depth holders queue == 2 ^ depth then Some (TreeFull (leaves_taken depth holders queue))
      else (if nat_lt (length queue) 32 then None else Some (BatchFull (length queue)))))

  -- who goes out has to be a member of whom no change waits yet
  abbrev pub why_no_leave : Name → Option Refusal
  why_no_leave m =
      if needs_reopen then Some NeedsReopen
      else (if is_member holders m
      then (if is_pending queue m then Some AlreadyPending
      else (if nat_lt (length queue) 32 then None else Some (BatchFull (length queue))))
      else Some NotMember)

-- why no batch is made: the epoch is looked at before the number that the last push would have
abbrev pub why_no_batch : Bool → ℕ → ℕ → ℕ → ℕ → Option Refusal
why_no_batch needs_reopen limit epoch sequence coming =
    if needs_reopen then Some NeedsReopen
    else (if nat_lt epoch limit
    then (if nat_le coming limit then None else Some (Spent Sequence sequence))
    else Some (Spent Epoch epoch))
