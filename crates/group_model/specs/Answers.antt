-- What answers say: those to a join and to a leave, what a batch puts out, what an opening found, and whether the disk or memory failed.
use Rattle.std.specs.Prelude.{◌≡◌, ◌⊎◌, ℕ, Bool, true, false, List, [], ◌∷◌, length, Option, None, Some}
use Rattle.std.specs.List.{list_any}
use Rattle.group_terms.specs.Names.{Name}
use Rattle.group_terms.specs.declared.changes.Change.{Change}
use Rattle.group_model.specs.declared.entries.Answer.{Answer}
use Rattle.group_model.specs.declared.entries.Answer.TheVariants.{Done, Opened, Refused}
use Rattle.group_model.specs.declared.entries.Asked.{Asked}
use Rattle.group_model.specs.declared.entries.Asked.TheVariants.{Create, Begin}
use Rattle.group_model.specs.declared.entries.Entry.{Entry}
use Rattle.group_model.specs.declared.entries.Output.{Output}
use Rattle.group_model.specs.declared.entries.Refusal.{Refusal}
use Rattle.group_model.specs.declared.entries.Refusal.TheVariants.{DiskFault, NoMemory}
use Rattle.group_model.specs.Places.{Holders, member_count, holders_of}
use Rattle.group_model.specs.Refusals.{why_no_leave}
use Rattle.group_model.specs.Replies.{replies_to, says_of}
use Rattle.group_model.specs.Stayed.{sequence_at}
use Rattle.group_model.specs.Wraps.{wraps_at}

-- ---- changes and batches

-- an answer, where there is no reason to refuse
abbrev pub unless_refused : Option Refusal → Answer → Answer
unless_refused None answer = answer
unless_refused (Some why) answer = Refused why

-- whether the group has to be opened again, how deep its tree is, who has which leaf, and the changes that wait
module _ (needs_reopen : Bool) (depth : ℕ) (holders : Holders) (queue : List Change) where
  -- a leave is granted, unless there is a reason against it; the member goes out with the next batch
  abbrev pub answer_to_leave : Name → Answer
  answer_to_leave m = unless_refused (why_no_leave needs_reopen depth holders queue m) Done

-- What the last batch of a list puts out: its epoch, the number of the last push, how many members there are, its encryptions, and what its replies say.
pub record IsOutputOf (depth : ℕ) (batches : List (List Change)) (batch : List Change) (output : Output) : Type 0 where
  pub epoch : output.epoch ≡ length batches
  pub sequence : output.sequence ≡ sequence_at depth batches (length batches)
  pub members : output.members ≡ member_count (holders_of depth batches)
  pub wraps : output.wraps ≡ wraps_at depth batches (length batches)
  pub replies : says_of output.replies ≡ replies_to depth batches batch

-- ---- openings

-- whether a request opens a group
abbrev pub opens : Asked → Bool
opens (Create depth) = true
opens Begin = true
opens asked = false

-- whether an answer says that it is open
abbrev pub is_open : Answer → Bool
is_open (Opened seen resent) = true
is_open answer = false

-- the epoch at which an opening found the group
abbrev pub found_by : Answer → Option ℕ
found_by (Opened seen resent) = Some seen.epoch
found_by answer = None

-- the first request opens a group, or nothing is asked; where that failed, nothing else is
abbrev pub BeginsWithOpening : List Entry → Type 0
BeginsWithOpening [] = Unit {0}
BeginsWithOpening (entry ∷ entries) = (opens entry.asked ≡ true) × ((entries ≡ []) ⊎ (is_open entry.answer ≡ true))

-- ---- failures

-- whether the reason for a refusal is that the disk failed
abbrev pub is_disk_fault : Refusal → Bool
is_disk_fault DiskFault = true
is_disk_fault why = false

-- whether a request was refused because the disk failed
abbrev pub disk_failed_by : Answer → Bool
disk_failed_by (Refused why) = is_disk_fault why
disk_failed_by answer = false

-- whether the reason for a refusal is that memory ran out
abbrev pub is_no_memory : Refusal → Bool
is_no_memory NoMemory = true
is_no_memory why = false

-- whether a request was refused because it ran out of memory
abbrev pub ran_out : Answer → Bool
ran_out (Refused why) = is_no_memory why
ran_out answer = false

-- whether one of these entries was
abbrev pub any_ran_out : List Entry → Bool
any_ran_out entries = list_any (λ (entry : Entry). ran_out entry.answer) entries
