-- Whether one more change may wait.
use Rattle.std.specs.Prelude.{nat_lt, List, length, Result, Ok, Err, if◌then◌else◌}
use Rattle.group_terms.specs.Changes.{member_of, is_pending}
use Rattle.group_terms.specs.declared.changes.Change.{Change}
use Rattle.batch_queue.specs.declared.refusals.QueueRefusal.{QueueRefusal}
use Rattle.batch_queue.specs.declared.refusals.QueueRefusal.TheVariants.{AlreadyPending, BatchFull}

-- a pending change of the same member refuses it, and then 32 changes do
abbrev pub answer_to_change : List Change → Change → Result (Unit {0}) QueueRefusal
answer_to_change queue change =
    if is_pending queue (member_of change) then Err AlreadyPending
    else (if nat_lt (length queue) 32 then Ok tt else Err (BatchFull (length queue)))
