-- What turns answered, as far as their pushes are noted.
use Rattle.std.specs.Prelude.{◌≡◌, ◌+◌, ◌<◌, ◌^◌, Bool, false, true, IfSome}
use Rattle.group_model.specs.declared.entries.Answer.{Answer}
use Rattle.group_model.specs.declared.entries.Answer.TheVariants.{Batched, Opened}
use Rattle.group_model.specs.declared.entries.Entry.{Entry}
use Rattle.group_model.specs.declared.entries.PushPair.{PushPair}
use Rattle.server_steps.specs.Sent.{pair_by}

-- whether an answer is that of a batch
abbrev pub is_batch : Answer → Bool
is_batch (Batched output) = true
is_batch answer = false

-- whether an answer is that of an opening
abbrev pub opens : Answer → Bool
opens (Opened seen resent) = true
opens answer = false

-- whether an entry made a batch
abbrev pub made_batch : Entry → Bool
made_batch entry = is_batch entry.answer

-- an entry opened nothing
abbrev pub IsNoOpening : Entry → Type 0
IsNoOpening entry = opens entry.answer ≡ false

-- the numbers of both pushes of an entry fit, if it sent a pair (RFC 6407 section 5.7)
abbrev pub PushesFit : Entry → Type 0
PushesFit entry = IfSome (pair_by entry.answer) (λ (pair : PushPair). pair.first + 1 < 2 ^ 32)
