-- What the summary says of histories where other members, another order or another count would give something else.
use Rattle.std.proofs.Common.{◌≡◌, ◌++◌, ℕ, false, List, [], ◌∷◌, None, map, refl}
use Rattle.std.specs.Fmt.{digits}
use Rattle.std.specs.Prelude.{codes}
use Rattle.group_terms.specs.Names.{Name}
use Rattle.group_terms.specs.declared.pushes.PushRefusal.TheVariants.{NoPath}
use Rattle.group_model.specs.declared.entries.Answer.{Answer}
use Rattle.group_model.specs.declared.entries.Answer.TheVariants.{Batched, Done, Kept, Lost, Older, Opened, PushRefused, Refused, TookRoot, TookTraffic}
use Rattle.group_model.specs.declared.entries.Asked.{Asked}
use Rattle.group_model.specs.declared.entries.Asked.TheVariants.{Batch, Create, Deliver, Keep, Leave, Lose, Reopen}
use Rattle.group_model.specs.declared.entries.Entry.{Entry}
use Rattle.group_model.specs.declared.entries.Refusal.TheVariants.{DiskFault, NoMemory, NotMember}
use Rattle.script_text.specs.Summary.{summary_text, told_by}

-- a request and its answer; the summary does not look at what the outside did
abbrev entry : Asked → Answer → Entry
entry asked answer = record { asked = asked; outside = record { disk_failed = false; found = None; place = 0 }; answer = answer }

-- what a batch put out that told its keys to these members
abbrev batched : ℕ → ℕ → ℕ → List Name → Answer
batched epoch sequence members came = Batched (record {
  epoch = epoch;
  sequence = sequence;
  members = members;
  wraps = [];
  pushes = None;
  replies = map (λ m. record { says = record { member = m; keyed_epoch = epoch; sequence = sequence; names = [] }; datagram = [] }) came;
})

-- an opening that found these members
abbrev opened : ℕ → ℕ → List Name → Answer
opened epoch sequence members = Opened (record {
  depth = 2;
  epoch = epoch;
  sequence = sequence;
  members = map (λ m. record { leaf = 4; member = m }) members;
}) None

-- three members came in, of whom one was not reached; one goes out, and so asks one who is none; the first one follows the pushes, and who left does not
abbrev one_left : List Entry
one_left =
    entry (Create 2) (opened 0 0 []) ∷
    entry Batch (batched 1 0 3 (codes "a" ∷ codes "b" ∷ codes "c" ∷ [])) ∷
    entry (Keep (codes "a")) (Kept 1) ∷
    entry (Keep (codes "b")) (Kept 1) ∷
    entry (Keep (codes "c")) Lost ∷
    entry (Leave (codes "b")) Done ∷
    entry (Lose (codes "a")) Done ∷
    entry (Leave (codes "x")) (Refused NotMember) ∷
    entry Batch (batched 2 2 2 []) ∷
    entry (Deliver (codes "a") 1) (TookRoot 2) ∷
    entry (Deliver (codes "a") 2) (TookTraffic 2) ∷
    entry (Deliver (codes "b") 1) (PushRefused (NoPath 5)) ∷ []

-- a line of the report
abbrev line : List ℕ → List ℕ
line text = text ++ 10 ∷ []

who_left_is_not_counted : summary_text 7 one_left ≡ line (codes "soak 7 epochs 2 sequence 2 members 2 refused 2 agreed 1")
unfolding digits summary_text told_by
who_left_is_not_counted = refl

-- the batch failed, and so the leave was dropped; who has a leaf then is a member
dropped_leaves_are_not_counted : summary_text 18446744073709551615 (one_left ++
    entry (Leave (codes "a")) Done ∷
    entry Batch (Refused DiskFault) ∷
    entry Reopen (opened 2 2 (codes "a" ∷ codes "c" ∷ [])) ∷
    entry (Keep (codes "c")) (Kept 2) ∷
    entry (Keep (codes "c")) (Older 2 0) ∷ [])
    ≡ line (codes "soak 18446744073709551615 epochs 2 sequence 2 members 2 refused 3 agreed 2")
unfolding digits summary_text told_by
dropped_leaves_are_not_counted = refl

-- who has the root of the last epoch but not its traffic key, or the key of an epoch before
older_keys_are_not_counted : summary_text 0 (one_left ++
    entry Batch (batched 3 4 3 (codes "b" ∷ [])) ∷
    entry (Keep (codes "b")) (Kept 3) ∷
    entry (Deliver (codes "a") 3) (TookRoot 3) ∷ [])
    ≡ line (codes "soak 0 epochs 3 sequence 4 members 3 refused 2 agreed 1")
unfolding digits summary_text told_by
older_keys_are_not_counted = refl

-- where no group was made, there is nothing but that refusal
no_group_was_made : summary_text 7 (entry (Create 7) (Refused NoMemory) ∷ []) ≡ line (codes "soak 7 epochs 0 sequence 0 members 0 refused 1 agreed 0")
unfolding digits summary_text told_by
no_group_was_made = refl
