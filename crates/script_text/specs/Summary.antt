-- What a soak comes to: the line that sums up the history of its run.
use Rattle.std.specs.Prelude.{ℕ, ◌==◌, Bool, true, false, List, [], ◌∷◌, ◌++◌, length, Option, None, Some, codes}
use Rattle.std.specs.Fmt.{decimal}
use Rattle.std.specs.List.{count_by, fold}
use Rattle.std.specs.Map.{lookup}
use Rattle.indexmap.specs.IndexMap.{insert_entry}
use Rattle.indexmap.specs.IndexSet.{insert_key, remove_key}
use Rattle.group_terms.specs.Names.{Name, same_name}
use Rattle.group_model.specs.declared.entries.Answer.{Answer}
use Rattle.group_model.specs.declared.entries.Answer.TheVariants.{Done, Batched, Opened, Kept, TookTraffic, PushRefused, Refused}
use Rattle.group_model.specs.declared.entries.Asked.{Asked}
use Rattle.group_model.specs.declared.entries.Asked.TheVariants.{Leave, Keep, Deliver}
use Rattle.group_model.specs.declared.entries.Entry.{Entry}
use Rattle.group_model.specs.declared.entries.GroupSeen.{GroupSeen}
use Rattle.group_model.specs.declared.entries.Output.{Output}
use Rattle.group_model.specs.declared.entries.SentReply.{SentReply}
use Rattle.group_model.specs.declared.entries.Standing.{Standing}
use Rattle.script_text.specs.Report.{line_with}

-- ---- who is a member, and who has which traffic key

-- A group, by the entries of a history: its last epoch and the number of its last push, its members, those of them who go out with the next batch, and by name
-- the epoch of the traffic key that a member was given last.
pub record Told : Type 0 where
  pub epoch : ℕ
  pub sequence : ℕ
  pub members : List Name
  pub leaving : List Name
  pub keyed : List (Name × ℕ)

-- before any entry
abbrev pub nothing_told : Told
nothing_told = record { epoch = 0; sequence = 0; members = []; leaving = []; keyed = [] }

-- without the members that go out
abbrev pub members_without : List Name → List Name → List Name
members_without members leaving = fold (λ rest m. remove_key (same_name m) rest) members leaving

-- with those who were sent a reply
abbrev pub members_with : List Name → List SentReply → List Name
members_with members replies = fold (λ more (reply : SentReply). insert_key same_name more reply.says.member) members replies

-- those who have a leaf
abbrev pub members_seen : List Standing → List Name
members_seen standings = fold (λ more (standing : Standing). insert_key same_name more standing.member) [] standings

module _ (told : Told) where
  -- a leave that was granted waits for the next batch; what else is done is no matter of members
  abbrev pub after_done : Asked → Told
  after_done (Leave m) = record told { leaving = told.leaving ++ m ∷ [] }
  after_done asked = told

  -- by a fourth message or by a push a member was given the traffic key of an epoch
  abbrev pub after_key : ℕ → Asked → Told
  after_key epoch (Keep m) = record told { keyed = insert_entry same_name told.keyed m epoch }
  after_key epoch (Deliver m sequence) = record told { keyed = insert_entry same_name told.keyed m epoch }
  after_key epoch asked = told

  -- a batch was made: who was to go out is out, and who was sent a reply of it is in
  abbrev pub after_batch : Output → Told
  after_batch output = record {
    epoch = output.epoch;
    sequence = output.sequence;
    members = members_with (members_without told.members told.leaving) output.replies;
    leaving = [];
    keyed = told.keyed;
  }

  -- the group was opened, which shows its members; no leave waits any more
  abbrev pub after_opening : GroupSeen → Told
  after_opening group = record {
    epoch = group.epoch;
    sequence = group.sequence;
    members = members_seen group.members;
    leaving = [];
    keyed = told.keyed;
  }

  abbrev pub after_answer : Answer → Asked → Told
  after_answer Done asked = after_done asked
  after_answer (Kept epoch) asked = after_key epoch asked
  after_answer (TookTraffic epoch) asked = after_key epoch asked
  after_answer (Batched output) asked = after_batch output
  after_answer (Opened group resent) asked = after_opening group
  after_answer answer asked = told

-- what the entries of a history tell
unfoldable pub told_by : List Entry → Told
told_by entries = fold (λ told (entry : Entry). after_answer told entry.answer entry.asked) nothing_told entries

-- ---- what is counted

-- whether this is the epoch that is asked for
abbrev pub is_epoch : ℕ → Option ℕ → Bool
is_epoch epoch None = false
is_epoch epoch (Some last) = last == epoch

-- whether a member was given the traffic key of an epoch last
abbrev pub has_key : List (Name × ℕ) → ℕ → Name → Bool
has_key keyed epoch m = is_epoch epoch (lookup (same_name m) keyed)

-- how many members have the traffic key of the last epoch
abbrev pub agreed : Told → ℕ
agreed told = count_by (has_key told.keyed told.epoch) told.members

-- whether a request was refused by the key server, or a push by a store
abbrev pub is_refusal : Answer → Bool
is_refusal (Refused why) = true
is_refusal (PushRefused why) = true
is_refusal answer = false

-- whether an entry is one of a refusal
abbrev pub was_refused : Entry → Bool
was_refused entry = is_refusal entry.answer

-- how many entries are
abbrev pub refused : List Entry → ℕ
refused entries = count_by was_refused entries

-- ---- the line

-- of which soak, what its history told last, how many entries were refused, and how many members have the last traffic key
abbrev pub summary_line : ℕ → Told → ℕ → List ℕ
summary_line number told refusals = line_with (
    codes "soak" ∷ decimal number ∷
    codes "epochs" ∷ decimal told.epoch ∷
    codes "sequence" ∷ decimal told.sequence ∷
    codes "members" ∷ decimal (length told.members) ∷
    codes "refused" ∷ decimal refusals ∷
    codes "agreed" ∷ decimal (agreed told) ∷ [])

unfoldable pub summary_text : ℕ → List Entry → List ℕ
summary_text number entries = summary_line number (told_by entries) (refused entries)
