-- The lines that report what the key server answered, and the line that ends a run.
use Rattle.std.specs.Prelude.{ℕ, ◌+◌, ◌==◌, Bool, List, [], ◌∷◌, ◌++◌, length, Option, None, Some, if◌then◌else◌, codes}
use Rattle.std.specs.List.{flat_map, join_with_byte}
use Rattle.std.specs.Fmt.{decimal}
use Rattle.group_terms.specs.Names.{Name}
use Rattle.group_terms.specs.declared.keys.KeyName.{KeyName}
use Rattle.group_terms.specs.declared.keys.KeyName.TheVariants.{Node, Traffic, Phase}
use Rattle.group_terms.specs.declared.keys.Wrap.{Wrap}
use Rattle.group_model.specs.declared.entries.Entry.{Entry}
use Rattle.group_model.specs.declared.entries.GroupSeen.{GroupSeen}
use Rattle.group_model.specs.declared.entries.Output.{Output}
use Rattle.group_model.specs.declared.entries.PushPair.{PushPair}
use Rattle.group_model.specs.declared.entries.SentReply.{SentReply}
use Rattle.group_model.specs.declared.entries.Standing.{Standing}
use Rattle.group_model.specs.declared.entries.SymReply.{SymReply}
use Rattle.group_model.specs.declared.entries.Asked.{Asked}
use Rattle.group_model.specs.declared.entries.Asked.TheVariants.{AddRule, Create, Begin, Introduce, Serve, Leave, Batch, Halt, Reopen, Show, Lose, Again, Keep, Deliver, DeliverAll, Key, Derive, Now, Together, Together2}
use Rattle.group_model.specs.declared.entries.Answer.{Answer}
use Rattle.group_model.specs.declared.entries.Answer.TheVariants.{RuleNumber, Datagram, Opened, Queued, Done, Nothing, Batched, Shown, Pair, Kept, Lost, Older, TookRoot, TookTraffic, PushRefused, KeyIs, Derived, Refused}
use Rattle.group_model.specs.declared.entries.Refusal.{Refusal}
use Rattle.group_model.specs.declared.entries.Refusal.TheVariants as refusals
use Rattle.group_model.specs.declared.entries.Refusal.TheVariants.{NeedsReopen, UnknownPeer, WrongStep, BadHash, WrongGroup, Denied, NotMember, AlreadyPending, TreeFull, BatchFull, Spent, DiskFault, PhaseTaken, PhaseFull, NotAJournal, NoMemory}
use Rattle.group_model.specs.declared.entries.Counter.{Counter}
use Rattle.group_model.specs.declared.entries.Counter.TheVariants.{Epoch, Sequence}
use Rattle.group_terms.specs.declared.pushes.PushRefusal.{PushRefusal}
use Rattle.group_terms.specs.declared.pushes.PushRefusal.TheVariants.{OtherSpi, Malformed, BadSignature, Stale, NoPath}
use Rattle.hex.specs.Hex.{encode_lower}

-- a line of these words: a space between each two, and octet 10 at the end
abbrev pub line_with : List (List ℕ) → List ℕ
line_with words = join_with_byte 32 words ++ 10 ∷ []

-- what is counted
abbrev pub counter_text : Counter → List ℕ
counter_text Epoch = codes "epoch "
counter_text Sequence = codes "sequence "

-- the reason for which a request is refused
abbrev pub why_text : Refusal → List ℕ
why_text NeedsReopen = codes "needs-reopen"
why_text (refusals.Malformed message at) = codes "malformed"
why_text UnknownPeer = codes "unknown-peer"
why_text WrongStep = codes "wrong-step"
why_text (BadHash carried expected) = codes "bad-hash"
why_text WrongGroup = codes "wrong-group"
why_text (Denied rule) = codes "denied " ++ decimal rule
why_text NotMember = codes "not-member"
why_text AlreadyPending = codes "already-pending"
why_text (TreeFull held) = codes "tree-full " ++ decimal held
why_text (BatchFull pending) = codes "batch-full " ++ decimal pending
why_text (Spent counter at) = codes "spent " ++ (counter_text counter ++ decimal at)
why_text DiskFault = codes "disk-fault"
why_text PhaseTaken = codes "phase-taken"
why_text (PhaseFull held) = codes "phase-full " ++ decimal held
why_text (NotAJournal at) = codes "not-a-journal " ++ decimal at
why_text NoMemory = codes "no-memory"

-- whose request is refused, and why
abbrev pub refusal_line : List ℕ → Refusal → List ℕ
refusal_line subject why = line_with (subject ∷ codes "refused" ∷ why_text why ∷ [])

-- a tree key by its position and epoch, the traffic key by its epoch
abbrev pub key_text : KeyName → List ℕ
key_text (Node id made) = decimal id ++ codes "." ++ decimal made
key_text (Traffic made) = codes "traffic." ++ decimal made
key_text (Phase member) = codes "phase." ++ member

-- first the key that encrypts, then the one that is given
abbrev pub wrap_line : Wrap → List ℕ
wrap_line wrap = line_with (codes "wrap" ∷ key_text wrap.by ∷ key_text wrap.gives ∷ [])

-- an epoch, the number of the last push, and how many members there are
abbrev pub counts_with : ℕ → ℕ → ℕ → List (List ℕ)
counts_with epoch sequence members =
    codes "epoch" ∷ decimal epoch ∷
    codes "sequence" ∷ decimal sequence ∷
    codes "members" ∷ decimal members ∷ []

-- the counts of a batch
abbrev pub epoch_line : Output → List ℕ
epoch_line output = line_with (counts_with output.epoch output.sequence output.members)

-- the counts of a group as it is seen
abbrev pub seen_counts : GroupSeen → List (List ℕ)
seen_counts group = counts_with group.epoch group.sequence (length group.members)

-- a push: its number, how many octets it has, and the octets in hex
abbrev pub push_line : ℕ → List ℕ → List ℕ
push_line sequence octets = line_with (codes "push" ∷ decimal sequence ∷ decimal (length octets) ∷ encode_lower octets ∷ [])

-- the two pushes of a pair, where there is one
abbrev pub pair_lines : Option PushPair → List ℕ
pair_lines None = []
pair_lines (Some pair) = push_line pair.first pair.membership ++ push_line (pair.first + 1) pair.traffic

-- a member by its leaf
abbrev pub leaf_line : Standing → List ℕ
leaf_line standing = line_with (codes "leaf" ∷ decimal standing.leaf ∷ standing.member ∷ [])

-- the reason for which a member takes no push
abbrev pub push_why_text : PushRefusal → List ℕ
push_why_text (OtherSpi got kept) = codes "other-spi"
push_why_text (Malformed at) = codes "malformed"
push_why_text BadSignature = codes "bad-signature"
push_why_text (Stale last got) = codes "stale " ++ (decimal last ++ 32 ∷ decimal got)
push_why_text (NoPath leaf) = codes "no-path " ++ decimal leaf

-- ---- the lines of each request, by its answer; none where a request cannot have the answer

-- the group was made
abbrev pub create_text : ℕ → Answer → List ℕ
create_text depth (Opened group resent) = line_with (codes "new" ∷ codes "depth" ∷ decimal depth ∷ [])
create_text depth (Refused why) = refusal_line (codes "new") why
create_text depth answer = []

-- what an opening found
abbrev pub found_line : GroupSeen → List ℕ
found_line group = line_with (codes "open" ∷ codes "depth" ∷ decimal group.depth ∷ seen_counts group)

-- what was found when the group was opened again
abbrev pub found_again_line : GroupSeen → List ℕ
found_again_line group = line_with (codes "reopened" ∷ seen_counts group)

-- how a group is
abbrev pub group_line : GroupSeen → List ℕ
group_line group = line_with (codes "group" ∷ seen_counts group)

-- it was opened, and the last pair was sent again
abbrev pub begin_text : Answer → List ℕ
begin_text (Opened group resent) = found_line group ++ pair_lines resent
begin_text (Refused why) = refusal_line (codes "open") why
begin_text answer = []

-- the rule has this number
abbrev pub rule_text : Answer → List ℕ
rule_text (RuleNumber number) = line_with (codes "rule" ∷ decimal number ∷ [])
rule_text answer = []

-- an SA that is introduced has no line
abbrev pub introduction_text : Name → Answer → List ℕ
introduction_text m (Refused why) = refusal_line m why
introduction_text m answer = []

-- a message to a member: which one, how many octets it has, and the octets in hex
abbrev pub message_line : List ℕ → Name → List ℕ → List ℕ
message_line which m octets = line_with (which ∷ m ∷ decimal (length octets) ∷ encode_lower octets ∷ [])

-- a message with key names is a fourth message; any other is a second
abbrev pub which_message : Option SymReply → List ℕ
which_message None = codes "second"
which_message (Some reply) = codes "fourth"

-- the message to a member, or its join waits for the next batch
abbrev pub serve_text : Name → Answer → List ℕ
serve_text m (Datagram octets names) = message_line (which_message names) m octets
serve_text m Queued = line_with (m ∷ codes "queued" ∷ [])
serve_text m (Refused why) = refusal_line m why
serve_text m answer = []

-- the member goes out with the next batch
abbrev pub leave_text : Name → Answer → List ℕ
leave_text m Done = line_with (m ∷ codes "leaving" ∷ [])
leave_text m (Refused why) = refusal_line m why
leave_text m answer = []

-- a reply of a batch
abbrev pub reply_line : SentReply → List ℕ
reply_line reply = message_line (codes "fourth") reply.says.member reply.datagram

-- what the batch made, then each of its wraps in order, the pushes that were made of them, and the fourth messages
abbrev pub batch_text : Answer → List ℕ
batch_text (Batched output) =
    epoch_line output ++ (flat_map wrap_line output.wraps ++ (pair_lines output.pushes ++ flat_map reply_line output.replies))
batch_text (Refused why) = refusal_line (codes "batch") why
batch_text answer = []

-- the group has to be opened again from now on
abbrev pub halt_text : Answer → List ℕ
halt_text Done = line_with (codes "halted" ∷ [])
halt_text answer = []

-- it was opened again, and the last pair was sent again
abbrev pub reopen_text : Answer → List ℕ
reopen_text (Opened group resent) = found_again_line group ++ pair_lines resent
reopen_text (Refused why) = refusal_line (codes "reopen") why
reopen_text answer = []

-- the group, and each member by rising leaf
abbrev pub show_text : Answer → List ℕ
show_text (Shown group) = group_line group ++ flat_map leaf_line group.members
show_text (Refused why) = refusal_line (codes "show") why
show_text answer = []

-- the next datagram to the member goes missing, or nothing does, since it was not introduced
abbrev pub lose_text : Name → Answer → List ℕ
lose_text m Done = line_with (m ∷ codes "loses" ∷ codes "next" ∷ [])
lose_text m Nothing = line_with (m ∷ codes "nothing" ∷ [])
lose_text m answer = []

-- the member has sent nothing that it could send again
abbrev pub again_text : Name → Answer → List ℕ
again_text m Nothing = line_with (m ∷ codes "nothing" ∷ [])
again_text m answer = []

-- the member has the keys of an epoch, or had later ones; or the datagram went missing
abbrev pub keep_text : Name → Answer → List ℕ
keep_text m (Kept epoch) = line_with (m ∷ codes "keyed" ∷ decimal epoch ∷ [])
keep_text m Lost = line_with (m ∷ codes "lost" ∷ [])
keep_text m (Older last got) = line_with (m ∷ codes "older" ∷ decimal last ∷ decimal got ∷ [])
keep_text m answer = []

-- what became of the push of this number
abbrev pub delivery_line : Name → ℕ → List (List ℕ) → List ℕ
delivery_line m sequence words = m ++ (codes " push " ++ (decimal sequence ++ 32 ∷ line_with words))

-- the member took the key of the root or of the traffic, or refused the push; or it had no store, or there was no such push
abbrev pub deliver_text : Name → ℕ → Answer → List ℕ
deliver_text m sequence (TookRoot epoch) = delivery_line m sequence (codes "taken" ∷ codes "root" ∷ decimal epoch ∷ [])
deliver_text m sequence (TookTraffic epoch) = delivery_line m sequence (codes "taken" ∷ codes "traffic" ∷ decimal epoch ∷ [])
deliver_text m sequence (PushRefused why) = delivery_line m sequence (codes "refused" ∷ push_why_text why ∷ [])
deliver_text m sequence Nothing = delivery_line m sequence (codes "nothing" ∷ [])
deliver_text m sequence answer = []

-- why no push is given to any member; where pushes are given, each has a line of its own
abbrev pub deliver_all_text : Answer → List ℕ
deliver_all_text (Refused why) = refusal_line (codes "deliver-all") why
deliver_all_text answer = []

-- the traffic key that a member has, by its epoch, the number of the last push it took, and a fingerprint in hex
abbrev pub fingerprint_text : Name → Answer → List ℕ
fingerprint_text m (KeyIs epoch sequence print) = line_with (m ∷ codes "key" ∷ decimal epoch ∷ codes "sequence" ∷ decimal sequence ∷ encode_lower print ∷ [])
fingerprint_text m Nothing = line_with (m ∷ codes "nothing" ∷ [])
fingerprint_text m answer = []

-- whether a traffic key is derived, in one word
abbrev pub derived_word : Bool → List ℕ
derived_word derived = if derived then codes "yes" else codes "none"

-- of which epoch, who, and whether they derive its traffic key
abbrev pub derive_text : ℕ → List Name → Answer → List ℕ
derive_text epoch members (Derived derived) = line_with (codes "derive" ∷ decimal epoch ∷ (members ++ derived_word derived ∷ []))
derive_text epoch members answer = []

-- the epoch that the group is at, and the number of its last push
abbrev pub now_text : Answer → List ℕ
now_text (Pair epoch sequence) = line_with (codes "now" ∷ codes "epoch" ∷ decimal epoch ∷ codes "sequence" ∷ decimal sequence ∷ [])
now_text answer = []

-- how many lines a block has
abbrev pub together_text : ℕ → Answer → List ℕ
together_text lines Done = line_with (codes "together" ∷ decimal lines ∷ [])
together_text lines answer = []

-- its turns are over
abbrev pub together2_text : Answer → List ℕ
together2_text Done = line_with (codes "together" ∷ codes "done" ∷ [])
together2_text answer = []

-- what is reported of an answer, by what was asked
abbrev pub answer_text : Asked → Answer → List ℕ
answer_text (Create depth) answer = create_text depth answer
answer_text Begin answer = begin_text answer
answer_text (AddRule rule) answer = rule_text answer
answer_text (Introduce phase) answer = introduction_text phase.member answer
answer_text (Serve m datagram) answer = serve_text m answer
answer_text (Leave m) answer = leave_text m answer
answer_text Batch answer = batch_text answer
answer_text Halt answer = halt_text answer
answer_text Reopen answer = reopen_text answer
answer_text Show answer = show_text answer
answer_text (Lose m) answer = lose_text m answer
answer_text (Again m) answer = again_text m answer
answer_text (Keep m) answer = keep_text m answer
answer_text (Deliver m sequence) answer = deliver_text m sequence answer
answer_text DeliverAll answer = deliver_all_text answer
answer_text (Key m) answer = fingerprint_text m answer
answer_text (Derive epoch members) answer = derive_text epoch members answer
answer_text Now answer = now_text answer
answer_text (Together lines) answer = together_text lines answer
answer_text Together2 answer = together2_text answer

-- what is reported of an entry; where its answer is none that the request can have, no line
unfoldable pub entry_text : Entry → List ℕ
entry_text entry = answer_text entry.asked entry.answer

-- the reports of a history
abbrev pub entries_text : List Entry → List ℕ
entries_text entries = flat_map entry_text entries

-- the status, and where that is 2 the number of the line at which the run ended
unfoldable pub end_text : ℕ → ℕ → List ℕ
end_text status line =
    if status == 2 then line_with (codes "end" ∷ codes "2" ∷ codes "line" ∷ decimal line ∷ [])
    else line_with (codes "end" ∷ decimal status ∷ [])
