-- What is reported of an answer, row by row; most of them are given by no console alone, whose disk, members and draws are sound.
use Rattle.std.proofs.Common.{◌≡◌, ◌++◌, ℕ, true, false, List, [], ◌∷◌, Option, Some, None, map, refl}
use Rattle.std.specs.Fmt.{digits}
use Rattle.std.specs.Prelude.{codes, replicate}
use Rattle.group_terms.specs.Names.{Name}
use Rattle.group_terms.specs.declared.keys.KeyName.TheVariants.{Node, Traffic}
use Rattle.group_terms.specs.declared.patterns.Rule.{Rule}
use Rattle.group_terms.specs.declared.phases.Phase1.{Phase1}
use Rattle.group_terms.specs.declared.pushes.PushRefusal.TheVariants.{OtherSpi, BadSignature, Stale, NoPath}
use Rattle.group_terms.specs.declared.pushes.PushRefusal.TheVariants as pushes
use Rattle.group_model.specs.declared.entries.Answer.TheVariants.{Batched, Datagram, Derived, Done, KeyIs, Kept, Lost, Nothing, Older, Opened, PushRefused, Queued, Refused, RuleNumber, Shown, TookRoot, TookTraffic}
use Rattle.group_model.specs.declared.entries.Asked.TheVariants.{AddRule, Again, Batch, Begin, Create, Deliver, DeliverAll, Derive, Halt, Introduce, Keep, Key, Leave, Lose, Reopen, Serve, Show}
use Rattle.group_model.specs.declared.entries.Counter.TheVariants.{Epoch, Sequence}
use Rattle.group_model.specs.declared.entries.GroupSeen.{GroupSeen}
use Rattle.group_model.specs.declared.entries.PushPair.{PushPair}
use Rattle.group_model.specs.declared.entries.Refusal.TheVariants.{AlreadyPending, BadHash, BatchFull, Denied, DiskFault, Malformed, NeedsReopen, NoMemory, NotAJournal, NotMember, PhaseFull, PhaseTaken, Spent, TreeFull, UnknownPeer, WrongGroup, WrongStep}
use Rattle.group_model.specs.declared.entries.SymReply.{SymReply}
use Rattle.hex.specs.Hex.{encode_with}
use Rattle.script_text.specs.Report.{answer_text, end_text}

-- a line of the report
abbrev line : List ℕ → List ℕ
line text = text ++ 10 ∷ []

abbrev ann : Name
ann = codes "ann"

abbrev bob : Name
bob = codes "bob"

abbrev b_1 : Name
b_1 = codes "b_1"

-- ---- rules, introductions, and the messages of pulls

rule_is_reported : (rule : Rule) → answer_text (AddRule rule) (RuleNumber 3) ≡ line (codes "rule 3")
unfolding digits
rule_is_reported rule = refl

introductions_are_reported : (phase : Phase1)
    → map (answer_text (Introduce (record phase { member = ann }))) (Done ∷ Refused PhaseTaken ∷ Refused (PhaseFull 2) ∷ [])
    ≡ [] ∷ line (codes "ann refused phase-taken") ∷ line (codes "ann refused phase-full 2") ∷ []
unfolding digits
introductions_are_reported phase = refl

refused_datagrams_are_reported : (datagram carried expected : List ℕ)
    → map (λ why. answer_text (Serve bob datagram) (Refused why))
    (Malformed 1 28 ∷ UnknownPeer ∷ WrongStep ∷ BadHash carried expected ∷ WrongGroup ∷ Denied 1 ∷ [])
    ≡ map line (codes "bob refused malformed" ∷ codes "bob refused unknown-peer" ∷ codes "bob refused wrong-step" ∷ codes "bob refused bad-hash" ∷
    codes "bob refused wrong-group" ∷ codes "bob refused denied 1" ∷ [])
unfolding digits
refused_datagrams_are_reported datagram carried expected = refl

messages_are_reported : (datagram : List ℕ) (reply : SymReply)
    → map (answer_text (Serve ann datagram)) (Datagram (10 ∷ 11 ∷ 255 ∷ []) None ∷ Datagram (0 ∷ 255 ∷ []) (Some reply) ∷ Queued ∷ Refused (TreeFull 4) ∷ [])
    ≡ map line (codes "second ann 3 0a0bff" ∷ codes "fourth ann 2 00ff" ∷ codes "ann queued" ∷ codes "ann refused tree-full 4" ∷ [])
unfolding digits encode_with
messages_are_reported datagram reply = refl

losses_are_reported : map (answer_text (Lose ann)) (Done ∷ Nothing ∷ []) ≡ map line (codes "ann loses next" ∷ codes "ann nothing" ∷ [])
unfolding digits
losses_are_reported = refl

who_sent_nothing_is_reported : answer_text (Again ann) Nothing ≡ line (codes "ann nothing")
unfolding digits
who_sent_nothing_is_reported = refl

-- ---- changes and batches

leaves_are_reported : map (answer_text (Leave b_1)) (Done ∷ Refused AlreadyPending ∷ Refused NotMember ∷ Refused (BatchFull 32) ∷ [])
    ≡ map line (codes "b_1 leaving" ∷ codes "b_1 refused already-pending" ∷ codes "b_1 refused not-member" ∷ codes "b_1 refused batch-full 32" ∷ [])
unfolding digits
leaves_are_reported = refl

refused_batches_are_reported : map (λ why. answer_text Batch (Refused why))
    (NoMemory ∷ NeedsReopen ∷ BatchFull 32 ∷ Spent Epoch 1 ∷ Spent Sequence 4 ∷ DiskFault ∷ NotAJournal 5000000000 ∷ [])
    ≡ map line (codes "batch refused no-memory" ∷ codes "batch refused needs-reopen" ∷ codes "batch refused batch-full 32" ∷
    codes "batch refused spent epoch 1" ∷ codes "batch refused spent sequence 4" ∷ codes "batch refused disk-fault" ∷
    codes "batch refused not-a-journal 5000000000" ∷ [])
unfolding digits
refused_batches_are_reported = refl

-- three encryptions: under a leaf, under what that gives, and of the traffic key under the root
batch_is_reported : answer_text Batch (Batched (record {
  epoch = 2;
  sequence = 10;
  members = 3;
  pushes = None;
  replies = [];
  wraps = record { by = Node 4 1; gives = Node 2 2 } ∷ record { by = Node 2 2; gives = Node 1 2 } ∷ record { by = Node 1 2; gives = Traffic 2 } ∷ [];
}))
    ≡ line (codes "epoch 2 sequence 10 members 3") ++ line (codes "wrap 4.1 2.2") ++ line (codes "wrap 2.2 1.2") ++ line (codes "wrap 1.2 traffic.2")
unfolding digits
batch_is_reported = refl

batch_with_a_reply_is_reported : (reply : SymReply) → answer_text Batch (Batched (record {
  epoch = 1;
  sequence = 0;
  members = 2;
  wraps = [];
  pushes = None;
  replies = record { says = record reply { member = ann }; datagram = 0 ∷ 255 ∷ [] } ∷ [];
}))
    ≡ line (codes "epoch 1 sequence 0 members 2") ++ line (codes "fourth ann 2 00ff")
unfolding digits encode_with
batch_with_a_reply_is_reported reply = refl

-- ---- groups

-- one member, who has leaf 5
abbrev seen : GroupSeen
seen = record { depth = 2; epoch = 3; sequence = 6; members = record { leaf = 5; member = b_1 } ∷ [] }

-- two short pushes
abbrev resent : Option PushPair
resent = Some (record { first = 5; membership = 1 ∷ 160 ∷ []; traffic = 11 ∷ []; wraps = [] })

new_group_is_reported : (group : GroupSeen) → map (answer_text (Create 2)) (Opened group None ∷ Queued ∷ Refused NoMemory ∷ [])
    ≡ line (codes "new depth 2") ∷ [] ∷ line (codes "new refused no-memory") ∷ []
unfolding digits
new_group_is_reported group = refl

opened_group_is_reported : answer_text Begin (Opened seen resent)
    ≡ line (codes "open depth 2 epoch 3 sequence 6 members 1") ++ line (codes "push 5 2 01a0") ++ line (codes "push 6 1 0b")
unfolding digits encode_with
opened_group_is_reported = refl

group_opened_again_is_reported : answer_text Reopen (Opened seen resent)
    ≡ line (codes "reopened epoch 3 sequence 6 members 1") ++ line (codes "push 5 2 01a0") ++ line (codes "push 6 1 0b")
unfolding digits encode_with
group_opened_again_is_reported = refl

group_is_shown : answer_text Show (Shown seen) ≡ line (codes "group epoch 3 sequence 6 members 1") ++ line (codes "leaf 5 b_1")
unfolding digits
group_is_shown = refl

stop_is_reported : answer_text Halt Done ≡ line (codes "halted")
unfolding digits
stop_is_reported = refl

who_needs_an_opening_refuses : map (λ asked. answer_text asked (Refused NeedsReopen)) (Begin ∷ Reopen ∷ Show ∷ DeliverAll ∷ [])
    ≡ map line (codes "open refused needs-reopen" ∷ codes "reopen refused needs-reopen" ∷ codes "show refused needs-reopen" ∷
    codes "deliver-all refused needs-reopen" ∷ [])
unfolding digits
who_needs_an_opening_refuses = refl

-- ---- stores

kept_keys_are_reported : map (answer_text (Keep b_1)) (Kept 3 ∷ Older 6 4 ∷ Lost ∷ [])
    ≡ map line (codes "b_1 keyed 3" ∷ codes "b_1 older 6 4" ∷ codes "b_1 lost" ∷ [])
unfolding digits
kept_keys_are_reported = refl

given_pushes_are_reported : (spi : List ℕ) → map (answer_text (Deliver b_1 5))
    (TookRoot 3 ∷ TookTraffic 3 ∷ Nothing ∷ PushRefused BadSignature ∷ PushRefused (OtherSpi (replicate 16 0) spi) ∷ PushRefused (pushes.Malformed 7) ∷
    PushRefused (Stale 6 5) ∷ PushRefused (NoPath 9) ∷ [])
    ≡ map line (codes "b_1 push 5 taken root 3" ∷ codes "b_1 push 5 taken traffic 3" ∷ codes "b_1 push 5 nothing" ∷ codes "b_1 push 5 refused bad-signature" ∷
    codes "b_1 push 5 refused other-spi" ∷ codes "b_1 push 5 refused malformed" ∷ codes "b_1 push 5 refused stale 6 5" ∷
    codes "b_1 push 5 refused no-path 9" ∷ [])
unfolding digits
given_pushes_are_reported spi = refl

keys_are_reported : map (answer_text (Key b_1)) (KeyIs 3 6 (0 ∷ 1 ∷ 2 ∷ 10 ∷ 15 ∷ 16 ∷ 171 ∷ 255 ∷ []) ∷ Nothing ∷ [])
    ≡ map line (codes "b_1 key 3 sequence 6 0001020a0f10abff" ∷ codes "b_1 nothing" ∷ [])
unfolding digits encode_with
keys_are_reported = refl

-- ---- questions and ends

questions_are_reported : (answer_text (Derive 7 (b_1 ∷ b_1 ∷ [])) (Derived true) ≡ line (codes "derive 7 b_1 b_1 yes"))
    × (answer_text (Derive 0 (b_1 ∷ [])) (Derived false) ≡ line (codes "derive 0 b_1 none"))
unfolding digits
questions_are_reported = (refl, refl)

ends_are_reported : (end_text 0 7 ≡ line (codes "end 0")) × (end_text 2 7 ≡ line (codes "end 2 line 7"))
unfolding end_text digits
ends_are_reported = (refl, refl)
