-- What the definitions of a run's steps give where a wrong step would give something else: a leave noted as a join, a server that is shown though it has to be
-- opened again, a rule with the number of another, an SA that is introduced twice, a fourth message that is made anew for a repeat or is of an older epoch,
-- a datagram that comes though it got lost or is still on its way after another opening, the fingerprint of one key alone.
use Rattle.std.proofs.Common.{◌≡◌, ◌⊎◌, ◌∙◌, ℕ, zero, suc, Bool, true, false, List, [], ◌∷◌, ◌++◌, Option, None, Some, MatchBool, if◌then◌else◌, map, take, inl, inr, ap, refl}
use Rattle.std.proofs.Common.{arith, length, subst}
use Rattle.std.specs.Str.{bytes_eq}
use Rattle.std.proofs.lemmas.Bool.{true≢false, false≢true}
use Rattle.sha2.specs.Sha256.{sha256}
use Rattle.gd_edges.specs.declared.signers.Signer.{Ghosts as SignerGhosts}
use Rattle.gd_edges.specs.declared.verifiers.Verifier.{Ghosts as VerifierGhosts}
use Rattle.group_terms.specs.Names.{Name}
use Rattle.group_terms.specs.declared.changes.Change.TheVariants.{In, Out}
use Rattle.group_terms.specs.declared.paths.Keyed.{Keyed}
use Rattle.group_terms.specs.declared.patterns.Rule.{Rule}
use Rattle.group_terms.specs.declared.phases.Phase1.{Phase1}
use Rattle.group_terms.specs.declared.signatures.SignKind.{SignKind}
use Rattle.group_terms.specs.declared.values.TrafficValue.{TrafficValue}
use Rattle.group_policy.specs.Judgements.{judgement}
use Rattle.group_policy.specs.declared.verdicts.Verdict.TheVariants as verdicts
use Rattle.group_model.specs.Servers.{Server, with_change}
use Rattle.group_model.specs.declared.entries.Answer.{Answer}
use Rattle.group_model.specs.declared.entries.Answer.TheVariants.{Batched, Datagram, Done, Lost, Nothing, Queued, Refused, RuleNumber}
use Rattle.group_model.specs.declared.entries.Asked.{Asked}
use Rattle.group_model.specs.declared.entries.Asked.TheVariants.{Again, Batch, Introduce, Reopen, Serve}
use Rattle.group_model.specs.declared.entries.Entry.{Entry}
use Rattle.group_model.specs.declared.entries.Output.{Output}
use Rattle.group_model.specs.declared.entries.Outside.{Outside}
use Rattle.group_model.specs.declared.entries.Refusal.{Refusal}
use Rattle.group_model.specs.declared.entries.Refusal.TheVariants.{Denied, NeedsReopen, NoMemory, WrongGroup}
use Rattle.group_model.specs.declared.entries.SentReply.{SentReply}
use Rattle.group_model.specs.declared.entries.SymReply.{SymReply}
use Rattle.group_values.specs.Values.{Made}
use Rattle.pull_msgs.specs.Texts.{next_iv}
use Rattle.pull_msgs.specs.declared.messages.First.{First}
use Rattle.pull_msgs.specs.declared.messages.Third.{Third}
use Rattle.pull_sessions.specs.Builds.{begun_session, session_after_third}
use Rattle.pull_sessions.specs.declared.answers.Kept.{Kept}
use Rattle.pull_sessions.specs.declared.answers.Kept.TheVariants as kept
use Rattle.pull_sessions.specs.declared.answers.LookedAt.TheVariants.{Repeat}
use Rattle.pull_sessions.specs.declared.answers.Step.TheVariants as awaits
use Rattle.pull_sessions.specs.declared.sas.Session.{Session}
use Rattle.sa_wire.specs.declared.policies.SaPolicy.{SaPolicy}
use Rattle.server_steps.specs.Changes.{IsAddingRule, after_leave, shown_group}
use Rattle.server_steps.specs.Fourths.{settled_by, settled_in}
use Rattle.server_steps.specs.Hosts.{Host, with_rules}
use Rattle.server_steps.specs.Messages.{IsAnswerNow, IsMessageNow}
use Rattle.server_steps.specs.Pulls.{AnswersFound, Queues, present_policy, spi_or_zeros}
use Rattle.server_steps.specs.Refusals.{names_group, refusal_to_first, unless_denied, why_pending}
use Rattle.group_peers.specs.Peers.{loses, peer_of, was_introduced, with_loss}
use Rattle.group_peers.specs.declared.members.Peer.{Peer}
use Rattle.member_pull.specs.Pulls.{spi_of}
use Rattle.member_pull.specs.Views.{Pull}
use Rattle.member_pull.specs.declared.pulls.Step.TheVariants as pulls
use Rattle.member_store.specs.Stores.{Store, is_older}
use Rattle.member_steps.specs.Acts.{Ignore}
use Rattle.member_steps.specs.Drawn.{message_drawn, nonce_drawn, phase_drawn}
use Rattle.member_steps.specs.Keys.{print_of}
use Rattle.member_steps.specs.Members.{Mail, Members, with_all}
use Rattle.member_steps.specs.Steps.{Gets, IsKeeping, IsLosing, IsMemberStep, IsOld, TakesReply}
use Rattle.group_steps.specs.Gets.{get, introduced_by, mail_of, mail_to}
use Rattle.group_steps.specs.Runs.{Run}
use Rattle.group_run.specs.Reads.{Ask, AsksOf, ReadsMail}
use Rattle.law_store_steps.specs.Fourths.{IsInStep}
use Rattle.console_run.specs.Lines.{AsksToIntroduce, AsksToJoin, AsksToPull, JoinsAfter, asked_again}

-- ---- a server

granted_leave_waits_as_one : {D : Type 0} (host : Host D) (m : Name) → (after_leave host m Done).server ≡ with_change host.server (Out m)
granted_leave_waits_as_one host m = refl

stopped_server_is_not_shown : (server : Server) → shown_group (record server { needs_reopen = true }) ≡ Refused NeedsReopen
stopped_server_is_not_shown server = refl

first_rule_has_number_1 : {D : Type 0} (rule : Rule) (host : Host D) (answer : Answer) (outside : Outside) (next : Host D)
    → IsAddingRule rule (with_rules host []) answer outside next → (answer ≡ RuleNumber 1) ⊎ (answer ≡ Refused NoMemory)
first_rule_has_number_1 rule host answer outside next (inl becomes) = inl becomes.answers
first_rule_has_number_1 rule host answer outside next (inr says) = inr says.answers

rule_comes_last : {D : Type 0} (rule : Rule) (host : Host D) (answer : Answer) (outside : Outside) (next : Host D)
    → IsAddingRule rule host answer outside next → (next.rules ≡ host.rules ++ rule ∷ []) ⊎ (answer ≡ Refused NoMemory)
rule_comes_last rule host answer outside next (inl becomes) = inl (ap (λ (host : Host _). host.rules) becomes.now)
rule_comes_last rule host answer outside next (inr says) = inr says.answers

another_group_is_the_first_reason : (group : Name) (rules : List Rule) (server : Server) (m : Name) (first : First) → names_group group first ≡ false
    → refusal_to_first group rules server m first ≡ Some WrongGroup
another_group_is_the_first_reason group rules server m first other =
    ap (λ (names : Bool). if names then unless_denied (judgement rules m) (why_pending server m) else Some WrongGroup) other

denial_comes_before_what_waits : (rule : ℕ) (later : Option Refusal) → unless_denied (verdicts.Denied rule) later ≡ Some (Denied rule)
denial_comes_before_what_waits rule later = refl

no_traffic_key_is_told_as_zeros : spi_or_zeros None ≡ 0 ∷ 0 ∷ 0 ∷ 0 ∷ []
no_traffic_key_is_told_as_zeros = refl

-- ---- a pull at a server

module _ {D G : Type 0} (g : SignerGhosts G) (signer : G) (block : ℕ → List ℕ) (host : Host D) (m : Name) where
  granted_join_waits_as_one : (third : Third) (datagram : List ℕ) (answer : Answer) (outside : Outside) (next : Host D)
      → Queues g signer block host m third datagram answer outside next → next.server ≡ with_change host.server (In m)
  granted_join_waits_as_one third datagram answer outside next queues = ap (λ (host : Host D). host.server) queues.becomes.now

  repeat_is_answered_by_what_is_kept : (octets : List ℕ) (names : Option SymReply) (datagram : List ℕ) (answer : Answer) (outside : Outside)
      (next : Host D) → AnswersFound g signer block host (Repeat (kept.Datagram octets names)) m datagram answer outside next → answer ≡ Datagram octets names
  repeat_is_answered_by_what_is_kept octets names datagram answer outside next says = says.answers

  repeat_does_not_wait_twice : (datagram : List ℕ) (answer : Answer) (outside : Outside) (next : Host D)
      → AnswersFound g signer block host (Repeat kept.Queued) m datagram answer outside next → next ≡ host
  repeat_does_not_wait_twice datagram answer outside next says = says.stays

reply_of_a_batch_is_kept : (session : Session) (reply : SentReply)
    → (settled_by session (Some reply)).kept ≡ kept.Datagram reply.datagram (Some reply.says)
reply_of_a_batch_is_kept session reply = refl

session_without_a_reply_waits_on : (session : Session) → settled_by session None ≡ session
session_without_a_reply_waits_on session = refl

session_that_awaits_a_third_message_stays : (replies : List SentReply) (m : Name) (session : Session)
    → settled_in replies m (record session { step = awaits.AwaitsThird }) ≡ record session { step = awaits.AwaitsThird }
session_that_awaits_a_third_message_stays replies m session = refl

-- ---- what is on its way

nothing_is_on_its_way_after_an_opening : (answer : Answer) (members : Members) → (get Reopen answer members).mail ≡ []
nothing_is_on_its_way_after_an_opening answer members = refl

replies_come_after_what_is_on_its_way : (output : Output) (members : Members)
    → (get Batch (Batched output) members).mail ≡ members.mail ++ map mail_of output.replies
replies_come_after_what_is_on_its_way output members = refl

reply_goes_to_whom_it_is_said : (says : SymReply) (datagram : List ℕ) → mail_of (record { says = says; datagram = datagram }) ≡ (says.member, datagram)
reply_goes_to_whom_it_is_said says datagram = refl

who_waits_is_sent_nothing : (m : Name) → mail_to m Queued ≡ []
who_waits_is_sent_nothing m = refl

nothing_comes : (n : ℕ) (members read : Members) → members.mail ≡ [] → Ignore n members read → read.mail ≡ []
nothing_comes zero members read rest ignored = ap (λ (members : Members). members.mail) ignored ∙ rest
nothing_comes (suc n) members read rest ignored = absurd (cc (ignored.1.gets.is_first, rest))

nothing_is_asked : (mail : List Mail) (members : Members) (next : Option Ask) → mail ≡ [] → AsksOf mail members next → next ≡ None
nothing_is_asked [] members next rest asks = asks
nothing_is_asked (first ∷ later) members next rest asks = absurd (cc rest)

nobody_is_asked_where_nothing_is_on_its_way : (members : Members) (next : Option Ask) → members.mail ≡ [] → ReadsMail members next → next ≡ None
nobody_is_asked_where_nothing_is_on_its_way members next rest reads =
    nothing_is_asked reads.0.mail reads.0 next (nothing_comes reads.1.0 members reads.0 rest reads.1.1) reads.2

-- ---- a datagram that gets lost

module _ (m : Name) (members : Members) (peer : Peer) (is_there : peer_of members.all m ≡ Some peer) (answer : Answer) (next : Members) where
  lost_datagram_is_not_taken : peer.loses ≡ true → IsKeeping m members answer next → answer ≡ Lost
  lost_datagram_is_not_taken loses (inl missing) = missing.answers
  lost_datagram_is_not_taken loses (inr fourth) = absurd (cc (is_there, fourth.gets.is_there, loses, fourth.gets.comes))

  taken_is_not_lost : (had : Option Store) (keyed : Keyed) (left : Members) → TakesReply had m keyed left answer next → answer ≡ Lost → ⊥
  taken_is_not_lost None keyed left takes lost = absurd (cc (takes.answers, lost))
  taken_is_not_lost (Some store) keyed left takes lost = by_age (is_older store keyed) takes
    where
      by_age : (age : Bool) → MatchBool age (IsOld store keyed left answer next) (Gets m keyed left answer next) → ⊥
      by_age true old = absurd (cc (old.answers, lost))
      by_age false gets = absurd (cc (gets.answers, lost))

  no_other_gets_lost : peer.loses ≡ false → IsKeeping m members answer next → answer ≡ Lost → ⊥
  no_other_gets_lost comes (inl missing) lost = absurd (cc (is_there, missing.is_there, comes, missing.loses))
  no_other_gets_lost comes (inr fourth) lost = taken_is_not_lost fourth.peer.store fourth.keyed _ fourth.takes lost

-- a peer of this letter
abbrev called : ℕ → Peer → Peer
called letter peer = record peer { phase = record peer.phase { member = letter ∷ [] } }

only_one_gets_lost : (a b : Peer) → loses (with_loss (called 97 a ∷ called 98 b ∷ []) (97 ∷ []) false) (97 ∷ []) ≡ false
only_one_gets_lost a b = refl

others_get_lost_still : (a b : Peer) → loses (with_loss (called 97 a ∷ called 98 b ∷ []) (97 ∷ []) false) (98 ∷ []) ≡ b.loses
others_get_lost_still a b = refl

nothing_gets_lost_before_an_introduction : (m : Name) (members : Members) (answer : Answer) (next : Members) → was_introduced members.all m ≡ false
    → IsLosing m members answer next → (answer ≡ Nothing) × (next ≡ members)
nothing_gets_lost_before_an_introduction m members answer next not_yet losing = by_test (was_introduced members.all m) not_yet losing
  where
    by_test : (was : Bool) → was ≡ false
        → MatchBool was ((answer ≡ Done) × (next ≡ with_all members (with_loss members.all m true))) ((answer ≡ Nothing) × (next ≡ members))
        → (answer ≡ Nothing) × (next ≡ members)
    by_test true not_yet losing = absurd (true≢false not_yet)
    by_test false not_yet losing = losing

-- ---- what members ask

what_was_sent_last_is_sent_again : (m : Name) (datagram : List ℕ) → asked_again m (Some datagram) ≡ Serve m datagram
what_was_sent_last_is_sent_again m datagram = refl

who_sent_nothing_asks_no_server : (m : Name) → asked_again m None ≡ Again m
who_sent_nothing_asks_no_server m = refl

who_sent_nothing_changes_nobody : {V : Type 0} (v : VerifierGhosts V) (verifier : V) (sent : ℕ → Option (List ℕ)) (m : Name) (members : Members)
    (answer : Answer) (next : Members) → IsMemberStep v verifier sent (Again m) members answer next → (answer ≡ Nothing) × (next ≡ members)
who_sent_nothing_changes_nobody v verifier sent m members answer next nothing = (nothing.answers, nothing.stays)

refused_introduction_introduces_nobody : (why : Refusal) (m : Name) (members : Members) → introduced_by (Refused why) m members ≡ members
refused_introduction_introduces_nobody why m members = refl

-- whether an introduction is asked
abbrev introduces : Asked → Bool
introduces (Introduce phase) = true
introduces asked = false

abbrev is_introduction : Option Ask → Bool
is_introduction None = false
is_introduction (Some ask) = introduces ask.0

module _ (block : ℕ → List ℕ) (group : Name) {D : Type 0} (run : Run D) (before so_far : List Entry) (m : Name) (members : Members) (next : Option Ask) where
  abbrev Pulls : Type 0
  Pulls = AsksToPull block group run before so_far m members next

  abbrev Introduces : Type 0
  Introduces = AsksToIntroduce block group run before so_far m members next

  introduced : (was : Bool) → was ≡ true → MatchBool was Pulls Introduces → is_introduction next ≡ false
  introduced true is pulls = ap is_introduction pulls.4
  introduced false is introduces = absurd (false≢true is)

  who_was_introduced_is_not_again : was_introduced members.all m ≡ true → AsksToJoin block group run before so_far m members next
      → is_introduction next ≡ false
  who_was_introduced_is_not_again is asks = introduced (was_introduced members.all m) is asks

  refused_before : (was : Bool) → was ≡ false → MatchBool was Pulls Introduces → is_introduction next ≡ true
  refused_before true is pulls = absurd (true≢false is)
  refused_before false is introduces = ap is_introduction introduces.4

  who_was_refused_is_introduced_again : was_introduced members.all m ≡ false → AsksToJoin block group run before so_far m members next
      → is_introduction next ≡ true
  who_was_refused_is_introduced_again is asks = refused_before (was_introduced members.all m) is asks

  no_pull_follows_a_refused_introduction : (phase : Phase1) (why : Refusal)
      → JoinsAfter block group run before so_far m (Introduce phase) (Refused why) next → next ≡ None
  no_pull_follows_a_refused_introduction phase why none = none

-- ---- of which epoch an answer is

module _ {D : Type 0} (kind : SignKind) (host : Host D) (session : Session) (phase : Phase1) (datagram octets : List ℕ) where
  answered_by : (names : Option SymReply) (again : Bool) → bytes_eq datagram session.last ≡ again
      → IsAnswerNow kind host (Some session) phase datagram octets names
      → MatchBool again (session.kept ≡ kept.Datagram octets names) (IsMessageNow kind host phase octets names)
  answered_by names again same is =
      subst (λ again. MatchBool again (session.kept ≡ kept.Datagram octets names) (IsMessageNow kind host phase octets names)) same is

  repeat_is_answered_by_no_other_octets : (names : Option SymReply) → bytes_eq datagram session.last ≡ true
      → IsAnswerNow kind host (Some session) phase datagram octets names → session.kept ≡ kept.Datagram octets names
  repeat_is_answered_by_no_other_octets names same is = answered_by names true same is

  another_datagram_is_not_answered_by_older_keys : (says : SymReply) → bytes_eq datagram session.last ≡ false
      → suc says.keyed_epoch ≡ length host.server.list → IsAnswerNow kind host (Some session) phase datagram octets (Some says) → ⊥
  another_datagram_is_not_answered_by_older_keys says other older is = omega (arith, older, answered_by (Some says) false other is)

-- ---- a pull and its session

-- a pull that agreed by a second message with these policies
abbrev agreed_pull : Phase1 → First → List ℕ → List ℕ → SaPolicy → Pull
agreed_pull phase said nr third policy =
    record { phase = phase; message = said.message; ni = said.ni; step = pulls.Fourth (next_iv third) nr (spi_of policy) }

-- the session that a first message began, and which then took a third one
abbrev later_session : First → List ℕ → List ℕ → List ℕ → List ℕ → Kept → Session
later_session said nr datagram second third answer =
    session_after_third (begun_session said nr datagram (kept.Datagram second None)) (record { next_iv = next_iv third }) third answer

undisturbed_pull_is_in_step : (phase : Phase1) (said : First) (nr datagram second third spi : List ℕ) (kind : SignKind) (list : List Made)
    (answer : Kept) → let session : Session = later_session said nr datagram second third answer in
    IsInStep spi (record { phase = phase; session = Some session }) session (agreed_pull phase said nr third (present_policy spi kind list))
undisturbed_pull_is_in_step phase said nr datagram second third spi kind list answer =
    record { under = refl; message = refl; nonce = refl; awaits = refl }

-- ---- what is drawn for members, where each block is its place, and zeros after it

abbrev places : ℕ → List ℕ
places place = place ∷ 0 ∷ 0 ∷ 0 ∷ 0 ∷ []

id_of_a_pull_is_not_zero : message_drawn places 0 ≡ 128 ∷ 0 ∷ 0 ∷ 0 ∷ []
id_of_a_pull_is_not_zero = refl

nonce_is_the_next_block : nonce_drawn places 0 ≡ places 1
nonce_is_the_next_block = refl

each_block_of_an_sa_is_another : (m : Name) → phase_drawn places 3 m
    ≡ record { member = m; cookies = places 3; skeyid_a = places 4 ++ places 5; key = places 6; last = places 7 }
each_block_of_an_sa_is_another m = refl

-- ---- a store

fingerprint_of_both_keys : (traffic : TrafficValue) → print_of traffic ≡ take 8 (sha256 (traffic.cipher_key ++ traffic.integrity_key))
fingerprint_of_both_keys traffic = refl
