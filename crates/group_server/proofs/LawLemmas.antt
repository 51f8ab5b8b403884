-- What a server may not refuse.
use Rattle.std.proofs.Common.{◌≡◌, ◌∙◌, ◌⊎◌, ℕ, true, false, List, Option, None, Some, Result, Ok, Err, refl, sym, ap, subst, inl, inr, arith}
use Rattle.std.specs.Prelude.{◌==◌, ◌^◌, MatchBool, IsSome, if◌then◌else◌, length, nat_le, nat_lt}
use Rattle.std.proofs.lemmas.Bool.{le-leb, lt-ltb, ne_eqb}
use Rattle.std.specs.Str.{bytes_eq}
use Rattle.gd_disk.specs.Moments.{shown}
use Rattle.gd_disk.specs.declared.disks.Disk.{Ghosts as DiskGhosts}
use Rattle.gd_edges.specs.declared.signers.Signer.{Ghosts as SignerGhosts}
use Rattle.gd_wire.specs.declared.headers.Header.{Header}
use Rattle.group_terms.specs.Changes.{is_pending}
use Rattle.group_terms.specs.Names.{Name}
use Rattle.group_terms.specs.declared.phases.Phase1.{Phase1}
use Rattle.group_values.specs.Values.{batches_made}
use Rattle.group_model.specs.Answers.{unless_refused}
use Rattle.group_model.specs.Places.{is_member}
use Rattle.group_model.specs.Refusals.{leaves_taken}
use Rattle.group_model.specs.Seen.{seen_group}
use Rattle.group_model.specs.Servers.{coming_sequence, members_now, present_epoch, present_sequence, refusal_to_batch, refusal_to_join, refusal_to_leave}
use Rattle.group_model.specs.declared.entries.Answer.TheVariants.{Batched, Datagram, Done, Queued, Refused}
use Rattle.group_model.specs.declared.entries.Asked.{Asked}
use Rattle.group_model.specs.declared.entries.Asked.TheVariants.{Batch, Leave, Reopen, Serve}
use Rattle.group_model.specs.declared.entries.Counter.TheVariants.{Epoch, Sequence}
use Rattle.group_model.specs.declared.entries.Entry.{Entry}
use Rattle.group_model.specs.declared.entries.Output.{Output}
use Rattle.group_model.specs.declared.entries.Outside.{Outside}
use Rattle.group_model.specs.declared.entries.Refusal.{Refusal}
use Rattle.group_model.specs.declared.entries.Refusal.TheVariants.{AlreadyPending, BatchFull, DiskFault, NeedsReopen, NoMemory, NotMember, Spent, TreeFull, WrongGroup}
use Rattle.group_policy.specs.Judgements.{judgement}
use Rattle.pull_msgs.specs.declared.faults.PullFault.{PullFault}
use Rattle.pull_msgs.specs.declared.faults.PullFault.TheVariants as faults
use Rattle.pull_msgs.specs.declared.messages.First.{First}
use Rattle.pull_msgs.specs.declared.messages.Third.{Third}
use Rattle.pull_sessions.specs.Looks.{IsByHeader, IsByPeer, IsByState, IsLook, IsOfSession, IsReadAsFirst, IsReadAsThird, found_in}
use Rattle.pull_sessions.specs.Looks.{IsAgain}
use Rattle.pull_sessions.specs.declared.answers.Looked.{Looked}
use Rattle.pull_sessions.specs.declared.answers.LookedAt.TheVariants.{NewFirst, NextThird}
use Rattle.pull_sessions.specs.declared.answers.Step.TheVariants.{AwaitsThird}
use Rattle.pull_sessions.specs.declared.refusals.SessionRefusal.{SessionRefusal}
use Rattle.pull_sessions.specs.declared.sas.Sa.{Sa}
use Rattle.pull_sessions.specs.declared.sas.Session.{Session}
use Rattle.server_steps.specs.Batches.{IsBatching}
use Rattle.server_steps.specs.Changes.{IsLeaving}
use Rattle.server_steps.specs.Disks.{Counts}
use Rattle.server_steps.specs.Hosts.{Host}
use Rattle.server_steps.specs.Openings.{IsOpeningAgain}
use Rattle.server_steps.specs.Outsides.{Says, beside_refusal, failing}
use Rattle.server_steps.specs.Pulls.{AnswersFirst, AnswersLook, AnswersThird, IsAnswering, Queues, Replies, reply_now}
use Rattle.server_steps.specs.Refusals.{names_group, refusal_to_first, refusal_to_third, unless_denied, why_pending}
use Rattle.server_steps.specs.Steps.{IsServed, IsServerStep}
use Rattle.group_server.specs.Complete.{BatchIsMade, ComesFrom, FirstIsAnswered, HasRoom, IsFaultless, IsNewIn, IsWelcome, LeaveIsGranted, IsDueBatch, IsDueLeave, OrNoMemory, ReopeningIsMade, ThirdIsAnswered}

-- ---- what is found

module _ (datagram : List ℕ) (looked : Result Looked SessionRefusal) (phase : Phase1) (head : Header) where
  as_first : (session : Option Session) → IsNewIn session head.message datagram → IsByState session phase head datagram looked → IsReadAsFirst phase datagram looked
  as_first None new state = state
  as_first (Some session) new state =
      let later : MatchBool (bytes_eq head.message session.message) (IsOfSession session.step phase session datagram looked) (IsReadAsFirst phase datagram looked) =
      subst (λ b. MatchBool b (IsAgain phase session looked)
      (MatchBool (bytes_eq head.message session.message) (IsOfSession session.step phase session datagram looked) (IsReadAsFirst phase datagram looked))) new.0 state in
      subst (λ b. MatchBool b (IsOfSession session.step phase session datagram looked) (IsReadAsFirst phase datagram looked)) new.1 later

  as_third : (session : Session) → session.step ≡ AwaitsThird → bytes_eq head.message session.message ≡ true → bytes_eq datagram session.last ≡ false
      → IsByState (Some session) phase head datagram looked → IsReadAsThird phase session datagram looked
  as_third session awaits its new state =
      let later : MatchBool (bytes_eq head.message session.message) (IsOfSession session.step phase session datagram looked) (IsReadAsFirst phase datagram looked) =
      subst (λ b. MatchBool b (IsAgain phase session looked)
      (MatchBool (bytes_eq head.message session.message) (IsOfSession session.step phase session datagram looked) (IsReadAsFirst phase datagram looked))) new state in
      subst (λ step. IsOfSession step phase session datagram looked) awaits
      (subst (λ b. MatchBool b (IsOfSession session.step phase session datagram looked) (IsReadAsFirst phase datagram looked)) its later)

-- ---- the requests

module _ {D G : Type 0} (d : DiskGhosts D) (g : SignerGhosts G) (signer : G) (block : ℕ → List ℕ) where
  served : (host : Host D) (asked : Asked) (entry : Entry) (next : Host D) → entry.asked ≡ asked → IsServerStep d g signer block host entry next
      → IsServed d g signer block asked host entry.answer entry.outside next
  served host asked entry next is step = subst (λ asked. IsServed d g signer block asked host entry.answer entry.outside next) is step.answered

  -- what was found is answered
  record HasLooked (host : Host D) (datagram : List ℕ) (entry : Entry) (next : Host D) : Type 0 where
    looked : Result Looked SessionRefusal
    look : IsLook host.sessions.sas datagram looked
    answers : AnswersLook g signer block host datagram looked entry.answer entry.outside next

  has_looked : (host : Host D) (asker : Name) (datagram : List ℕ) (entry : Entry) (next : Host D) → host.server.needs_reopen ≡ false
      → entry.asked ≡ Serve asker datagram → IsServerStep d g signer block host entry next → HasLooked host datagram entry next
  has_looked host asker datagram entry next goes asked step =
      let answering : IsAnswering g signer block host datagram entry.answer entry.outside next = served host (Serve asker datagram) entry next asked step in
      let found : (looked : Result Looked SessionRefusal) × IsLook host.sessions.sas datagram looked
      × AnswersLook g signer block host datagram looked entry.answer entry.outside next =
      subst (λ needs_reopen. MatchBool needs_reopen (Says (Refused NeedsReopen) host entry.answer entry.outside next)
      ((looked : Result Looked SessionRefusal) × IsLook host.sessions.sas datagram looked
      × AnswersLook g signer block host datagram looked entry.answer entry.outside next)) goes answering in
      record { looked = found.0; look = found.1; answers = found.2 }

  -- by the SA with its cookies
  its_state : (host : Host D) (m : Name) (sa : Sa) (head : Header) (datagram : List ℕ) (looked : Result Looked SessionRefusal)
      → ComesFrom host m sa head datagram → IsLook host.sessions.sas datagram looked → IsByState sa.session sa.phase head datagram looked
  its_state host m sa head datagram looked from look =
      let by_header : IsByHeader host.sessions.sas datagram looked (Ok head) = subst (IsByHeader host.sessions.sas datagram looked) from.has_header look in
      subst (λ one. IsByPeer one head datagram looked) from.found by_header

  -- nothing is against the message of who is welcome
  idle : (host : Host D) (m : Name) → IsWelcome host m → why_pending host.server m ≡ None
  idle host m welcome = ap (λ b. if b then Some AlreadyPending else None) welcome.idle

  first_welcome : (host : Host D) (m : Name) (first : First) → IsWelcome host m → names_group host.head.name first ≡ true
      → refusal_to_first host.head.name host.rules host.server m first ≡ None
  first_welcome host m first welcome named =
      ap (λ b. if b then unless_denied (judgement host.rules m) (why_pending host.server m) else Some WrongGroup) named
      ∙ (ap (λ verdict. unless_denied verdict (why_pending host.server m)) welcome.allowed ∙ idle host m welcome)

  third_member : (host : Host D) (m : Name) → IsWelcome host m → is_member (members_now host.server) m ≡ true → refusal_to_third host.rules host.server m ≡ None
  third_member host m welcome member =
      ap (λ verdict. unless_denied verdict (if is_member (members_now host.server) m then why_pending host.server m else refusal_to_join host.server m)) welcome.allowed
      ∙ (ap (λ b. if b then why_pending host.server m else refusal_to_join host.server m) member ∙ idle host m welcome)

  third_stranger : (host : Host D) (m : Name) → IsWelcome host m → is_member (members_now host.server) m ≡ false → refusal_to_join host.server m ≡ None
      → refusal_to_third host.rules host.server m ≡ None
  third_stranger host m welcome stranger granted =
      ap (λ verdict. unless_denied verdict (if is_member (members_now host.server) m then why_pending host.server m else refusal_to_join host.server m)) welcome.allowed
      ∙ (ap (λ b. if b then why_pending host.server m else refusal_to_join host.server m) stranger ∙ granted)

  -- nor against the join of who is welcome, where there is room
  may_join : (host : Host D) (m : Name) → IsWelcome host m → HasRoom host → refusal_to_join host.server m ≡ None
  may_join host m welcome room =
      let taken = leaves_taken host.server.depth (members_now host.server) host.server.queue in
      let full = Some (BatchFull (length host.server.queue)) in
      let fits = if nat_lt (length host.server.queue) 32 then None else full in
      let seated = if taken == 2 ^ host.server.depth then Some (TreeFull taken) else fits in
      ap (λ b. if b then Some NeedsReopen else (if is_pending host.server.queue m then Some AlreadyPending else seated)) welcome.open_now
      ∙ ap (λ b. if b then Some AlreadyPending else seated) welcome.idle
      ∙ ap (λ b. if b then Some (TreeFull taken) else fits) (ne_eqb taken (2 ^ host.server.depth) (λ same. omega (arith, same, room.leaf)))
      ∙ ap (λ b. if b then None else full) (lt-ltb (length host.server.queue) 32 room.change)

  pub first_answered : FirstIsAnswered d g signer block
  first_answered host m asker datagram entry next welcome due asked step =
      let found = has_looked host asker datagram entry next welcome.open_now asked step in
      let read = as_first datagram found.looked due.sa.phase due.head due.sa.session due.fresh
      (its_state host m due.sa due.head datagram found.looked due.from found.look) in
      by due.sa.phase due.first read.answer found.looked read.finds due.from.member due.group found.answers (due.reads read.answer read.is_answer)
    where
      by : (phase : Phase1) (said : First) (answer : Result First PullFault) (looked : Result Looked SessionRefusal)
          → looked ≡ found_in 1 phase NewFirst answer → phase.member ≡ m → names_group host.head.name said ≡ true
          → AnswersLook g signer block host datagram looked entry.answer entry.outside next
          → (answer ≡ Err faults.NoMemory) ⊎ (answer ≡ Ok said)
          → OrNoMemory entry.answer ((second : List ℕ) × (entry.answer ≡ Datagram second None))
      by phase said answer looked finds own named answers (inl out) =
          let says : Says (Refused NoMemory) host entry.answer entry.outside next =
          subst (λ looked. AnswersLook g signer block host datagram looked entry.answer entry.outside next) (finds ∙ ap (found_in 1 phase NewFirst) out) answers in
          inr says.answers
      by phase said answer looked finds own named answers (inr is) =
          let first : AnswersFirst g signer block host (refusal_to_first host.head.name host.rules host.server phase.member said) phase.member said datagram
          entry.answer entry.outside next =
          subst (λ looked. AnswersLook g signer block host datagram looked entry.answer entry.outside next) (finds ∙ ap (found_in 1 phase NewFirst) is) answers in
          let free : refusal_to_first host.head.name host.rules host.server phase.member said ≡ None =
          subst (λ name. refusal_to_first host.head.name host.rules host.server name said ≡ None) (sym own) (first_welcome host m said welcome named) in
          elim (subst (λ reason. AnswersFirst g signer block host reason phase.member said datagram entry.answer entry.outside next) free first) [
            | inl begins ↦ inl (begins.second, begins.becomes.answers)
            | inr out ↦ inr out.becomes.answers
          ]

  pub third_answered : ThirdIsAnswered d g signer block
  third_answered host m asker datagram entry next welcome due asked step =
      let found = has_looked host asker datagram entry next welcome.open_now asked step in
      let state = its_state host m due.sa due.head datagram found.looked due.from found.look in
      let read = as_third datagram found.looked due.sa.phase due.head due.session due.awaits due.of_session due.fresh
      (subst (λ session. IsByState session due.sa.phase due.head datagram found.looked) due.has state) in
      by due.sa.phase due.third read.answer found.looked read.finds due.from.member found.answers (due.reads read.answer read.is_answer)
    where
      by : (phase : Phase1) (said : Third) (answer : Result Third PullFault) (looked : Result Looked SessionRefusal)
          → looked ≡ found_in 3 phase NextThird answer → phase.member ≡ m
          → AnswersLook g signer block host datagram looked entry.answer entry.outside next
          → (answer ≡ Err faults.NoMemory) ⊎ (answer ≡ Ok said)
          → (is_member (members_now host.server) m ≡ true →
          OrNoMemory entry.answer ((fourth : List ℕ) × (entry.answer ≡ Datagram fourth (Some (reply_now host.server m)))))
          × (is_member (members_now host.server) m ≡ false → HasRoom host → OrNoMemory entry.answer (entry.answer ≡ Queued))
      by phase said answer looked finds own answers (inl out) =
          let says : Says (Refused NoMemory) host entry.answer entry.outside next =
          subst (λ looked. AnswersLook g signer block host datagram looked entry.answer entry.outside next) (finds ∙ ap (found_in 3 phase NextThird) out) answers in
          (λ member. inr says.answers, λ stranger room. inr says.answers)
      by phase said answer looked finds own answers (inr is) =
          let at_phase : AnswersThird g signer block host (refusal_to_third host.rules host.server phase.member) phase.member said datagram
          entry.answer entry.outside next =
          subst (λ looked. AnswersLook g signer block host datagram looked entry.answer entry.outside next) (finds ∙ ap (found_in 3 phase NextThird) is) answers in
          let third : AnswersThird g signer block host (refusal_to_third host.rules host.server m) m said datagram entry.answer entry.outside next =
          subst (λ name. AnswersThird g signer block host (refusal_to_third host.rules host.server name) name said datagram entry.answer entry.outside next)
          own at_phase in (
            λ member. elim (subst (λ reason. AnswersThird g signer block host reason m said datagram entry.answer entry.outside next)
                (third_member host m welcome member) third) [
                  | inl accepts ↦
                      let replies : Replies g signer block host m said datagram entry.answer entry.outside next =
                      subst (λ b. MatchBool b (Replies g signer block host m said datagram entry.answer entry.outside next)
                      (Queues g signer block host m said datagram entry.answer entry.outside next)) member accepts in
                      inl (replies.fourth, replies.becomes.answers)
                  | inr out ↦ inr out.answers
                ],
            λ stranger room. elim (subst (λ reason. AnswersThird g signer block host reason m said datagram entry.answer entry.outside next)
                (third_stranger host m welcome stranger (may_join host m welcome room)) third) [
                  | inl accepts ↦
                      let queues : Queues g signer block host m said datagram entry.answer entry.outside next =
                      subst (λ b. MatchBool b (Replies g signer block host m said datagram entry.answer entry.outside next)
                      (Queues g signer block host m said datagram entry.answer entry.outside next)) stranger accepts in
                      inl queues.becomes.answers
                  | inr out ↦ inr out.answers
                ],
          )

  may_leave : (host : Host D) (m : Name) → IsDueLeave host m → refusal_to_leave host.server m ≡ None
  may_leave host m may =
      let full = Some (BatchFull (length host.server.queue)) in
      let fits = if nat_lt (length host.server.queue) 32 then None else full in
      let idle = if is_pending host.server.queue m then Some AlreadyPending else fits in
      ap (λ b. if b then Some NeedsReopen else (if is_member (members_now host.server) m then idle else Some NotMember)) may.open_now
      ∙ ap (λ b. if b then idle else Some NotMember) may.member ∙ ap (λ b. if b then Some AlreadyPending else fits) may.idle
      ∙ ap (λ b. if b then None else full) (lt-ltb (length host.server.queue) 32 may.change)

  pub leave_granted : LeaveIsGranted d g signer block
  leave_granted host m entry next may asked step =
      let leaving : IsLeaving m host entry.answer entry.outside next = served host (Leave m) entry next asked step in
      leaving.answers ∙ ap (λ reason. unless_refused reason Done) (may_leave host m may)

  -- where the disk counted no fault, it did not fail
  no_rise : (old new : D) → IsFaultless d g signer block old new → Counts d true old new → ⊥
  no_rise old new still (inl more) = omega (arith, more, still.same)
  no_rise old new still (inr last) = omega (arith, last, still.same, still.countable)

  failed_not : (host : Host D) (entry : Entry) (next : Host D) (outside : Outside) → entry.outside ≡ outside → outside.disk_failed ≡ true
      → IsFaultless d g signer block host.disk next.disk → IsServerStep d g signer block host entry next → ⊥
  failed_not host entry next outside is failed still step =
      no_rise host.disk next.disk still
      (subst (λ failed. Counts d failed host.disk next.disk) (ap (λ (outside : Outside). outside.disk_failed) is ∙ failed) step.counts)

  may_batch : (host : Host D) → IsDueBatch host → refusal_to_batch host.server ≡ None
  may_batch host may =
      let epoch = present_epoch host.server in
      let coming = coming_sequence host.server in
      let limit = host.server.limit in
      let spent = Some (Spent Sequence (present_sequence host.server)) in
      let within = if nat_le coming limit then None else spent in
      ap (λ b. if b then Some NeedsReopen else (if nat_lt epoch limit then within else Some (Spent Epoch epoch))) may.open_now
      ∙ ap (λ b. if b then within else Some (Spent Epoch epoch)) (lt-ltb epoch limit may.epoch)
      ∙ ap (λ b. if b then None else spent) (le-leb coming limit may.number)

  pub batch_made : BatchIsMade d g signer block
  batch_made host entry next may still asked step = by (served host Batch entry next asked step)
    where
      by : IsBatching d g signer block host entry.answer entry.outside next → OrNoMemory entry.answer ((output : Output) × (entry.answer ≡ Batched output))
      by (inl stored) = inl (stored.output, stored.answers)
      by (inr (inl doubt)) = absurd (failed_not host entry next (failing host) doubt.beside refl still step)
      by (inr (inr (inl refused))) = absurd (clash refused.why refused.reason)
        where
          clash : (why : Refusal) → refusal_to_batch host.server ≡ Some why → ⊥
          clash why some = let granted : refusal_to_batch host.server ≡ None = may_batch host may in cc (granted, some)
      by (inr (inr (inr out))) = inr out.answers

  pub reopening_made : ReopeningIsMade d g signer block
  reopening_made host entry next shows still asked step = elim opening.ends [
    | inl opens ↦ inl (seen_group opens.found.head.depth (batches_made opens.found.list), opens.finds.resent, opens.finds.answers)
    | inr fails ↦ elim fails.causes [
      | inl fault ↦ absurd (failed_not host entry next (beside_refusal host DiskFault) (fails.beside ∙ ap (beside_refusal host) fault) refl still step)
      | inr (inl memory) ↦ inr (fails.answers ∙ ap Refused memory)
      | inr (inr journal) ↦ absurd (none_shown (shown d host.disk) shows journal.2)
    ]
  ]
    where
      opening : IsOpeningAgain d g signer host entry.answer entry.outside next
      opening = served host Reopen entry next asked step

      none_shown : (text : Option (List ℕ)) → IsSome text → ((file : List ℕ) → text ≡ Some file → ⊥) → ⊥
      none_shown None some never = absurd (cc)
      none_shown (Some file) some never = never file refl
