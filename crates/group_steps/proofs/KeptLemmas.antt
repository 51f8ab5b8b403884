-- Each step keeps what is on its way to members messages to them; what they are answered are such messages.
use Rattle.std.proofs.Common.{◌≡◌, ◌∙◌, ℕ, true, false, List, [], ◌∷◌, Option, None, Some, Result, Ok, Err, take, refl, sym, ap, subst, inl, inr}
use Rattle.std.specs.Prelude.{All, IfSome}
use Rattle.std.specs.Option.{option_map}
use Rattle.std.proofs.lemmas.Bool.{false≢true}
use Rattle.std.proofs.lemmas.List.Elements.{All-append, All-cons, All-map, All-nil, All-weaker}
use Rattle.gd_disk.specs.Moments.{Keeps}
use Rattle.group_terms.specs.Names.{Name}
use Rattle.group_terms.specs.declared.phases.Phase1.{Phase1}
use Rattle.group_terms.specs.declared.signatures.SignKind.{SignKind}
use Rattle.group_model.specs.Laws.{Laws}
use Rattle.group_model.specs.declared.entries.Answer.{Answer}
use Rattle.group_model.specs.declared.entries.Answer.TheVariants.{Batched, Datagram}
use Rattle.group_model.specs.declared.entries.Asked.{Asked}
use Rattle.group_model.specs.declared.entries.Asked.TheVariants.{AddRule, Again, Batch, Begin, Create, Deliver, DeliverAll, Derive, Now, Together, Together2}
use Rattle.group_model.specs.declared.entries.Asked.TheVariants.{Halt, Introduce, Keep, Key, Leave, Lose, Reopen, Serve, Show}
use Rattle.group_model.specs.declared.entries.Entry.{Entry}
use Rattle.group_model.specs.declared.entries.Outside.{Outside}
use Rattle.group_model.specs.declared.entries.Output.{Output}
use Rattle.group_model.specs.declared.entries.SentReply.{SentReply}
use Rattle.group_model.specs.declared.entries.SymReply.{SymReply}
use Rattle.group_peers.specs.Peers.{introduced, is_named, phase_of, sent_by}
use Rattle.group_peers.specs.declared.members.Peer.{Peer}
use Rattle.group_records.specs.declared.heads.Head.{Head}
use Rattle.member_pull.specs.Views.{Pull}
use Rattle.member_steps.specs.Acts.{IsReady}
use Rattle.member_steps.specs.Members.{Mail, Members, with_mail}
use Rattle.member_steps.specs.Steps.{IsMemberStep}
use Rattle.pull_msgs.specs.Texts.{pull_exchange}
use Rattle.pull_sessions.specs.Sessions.{IsIntroduction, Sessions, sa_with}
use Rattle.pull_sessions.specs.declared.refusals.SessionRefusal.{SessionRefusal}
use Rattle.pull_sessions.specs.declared.sas.Sa.{Sa}
use Rattle.server_steps.specs.Batches.{made_next}
use Rattle.server_steps.specs.Disks.{Counts}
use Rattle.server_steps.specs.Hosts.{Host}
use Rattle.server_steps.specs.Messages.{IsAnswerNow, IsMessageOf, IsMessageTo, KeepsSent, MessagesAreOfTheGroup, MessagesStay, RepliesToPeer}
use Rattle.server_steps.specs.Pulls.{IsIntroducing, answer_introduced}
use Rattle.server_steps.specs.Steps.{IsServerStep}
use Rattle.group_steps.specs.Devices.{Devices, Keying}
use Rattle.group_steps.specs.Gets.{get, introduced_by, mail_by, mail_of, mail_to}
use Rattle.group_steps.specs.Kinds.{IsOfAKind}
use Rattle.group_steps.specs.Laws.{asks_again}
use Rattle.group_steps.specs.Mails.{AnswersMember, AreMessages, RepliesToMember}
use Rattle.group_steps.specs.Runs.{Run, run_of, with_members}
use Rattle.group_steps.specs.Steps.{IsActing, IsAnswered, IsRunStep, push_sent}
use Rattle.group_steps.proofs.ActLemmas.{MembersKeep, PeerFits, changed_fits, it_has, keeps_acting, keeps_acts}
use Rattle.group_steps.proofs.HeadLemmas.{cookies_read}
use Rattle.group_steps.proofs.KindLemmas.{kind_of}
use Rattle.group_steps.proofs.MailLemmas.{IsMail, StayMessages, answered_under, given_is, given_there, mail_on, own_cookies, sa_there, sender}
use Rattle.group_steps.proofs.MailLemmas.{sent_under}
use Rattle.group_steps.proofs.PeerLemmas.{changed_phases, found_has, given_at, only}
use Rattle.group_steps.proofs.PhaseLemmas.{HaveSamePhases, free_to_take, introduces, one_more, sa_phase, stays_served}
use Rattle.group_steps.proofs.SoundLemmas.{IsInOrder}

-- The SAs of a server are those of the peers that were introduced, whose datagrams are under them, and what is on its way are messages.
pub record IsKept {D : Type 0} (kind : SignKind) (run : Run D) : Type 0 where
  pub same : (m : Name) → sa_phase run.host.sessions.sas m ≡ given_at run.members.all m
  pub fits : All PeerFits run.members.all
  pub mail : AreMessages kind run

-- an entry with these
abbrev pub entry_of : Asked → Answer → Outside → Entry
entry_of asked answer outside = record { asked = asked; outside = outside; answer = answer }

some_also : {X : Type 0} (one : Option X) (P Q : X → Type 0) → ((item : X) → P item → Q item) → IfSome one P → IfSome one Q
some_also None P Q also has = has
some_also (Some item) P Q also has = also item has

module _ {D : Type 0} (kind : SignKind) where
  -- members act
  pub kept_acted : (run : Run D) (acted : Members) → MembersKeep run.members acted → IsKept kind run → IsKept kind (with_members run acted)
  kept_acted run acted keeps kept = record {
    same = λ m. kept.same m ∙ sym (keeps.given m);
    fits = keeps.fits kept.fits;
    mail = mail_on kind run.host run.host run.members.all acted.all (λ phase octets names is. is) keeps.phases acted.mail
        (keeps.mail (IsMail kind run.host run.members.all) kept.mail);
  }

  module _ (run : Run D) (next : Host D) (same : HaveSamePhases run.host.sessions.sas next.sessions.sas) (stay : StayMessages kind run.host next)
      (kept : IsKept kind run) where
    -- the server goes on
    kept_on : IsKept kind (run_of next run.members)
    kept_on = record {
      same = λ m. same m ∙ kept.same m;
      fits = kept.fits;
      mail = mail_on kind run.host next run.members.all run.members.all stay (λ m phase is. is) run.members.mail kept.mail;
    }

    -- and more is on its way
    kept_more : (more : List Mail) → All (IsMail kind next run.members.all) more → IsKept kind (run_of next (with_mail run.members more))
    kept_more more each = record {
      same = kept_on.same;
      fits = kept.fits;
      mail = All-append (IsMail kind next run.members.all) run.members.mail more kept_on.mail each;
    }

-- ---- what a server does

module _ {D G V : Type 0} (laws : Laws) (stay : MessagesStay) (on : Devices D G V) (by : Keying G)
    (messages : MessagesAreOfTheGroup on.disks on.signers by.signer by.block) where
  abbrev kind : SignKind
  kind = on.signers.kind_of by.signer

  abbrev Serves : Host D → Entry → Host D → Type 0
  Serves = IsServerStep on.disks on.signers by.signer by.block

  -- messages stay messages, unless the group is opened again
  stay_messages : (host : Host D) (entry : Entry) (next : Host D) → asks_again entry.asked ≡ false → IsOfAKind on by host entry next
      → StayMessages kind host next
  stay_messages host entry next other (inl quiet) phase octets names is =
      subst (λ depth. IsMessageTo kind 0 depth next.head.spi next.server.list phase octets names) (sym quiet.depth)
      (subst (λ (head : Head). IsMessageTo kind 0 host.server.depth head.spi next.server.list phase octets names) (sym quiet.head)
      (subst (λ list. IsMessageTo kind 0 host.server.depth host.head.spi list phase octets names) (sym quiet.list) is))
  stay_messages host entry next other (inr (inl stored)) phase octets names is =
      subst (λ (given : Host D). IsMessageOf kind 0 given phase octets names) (sym stored.now)
      (stay kind 0 host.server.depth host.head.spi host.server.list (made_next on.disks on.signers by.signer by.block host ∷ []) phase octets names is)
  stay_messages host entry next other (inr (inr found)) phase octets names is = absurd (false≢true (sym other ∙ found.1))

  module _ (run : Run D) (order : IsInOrder kind 0 run.host) (kept : IsKept kind run) where
    -- a datagram of a member is answered by a message to it
    pub answered_by : (m : Name) (datagram octets : List ℕ) (names : Option SymReply) (outside : Outside) (next : Host D)
        → sent_by run.members.all m ≡ Some datagram → Serves run.host (entry_of (Serve m datagram) (Datagram octets names) outside) next
        → AnswersMember kind run.host next run.members.all m datagram octets names
    answered_by m datagram octets names outside next sent step =
        let sas = run.host.sessions.sas in
        let peer = sender run.members.all m datagram sent in
        let fit = found_has (is_named m) PeerFits run.members.all peer.0 kept.fits peer.1 in
        let was = it_has (λ (datagram : List ℕ). (peer.0.introduced ≡ true) × (take 16 datagram ≡ peer.0.phase.cookies)) peer.0.sent datagram peer.2 fit.sent in
        let sa = sa_there sas m peer.0.phase (kept.same m ∙ given_is run.members.all m peer.0 peer.1 was.0) in
        let goes = messages 0 run.host (entry_of (Serve m datagram) (Datagram octets names) outside) next order.sound order.late order.kept step in
        let answers = goes.3.answers m datagram octets names refl refl in
        let cookies : answers.head.cookies ≡ sa.0.phase.cookies = cookies_read pull_exchange datagram answers.head answers.has_header ∙ was.1
        ∙ sym (ap (λ (phase : Phase1). phase.cookies) sa.2) in
        let one : answers.sa ≡ sa.0 = only (sym answers.is_there ∙ ap (sa_with sas) cookies
        ∙ own_cookies sas m sa.0 order.sound.apart.cookies sa.1) in
        let held : (keeps : KeepsSent next.sessions.sas sa.0.phase.member octets names) × (keeps.session.last ≡ datagram) =
        subst (λ (sa : Sa). (keeps : KeepsSent next.sessions.sas sa.phase.member octets names) × (keeps.session.last ≡ datagram)) one
        (answers.keeps, answers.last) in
        answered_under kind run.host next run.members.all m datagram octets names sa.0 sa.1
        (ap (option_map (λ (peer : Peer). peer.phase)) peer.1 ∙ ap Some (sym sa.2))
        (subst (λ (sa : Sa). IsMessageOf kind 0 next sa.phase octets names) one answers.message)
        (subst (λ (sa : Sa). IsAnswerNow kind next sa.session sa.phase datagram octets names) one answers.now)
        held.0 held.1

    -- a reply of a batch is a fourth message to its member
    pub replied_by : (output : Output) (outside : Outside) (next : Host D) → Serves run.host (entry_of Batch (Batched output) outside) next
        → All (RepliesToMember kind next run.members.all) output.replies
    replied_by output outside next step =
        let goes = messages 0 run.host (entry_of Batch (Batched output) outside) next order.sound order.late order.kept step in
        All-weaker (RepliesToPeer kind 0 run.host (entry_of Batch (Batched output) outside) next) (RepliesToMember kind next run.members.all) each
        output.replies (goes.3.replies output refl)
      where
        each : (reply : SentReply) → RepliesToPeer kind 0 run.host (entry_of Batch (Batched output) outside) next reply
            → RepliesToMember kind next run.members.all reply
        each reply to =
            let m = reply.says.member in
            let peer = given_there run.members.all m to.sa.phase (sym (kept.same m) ∙ ap (option_map (λ (sa : Sa). sa.phase)) to.is_there) in
            record {
              message = sent_under kind next run.members.all m reply.datagram (Some reply.says) to.sa.phase
                  (ap (option_map (λ (peer : Peer). peer.phase)) peer.1 ∙ ap Some peer.2) to.message;
              now = to.now;
              keeps = to.keeps;
            }

    -- ---- the request that introduces somebody

    kept_introduced : (phase : Phase1) (answer : Answer) (outside : Outside) (next : Host D) → phase_of run.members.all phase.member ≡ Some phase
        → IsIntroducing phase run.host answer outside next → StayMessages kind run.host next
        → IsKept kind (run_of next (introduced_by answer phase.member run.members))
    kept_introduced phase answer outside next its step stays =
        subst (λ answer. IsKept kind (run_of next (introduced_by answer phase.member run.members))) (sym step.answers)
        (by_result step.result step.sessions step.introduces (ap (λ (host : Host D). host.sessions) step.now))
      where
        change : Peer → Peer
        change peer = record peer { introduced = true }

        fits_change : (peer : Peer) → PeerFits peer → PeerFits (change peer)
        fits_change peer fit = record {
          phase = fit.phase;
          pull = some_also peer.pull (λ (pull : Pull). (peer.introduced ≡ true) × (pull.phase ≡ peer.phase))
              (λ (pull : Pull). (true ≡ true) × (pull.phase ≡ peer.phase)) (λ pull has. (refl, has.1)) fit.pull;
          sent = some_also peer.sent (λ (datagram : List ℕ). (peer.introduced ≡ true) × (take 16 datagram ≡ peer.phase.cookies))
              (λ (datagram : List ℕ). (true ≡ true) × (take 16 datagram ≡ peer.phase.cookies)) (λ datagram has. (refl, has.1)) fit.sent;
        }

        by_result : (result : Result (Unit {0}) SessionRefusal) (sessions : Sessions) → IsIntroduction run.host.sessions phase result sessions
            → next.sessions ≡ sessions → IsKept kind (run_of next (introduced_by (answer_introduced result) phase.member run.members))
        by_result (Ok done) sessions is now =
            let sas = ap (λ (sessions : Sessions). sessions.sas) (now ∙ is.1) in
            record {
              same = λ m.
                  ap (λ sas. sa_phase sas m) sas
                  ∙ one_more run.host.sessions.sas run.members.all phase kept.same (free_to_take run.host.sessions phase is.0) its m;
              fits = changed_fits change fits_change run.members.all phase.member kept.fits;
              mail = mail_on kind run.host next run.members.all (introduced run.members.all phase.member) stays
                  (λ m its is. changed_phases change (λ peer. refl) phase.member run.members.all m ∙ is) run.members.mail kept.mail;
            }
        by_result (Err why) sessions is now =
            let sas = ap (λ (sessions : Sessions). sessions.sas) (now ∙ is.1) in
            kept_on kind run next (λ m. ap (λ sas. sa_phase sas m) sas) stays kept

    -- ---- all requests

    -- the members get nothing
    kept_still : (asked : Asked) (answer : Answer) (outside : Outside) (next : Host D) → introduces asked ≡ false → asks_again asked ≡ false
        → Serves run.host (entry_of asked answer outside) next → IsKept kind (run_of next run.members)
    kept_still asked answer outside next none other step =
        kept_on kind run next (stays_served run.host on.disks on.signers by.signer by.block asked answer outside next none step.answered)
        (stay_messages run.host (entry_of asked answer outside) next other (kind_of laws run.host on by asked answer outside next step.answered)) kept

    kept_served : (asked : Asked) (answer : Answer) (outside : Outside) (next : Host D) → IsReady asked run.members
        → Serves run.host (entry_of asked answer outside) next → IsKept kind (run_of next (get asked answer run.members))
    kept_served (Introduce phase) answer outside next ready step =
        kept_introduced phase answer outside next ready step.answered
        (stay_messages run.host (entry_of (Introduce phase) answer outside) next refl
        (kind_of laws run.host on by (Introduce phase) answer outside next step.answered))
    kept_served (Serve m datagram) answer outside next ready step =
        kept_more kind run next
        (stays_served run.host on.disks on.signers by.signer by.block (Serve m datagram) answer outside next refl step.answered)
        (stay_messages run.host (entry_of (Serve m datagram) answer outside) next refl
        (kind_of laws run.host on by (Serve m datagram) answer outside next step.answered))
        kept (mail_to m answer) (by_answer answer step)
      where
        by_answer : (answer : Answer) → Serves run.host (entry_of (Serve m datagram) answer outside) next
            → All (IsMail kind next run.members.all) (mail_to m answer)
        by_answer (Datagram octets names) step =
            All-cons (IsMail kind next run.members.all) (m, octets) [] (names, (answered_by m datagram octets names outside next ready step).message)
            (All-nil (IsMail kind next run.members.all))
        by_answer answer step = All-nil (IsMail kind next run.members.all)
    kept_served Batch answer outside next ready step =
        kept_more kind run next (stays_served run.host on.disks on.signers by.signer by.block Batch answer outside next refl step.answered)
        (stay_messages run.host (entry_of Batch answer outside) next refl (kind_of laws run.host on by Batch answer outside next step.answered))
        kept (mail_by answer) (by_answer answer step)
      where
        by_answer : (answer : Answer) → Serves run.host (entry_of Batch answer outside) next → All (IsMail kind next run.members.all) (mail_by answer)
        by_answer (Batched output) step =
            All-map (IsMail kind next run.members.all) mail_of output.replies
            (All-weaker (RepliesToMember kind next run.members.all) (λ (reply : SentReply). IsMail kind next run.members.all (mail_of reply))
            (λ reply told. (Some reply.says, told.message)) output.replies
            (replied_by output outside next step))
        by_answer answer step = All-nil (IsMail kind next run.members.all)
    kept_served Reopen answer outside next ready step = record {
      same = λ m. stays_served run.host on.disks on.signers by.signer by.block Reopen answer outside next refl step.answered m ∙ kept.same m;
      fits = kept.fits;
      mail = All-nil (IsMail kind next run.members.all);
    }
    kept_served (AddRule rule) answer outside next ready step = kept_still (AddRule rule) answer outside next refl refl step
    kept_served (Leave m) answer outside next ready step = kept_still (Leave m) answer outside next refl refl step
    kept_served Halt answer outside next ready step = kept_still Halt answer outside next refl refl step
    kept_served Show answer outside next ready step = kept_still Show answer outside next refl refl step
    kept_served DeliverAll answer outside next ready step = kept_still DeliverAll answer outside next refl refl step
    kept_served asked answer outside next ready step = absurd step.answered

    -- each entry after the first, once members acted
    kept_acting : (sent : ℕ → Option (List ℕ)) (asked : Asked) (answer : Answer) (outside : Outside) (next : Run D)
        → IsActing (IsMemberStep on.verifiers on.verifier sent asked) run answer outside next → IsKept kind next
    kept_acting sent asked answer outside next step =
        subst (λ host. IsKept kind (run_of host next.members)) (sym step.stays)
        (kept_acted kind run next.members (keeps_acting on.verifiers on.verifier sent asked run.members answer next.members step.acted) kept)

    kept_serving : (asked : Asked) (answer : Answer) (outside : Outside) (next : Run D) → IsReady asked run.members
        → Serves run.host (entry_of asked answer outside) next.host → next.members ≡ get asked answer run.members → IsKept kind next
    kept_serving asked answer outside next ready step gets =
        subst (λ members. IsKept kind (run_of next.host members)) (sym gets) (kept_served asked answer outside next.host ready step)

    kept_answered : (first : Entry) (before : List Entry) (asked : Asked) (answer : Answer) (outside : Outside) (next : Run D) → IsReady asked run.members
        → Keeps on.disks run.host.disk next.host.disk → Counts on.disks outside.disk_failed run.host.disk next.host.disk
        → IsAnswered on by (first ∷ before) asked run answer outside next → IsKept kind next
    kept_answered first before (Create depth) answer outside next ready keeps counts step = absurd (cc (step.is_first))
    kept_answered first before Begin answer outside next ready keeps counts step = absurd (cc (step.is_first))
    kept_answered first before (Lose m) answer outside next ready keeps counts step =
        kept_acting (push_sent (first ∷ before)) (Lose m) answer outside next step
    kept_answered first before (Again m) answer outside next ready keeps counts step =
        kept_acting (push_sent (first ∷ before)) (Again m) answer outside next step
    kept_answered first before (Keep m) answer outside next ready keeps counts step =
        kept_acting (push_sent (first ∷ before)) (Keep m) answer outside next step
    kept_answered first before (Deliver m number) answer outside next ready keeps counts step =
        kept_acting (push_sent (first ∷ before)) (Deliver m number) answer outside next step
    kept_answered first before (Key m) answer outside next ready keeps counts step =
        kept_acting (push_sent (first ∷ before)) (Key m) answer outside next step
    kept_answered first before (Derive epoch members) answer outside next ready keeps counts step = subst (IsKept kind) (sym step.stays) kept
    kept_answered first before Now answer outside next ready keeps counts step = subst (IsKept kind) (sym step.stays) kept
    kept_answered first before (Together lines) answer outside next ready keeps counts step = subst (IsKept kind) (sym step.stays) kept
    kept_answered first before Together2 answer outside next ready keeps counts step = subst (IsKept kind) (sym step.stays) kept
    kept_answered first before asked answer outside next ready keeps counts step =
        kept_serving asked answer outside next ready (record { answered = step.served; keeps = keeps; counts = counts }) step.gets

  pub kept_step : (first : Entry) (before : List Entry) (run : Run D) (entry : Entry) (next : Run D) → IsInOrder kind 0 run.host → IsKept kind run
      → IsRunStep on by (first ∷ before) run entry next → IsKept kind next
  kept_step first before run entry next order kept step =
      kept_answered (with_members run step.acted) order
      (kept_acted kind run step.acted (keeps_acts by.members_block by.group run.members step.acted step.acts) kept)
      first before entry.asked entry.answer entry.outside next step.ready step.answered.keeps step.answered.counts step.answered.answered
