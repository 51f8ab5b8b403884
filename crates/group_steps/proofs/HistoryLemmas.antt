-- After each history what is on its way to members are messages to them, and so is what they are answered.
use Rattle.std.proofs.Common.{◌≡◌, ◌∙◌, ◌⊎◌, ℕ, true, List, [], ◌∷◌, ◌++◌, map, Option, None, Some, take, refl, sym, ap, subst, arith, inl, inr}
use Rattle.std.specs.Prelude.{All}
use Rattle.std.proofs.lemmas.Bool.{false≢true}
use Rattle.std.proofs.lemmas.List.Elements.{All-nil, All-weaker}
use Rattle.group_terms.specs.Changes.{joiners}
use Rattle.group_terms.specs.Names.{Name}
use Rattle.group_terms.specs.declared.signatures.SignKind.{SignKind}
use Rattle.group_values.specs.Values.{batches_made}
use Rattle.group_model.specs.Answers.{opens}
use Rattle.group_model.specs.Laws.{Laws}
use Rattle.group_model.specs.declared.entries.Answer.{Answer}
use Rattle.group_model.specs.declared.entries.Answer.TheVariants.{Batched}
use Rattle.group_model.specs.declared.entries.Asked.{Asked}
use Rattle.group_model.specs.declared.entries.Asked.TheVariants.{Begin, Create}
use Rattle.group_model.specs.declared.entries.Entry.{Entry}
use Rattle.group_model.specs.declared.entries.Outside.{Outside}
use Rattle.group_model.specs.declared.entries.Output.{Output}
use Rattle.group_model.specs.declared.entries.SentReply.{SentReply}
use Rattle.group_peers.specs.Peers.{is_named, sent_by}
use Rattle.member_steps.specs.Members.{Mail, Members}
use Rattle.pull_sessions.specs.Sessions.{sa_of, sessions_ended}
use Rattle.pull_sessions.specs.declared.sas.Sa.{Sa}
use Rattle.server_steps.specs.Batches.{IsBatching, list_next}
use Rattle.server_steps.specs.Fourths.{IsFourthReply}
use Rattle.server_steps.specs.Hosts.{Host}
use Rattle.server_steps.specs.Messages.{KeepsMessage, MessagesAreOfTheGroup, MessagesStay}
use Rattle.server_steps.proofs.RepliedLemmas.{replied_joiners}
use Rattle.group_steps.specs.Devices.{Devices, Keying}
use Rattle.group_steps.specs.Mails.{AnswersMember, MailIsOfTheGroup, MembersAreAnswered, RepliesAreMessages, RepliesToMember, SessionsKeepMessages}
use Rattle.group_steps.specs.Runs.{Outset, Run, no_run, run_of, with_members}
use Rattle.group_steps.specs.Steps.{AreRunSteps, IsAnswered, IsHistory, IsRunStep}
use Rattle.group_steps.proofs.ActLemmas.{PeerFits, it_has, keeps_acts}
use Rattle.group_steps.proofs.KeptLemmas.{IsKept, answered_by, kept_acted, kept_step, replied_by}
use Rattle.group_steps.proofs.MailLemmas.{IsMail, given_is, sender}
use Rattle.group_steps.proofs.PeerLemmas.{found_has}
use Rattle.group_steps.proofs.PhaseLemmas.{sa_phase}
use Rattle.group_steps.proofs.SoundLemmas.{IsInOrder, new_opened, new_order, order_step}

that_output : {one other : Output} → Batched one ≡ Batched other → other ≡ one
that_output is = cc

clash : {X : Type 0} {one : Option X} {item : X} → one ≡ None → one ≡ Some item → ⊥
clash none some = cc

-- without an SA nobody sent anything
none_sends : {D : Type 0} (kind : SignKind) (run : Run D) → IsKept kind run → run.host.sessions.sas ≡ [] → (m : Name) (datagram : List ℕ)
    → sent_by run.members.all m ≡ Some datagram → ⊥
none_sends kind run kept empty m datagram sent =
    let peer = sender run.members.all m datagram sent in
    let fit = found_has (is_named m) PeerFits run.members.all peer.0 kept.fits peer.1 in
    let was = it_has (λ (datagram : List ℕ). (peer.0.introduced ≡ true) × (take 16 datagram ≡ peer.0.phase.cookies)) peer.0.sent datagram peer.2 fit.sent in
    clash (ap (λ sas. sa_phase sas m) empty) (kept.same m ∙ given_is run.members.all m peer.0 peer.1 was.0)

module _ {D G V : Type 0} (laws : Laws) (stay : MessagesStay) (on : Devices D G V) (by : Keying G)
    (messages : MessagesAreOfTheGroup on.disks on.signers by.signer by.block) where
  abbrev kind : SignKind
  kind = on.signers.kind_of by.signer

  -- without an SA a batch has no reply
  none_replied : (host : Host D) (output : Output) (outside : Outside) (next : Host D) → host.sessions.sas ≡ []
      → IsBatching on.disks on.signers by.signer by.block host (Batched output) outside next → (P : SentReply → Type 0) → All P output.replies
  none_replied host output outside next empty (inl stored) P =
      All-weaker IsReply P (λ reply is. absurd (clash (ap (λ sas. sa_of sas reply.says.member) empty) is.has.is_there)) output.replies
      (subst (λ (output : Output). All IsReply output.replies) (that_output stored.answers) stored.puts_out.replies)
    where
      IsReply : SentReply → Type 0
      IsReply reply =
          IsFourthReply host.server.depth host.head.spi (list_next on.disks on.signers by.signer by.block host) host.sessions.sas reply
  none_replied host output outside next empty (inr (inl doubt)) P = absurd (cc (doubt.answers))
  none_replied host output outside next empty (inr (inr (inl refused))) P = absurd (cc (refused.says.answers))
  none_replied host output outside next empty (inr (inr (inr short))) P = absurd (cc (short.answers))

  -- a batch replies to those whose joins waited
  replied_waiting : (host : Host D) (output : Output) (outside : Outside) (next : Host D)
      → IsBatching on.disks on.signers by.signer by.block host (Batched output) outside next
      → map (λ (reply : SentReply). reply.says.member) output.replies ≡ joiners host.server.queue
  replied_waiting host output outside next (inl stored) =
      let same : stored.output ≡ output = that_output stored.answers in
      subst (λ (output : Output). map (λ (reply : SentReply). reply.says.member) output.replies ≡ joiners host.server.queue) same
      (replied_joiners host.server.depth (batches_made (list_next on.disks on.signers by.signer by.block host)) host.server.queue stored.output.replies
      stored.puts_out.says.replies)
  replied_waiting host output outside next (inr (inl doubt)) = absurd (cc (doubt.answers))
  replied_waiting host output outside next (inr (inr (inl refused))) = absurd (cc (refused.says.answers))
  replied_waiting host output outside next (inr (inr (inr short))) = absurd (cc (short.answers))

  -- ---- the first step

  empty_opened : (start : Run D) (asked : Asked) (answer : Answer) (outside : Outside) (next : Run D) → start.host.sessions.sas ≡ [] → opens asked ≡ true
      → IsAnswered on by [] asked start answer outside next → next.host.sessions.sas ≡ []
  empty_opened start (Create depth) answer outside next none first step = elim step.opens.ends [
    | inl makes ↦ ap (λ (host : Host D). host.sessions.sas) makes.now ∙ none
    | inr fails ↦ ap (λ (host : Host D). host.sessions.sas) fails.now ∙ none
  ]
  empty_opened start Begin answer outside next none first step = elim step.opens.ends [
    | inl begins ↦ ap (λ (host : Host D). host.sessions.sas) begins.finds.now ∙ ap sessions_ended none
    | inr fails ↦ ap (λ (host : Host D). host.sessions.sas) fails.now ∙ none
  ]
  empty_opened start asked answer outside next none first step = absurd (false≢true first)

  members_opened : (start : Run D) (asked : Asked) (answer : Answer) (outside : Outside) (next : Run D) → opens asked ≡ true
      → IsAnswered on by [] asked start answer outside next → next.members ≡ start.members
  members_opened start (Create depth) answer outside next first step = step.stay
  members_opened start Begin answer outside next first step = step.stay
  members_opened start asked answer outside next first step = absurd (false≢true first)

  kept_first : (outset : Outset D) (entry : Entry) (next : Run D) → opens entry.asked ≡ true → IsRunStep on by [] (no_run outset) entry next
      → (next.host.sessions.sas ≡ []) × IsKept kind next
  kept_first outset entry next first step =
      let acted = step.acted in
      let start = with_members (no_run outset) acted in
      let keeps = keeps_acts by.members_block by.group (no_run outset).members acted step.acts in
      let empty = empty_opened start entry.asked entry.answer entry.outside next refl first step.answered.answered in
      let members = members_opened start entry.asked entry.answer entry.outside next first step.answered.answered in
      let nothing = keeps.mail (λ (mail : Mail). ⊥) (All-nil (λ (mail : Mail). ⊥)) in
      let made : IsKept kind (run_of next.host acted) = record {
        same = λ m. ap (λ sas. sa_phase sas m) empty ∙ sym (keeps.given m);
        fits = keeps.fits (All-nil PeerFits);
        mail = All-weaker (λ (mail : Mail). ⊥) (IsMail kind next.host acted.all) (λ one none. absurd none) acted.mail nothing;
      } in
      (empty, subst (λ members. IsKept kind (run_of next.host members)) (sym members) made)

  -- ---- a history

  -- a server is in order, or has no SA
  record IsAfter (run : Run D) : Type 0 where
    host : IsInOrder kind 0 run.host ⊎ (run.host.sessions.sas ≡ [])
    kept : IsKept kind run

  after_all : (first : Entry) (before : List Entry) (run : Run D) (entries : List Entry) (after : Run D) → IsInOrder kind 0 run.host → IsKept kind run
      → AreRunSteps on by (first ∷ before) run entries after → IsAfter after
  after_all first before run [] after order kept steps = subst IsAfter (sym steps) (record { host = inl order; kept = kept })
  after_all first before run (entry ∷ entries) after order kept steps =
      after_all first (before ++ entry ∷ []) steps.0 entries after (order_step laws on by messages first before run entry steps.0 order steps.1)
      (kept_step laws stay on by messages first before run entry steps.0 order kept steps.1) steps.2

  is_after : (outset : Outset D) (entries : List Entry) (after : Run D) → IsHistory on by (no_run outset) entries after → IsAfter after
  is_after outset [] after history =
      subst IsAfter (sym history.steps) (record {
        host = inr refl;
        kept = record { same = λ m. refl; fits = All-nil PeerFits; mail = All-nil (IsMail kind (no_run outset).host []) };
      })
  is_after outset (entry ∷ entries) after history =
      let next = history.steps.0 in
      let step = history.steps.1 in
      let first = kept_first outset entry next history.begins.0 step in
      elim history.begins.1 [
        | inl none ↦ (
            let ends = subst (λ entries. AreRunSteps on by (entry ∷ []) next entries after) none history.steps.2 in
            subst IsAfter (sym ends) (record { host = inr first.0; kept = first.1 })
            )
        | inr opened ↦ (
            let new = new_opened laws on by (with_members (no_run outset) step.acted) entry.asked entry.answer entry.outside next refl history.begins.0 opened
            step.answered.answered in
            after_all entry [] next entries after (new_order kind 0 next.host new (omega arith)) first.1 history.steps.2
            )
      ]

  pub mail_of_group : MailIsOfTheGroup on by
  mail_of_group outset entries after history = (is_after outset entries after history).kept.mail

  pub sessions_keep : SessionsKeepMessages on by
  sessions_keep outset entries after history = elim (is_after outset entries after history).host [
    | inl order ↦ order.kept
    | inr empty ↦ subst (All KeepsOne) (sym empty) (All-nil KeepsOne)
  ]
    where
      KeepsOne : Sa → Type 0
      KeepsOne = KeepsMessage kind 0 after.host.server.depth after.host.head.spi after.host.server.list

  pub members_answered : MembersAreAnswered on by
  members_answered outset before run m datagram octets names outside next history step =
      let after = is_after outset before run history in
      let serving = step.answered.answered in
      let acted = with_members run step.acted in
      let kept = kept_acted kind run step.acted (keeps_acts by.members_block by.group run.members step.acted step.acts) after.kept in
      elim after.host [
        | inl order ↦
            subst (λ (members : Members). AnswersMember kind run.host next.host members.all m datagram octets names) (sym serving.gets)
            (answered_by laws stay on by messages acted order kept m datagram octets names outside next.host step.ready
            (record { answered = serving.served; keeps = step.answered.keeps; counts = step.answered.counts }))
        | inr empty ↦ absurd (none_sends kind acted kept empty m datagram step.ready)
      ]

  pub replies_messages : RepliesAreMessages on by
  replies_messages outset before run output outside next history step =
      let after = is_after outset before run history in
      let serving = step.answered.answered in
      let acted = with_members run step.acted in
      let kept = kept_acted kind run step.acted (keeps_acts by.members_block by.group run.members step.acted step.acts) after.kept in
      record {
        each = elim after.host [
          | inl order ↦
              subst (λ (members : Members). All (RepliesToMember kind next.host members.all) output.replies) (sym serving.gets)
              (replied_by laws stay on by messages acted order kept output outside next.host
              (record { answered = serving.served; keeps = step.answered.keeps; counts = step.answered.counts }))
          | inr empty ↦
              none_replied run.host output outside next.host empty serving.served (RepliesToMember kind next.host next.members.all)
        ];
        to = replied_waiting run.host output outside next.host serving.served;
      }
