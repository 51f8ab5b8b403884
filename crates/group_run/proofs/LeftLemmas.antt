-- How much may still be read: less, with each datagram that is not ignored.
use Rattle.std.proofs.Common.{◌≡◌, ◌∙◌, ⊎_elim, ℕ, zero, suc, ◌+◌, ◌*◌, ◌<◌, ◌≤◌, Bool, true, false, cond, List, [], ◌∷◌, ◌++◌, length, Option, None, Some}
use Rattle.std.proofs.Common.{Result, Ok, Err, MatchBool, sym, ap, subst, inl, inr, refl, arith}
use Rattle.std.specs.Prelude.{count_by}
use Rattle.std.proofs.lemmas.Bool.{cases_Bool, cond-false, cond-true}
use Rattle.std.proofs.lemmas.List.Sums.{sum_by-cons}
use Rattle.std.proofs.lemmas.Option.{none-some, same_Some}
use Rattle.gd_disk.specs.declared.disks.Disk.{Ghosts as DiskGhosts}
use Rattle.gd_edges.specs.declared.draws.Draws.{Ghosts as DrawGhosts}
use Rattle.gd_edges.specs.declared.signers.Signer.{Ghosts as SignerGhosts}
use Rattle.group_terms.specs.Names.{Name}
use Rattle.group_terms.specs.declared.paths.Keyed.{Keyed}
use Rattle.group_model.specs.declared.entries.Answer.{Answer}
use Rattle.group_model.specs.declared.entries.Answer.TheVariants.{Datagram}
use Rattle.group_model.specs.declared.entries.Asked.TheVariants.{Keep}
use Rattle.group_model.specs.declared.entries.Entry.{Entry}
use Rattle.group_peers.specs.Peers.{changed, is_named, peer_of, put}
use Rattle.group_peers.specs.Pulls.{IsTold}
use Rattle.group_peers.specs.declared.members.Peer.{Peer}
use Rattle.group_steps.specs.Gets.{mail_to}
use Rattle.member_pull.specs.Pulls.{AfterFourth, AfterSecond, AtFourth, AtSecond}
use Rattle.member_pull.specs.Views.{Pull}
use Rattle.member_pull.specs.declared.pulls.Step.{Step}
use Rattle.member_pull.specs.declared.pulls.Step.TheVariants as steps
use Rattle.member_store.specs.Stores.{Store, is_older, store_of as store_made}
use Rattle.member_steps.specs.Acts.{Agrees, IsIgnoring, Ignore, Ignores}
use Rattle.member_steps.specs.Members.{Members, with_all, with_mail_left}
use Rattle.member_steps.specs.Steps.{Gets, GoesMissing, IsKeeping, IsOld, TakesFourth, TakesReply}
use Rattle.member_steps.specs.Views.{View as MemberView}
use Rattle.pull_msgs.specs.declared.faults.PullFault.{PullFault}
use Rattle.pull_msgs.specs.declared.messages.Second.{Second}
use Rattle.server_steps.specs.Views.{View as ServerView}
use Rattle.group_run.specs.Mails.{mail_since}
use Rattle.group_run.specs.Private.Kept.{IsWithin, members_at}
use Rattle.group_run.specs.Private.Sends.{IsSent}
use Rattle.group_run.specs.Reads.{awaits_second, is_second, left_to_read}
use Rattle.group_run.specs.Views.{View}
use Rattle.group_run.specs.declared.unread.Unread.{Unread}
use Rattle.group_run.proofs.AddLemmas.{IsAdded}
use Rattle.group_run.proofs.MailLemmas.{longer, mail_after, members_still}
use Rattle.group_run.proofs.MemberLemmas.{found_named}
use Rattle.group_run.proofs.MoveLemmas.{added_sent, held_as}

-- ---- a peer in place of itself

module _ (passes : Peer → Bool) where
  abbrev weight : Peer → ℕ
  weight peer = cond (passes peer) 1 0

  counted : (first : Peer) (peers : List Peer) → count_by passes (first ∷ peers) ≡ weight first + count_by passes peers
  counted first peers = sum_by-cons weight first peers

  module _ (after : Peer) (out : passes after ≡ false) where
    abbrev in_place : Peer → Peer
    in_place peer = cond (is_named after.phase.member peer) after peer

    no_more : (peer : Peer) → weight (in_place peer) ≤ weight peer
    no_more peer = elim (cases_Bool (is_named after.phase.member peer)) [
      | inl here ↦
          subst (λ n. n ≤ weight peer) (sym (ap weight (cond-true (is_named after.phase.member peer) after peer here) ∙ ap (λ b. cond b 1 0) out)) (omega arith)
      | inr other ↦ subst (λ now. weight now ≤ weight peer) (sym (cond-false (is_named after.phase.member peer) after peer other)) (omega arith)
    ]

    -- no more pass than before
    put_passes : (peers : List Peer) → count_by passes (put peers after) ≤ count_by passes peers
    put_passes [] = omega arith
    put_passes (first ∷ peers) =
        omega (arith, counted first peers, counted (in_place first) (put peers after), no_more first, put_passes peers)

    -- and fewer, where the other one passed
    put_fewer : (peers : List Peer) (peer : Peer) → peer_of peers after.phase.member ≡ Some peer → passes peer ≡ true
        → count_by passes (put peers after) < count_by passes peers
    put_fewer [] peer is passed = absurd (none-some peer is)
    put_fewer (first ∷ peers) peer is passed =
        elim (cases_Bool (is_named after.phase.member first)) [
          | inl here ↦
              let same : first ≡ peer =
              same_Some first peer (sym (cond-true (is_named after.phase.member first) (Some first) (peer_of peers after.phase.member) here) ∙ is) in
              let was : weight first ≡ 1 = ap (λ b. cond b 1 0) (ap passes same ∙ passed) in
              let now : weight (in_place first) ≡ 0 =
              ap weight (cond-true (is_named after.phase.member first) after first here) ∙ ap (λ b. cond b 1 0) out in
              omega (arith, counted first peers, counted (in_place first) (put peers after), was, now, put_passes peers)
          | inr other ↦
              let stays : weight (in_place first) ≡ weight first = ap weight (cond-false (is_named after.phase.member first) after first other) in
              omega (
                arith,
                counted first peers,
                counted (in_place first) (put peers after),
                stays,
                put_fewer peers peer (sym (cond-false (is_named after.phase.member first) (Some first) (peer_of peers after.phase.member) other) ∙ is) passed,
              )
        ]

  -- as many pass where a change makes no difference to that
  module _ (change : Peer → Peer) (keeps : (peer : Peer) → passes (change peer) ≡ passes peer) (m : Name) where
    abbrev in_change : Peer → Peer
    in_change peer = cond (is_named m peer) (change peer) peer

    same_weight : (peer : Peer) → weight (in_change peer) ≡ weight peer
    same_weight peer = elim (is_named m peer) as (λ b. weight (cond b (change peer) peer) ≡ weight peer) [
      | true ↦ ap (λ b. cond b 1 0) (keeps peer)
      | false ↦ refl
    ]

    changed_passes : (peers : List Peer) → count_by passes (changed change peers m) ≡ count_by passes peers
    changed_passes [] = refl
    changed_passes (first ∷ peers) =
        omega (arith, counted first peers, counted (in_change first) (changed change peers m), same_weight first, changed_passes peers)

-- ---- pulls

-- whether the pull of a peer awaits a second message
abbrev waits : Peer → Bool
waits peer = awaits_second peer.pull

after_second : (pull after : Pull) (third : List ℕ) (answer : Result Second PullFault) → AfterSecond pull answer (Ok third) after → is_second after.step ≡ false
after_second pull after third (Ok second) taken =
    ⊎_elim (λ refused. absurd (cc refused.is)) (λ agrees. ap (λ (pull : Pull). is_second pull.step) agrees.waits) taken
after_second pull after third (Err fault) refused = absurd (cc refused.is)

at_second : (step : Step) (pull after : Pull) (datagram third : List ℕ) → AtSecond step pull datagram (Ok third) after
    → (is_second step ≡ true) × (is_second after.step ≡ false)
at_second (steps.Second iv) pull after datagram third taken = (refl, after_second pull after third taken.answer taken.after)
at_second (steps.Fourth iv nr spi) pull after datagram third refused = absurd (cc refused.is)
at_second steps.Ended pull after datagram third refused = absurd (cc refused.is)

after_fourth : (pull ended : Pull) (keyed : Keyed) (answer : Result Keyed PullFault) → AfterFourth pull answer (Ok keyed) ended → is_second ended.step ≡ false
after_fourth pull ended keyed (Ok keys) ends = ap (λ (pull : Pull). is_second pull.step) ends.ended
after_fourth pull ended keyed (Err fault) refused = absurd (cc refused.is)

at_fourth : (step : Step) (pull ended : Pull) (datagram : List ℕ) (keyed : Keyed) → AtFourth step pull datagram (Ok keyed) ended → is_second ended.step ≡ false
at_fourth (steps.Fourth iv nr spi) pull ended datagram keyed taken = after_fourth pull ended keyed taken.answer taken.after
at_fourth (steps.Second iv) pull ended datagram keyed refused = absurd (cc refused.is)
at_fourth steps.Ended pull ended datagram keyed refused = absurd (cc refused.is)

told_waits : (datagram : List ℕ) (keyed : Keyed) (peer after : Peer) → IsTold datagram keyed peer after → waits after ≡ false
told_waits datagram keyed peer after told = ap waits told.now ∙ at_fourth told.pull.step told.pull told.ended datagram keyed told.takes

-- ---- members

one_ignored : (old new : Members) → IsIgnoring old new → left_to_read new ≤ left_to_read old
one_ignored old new ignores =
    subst (λ (new : Members). left_to_read new ≤ left_to_read old) (sym ignores.now) (omega (arith, ap length ignores.gets.is_first))

ignored_left : (n : ℕ) (old new : Members) → Ignore n old new → left_to_read new ≤ left_to_read old
ignored_left zero old new is = subst (λ (new : Members). left_to_read new ≤ left_to_read old) (sym is) (omega arith)
ignored_left (suc n) old new ignores = omega (arith, one_ignored old ignores.0 ignores.1, ignored_left n ignores.0 new ignores.2)

-- who agrees awaits the fourth message then
agreed_left : (m : Name) (third : List ℕ) (old new : Members) → Agrees m third old new → left_to_read new + 3 ≤ left_to_read old
agreed_left m third old new agrees =
    let does = agrees.agrees in
    let taken = at_second does.pull.step does.pull does.after agrees.second third does.takes in
    let named : agrees.after.phase.member ≡ m =
    ap (λ (peer : Peer). peer.phase.member) does.now ∙ sym (found_named old.all m agrees.peer agrees.gets.is_there) in
    let fewer = put_fewer waits agrees.after (ap waits does.now ∙ taken.1) old.all agrees.peer
    (ap (peer_of old.all) named ∙ agrees.gets.is_there) (ap awaits_second does.has ∙ taken.0) in
    subst (λ (new : Members). left_to_read new + 3 ≤ left_to_read old) (sym agrees.now) (omega (arith, fewer, ap length agrees.gets.is_first))

got_left : (m : Name) (keyed : Keyed) (members : Members) (answer : Answer) (next : Members) → Gets m keyed members answer next
    → left_to_read next ≡ left_to_read members
got_left m keyed members answer next gets =
    ap left_to_read gets.now ∙ ap (λ n. length members.mail + 2 * n) (changed_passes waits (λ (peer : Peer). record peer { store = Some (store_made keyed) }) (λ peer. refl) m members.all)

taken_left : (had : Option Store) (m : Name) (keyed : Keyed) (members : Members) (answer : Answer) (next : Members)
    → TakesReply had m keyed members answer next → left_to_read next ≡ left_to_read members
taken_left None m keyed members answer next gets = got_left m keyed members answer next gets
taken_left (Some store) m keyed members answer next taken =
    elim (is_older store keyed) as (λ b. MatchBool b (IsOld store keyed members answer next) (Gets m keyed members answer next)
    → left_to_read next ≡ left_to_read members) [
      | true ↦ λ old. ap left_to_read old.stays
      | false ↦ λ gets. got_left m keyed members answer next gets
    ] taken

kept_left : (m : Name) (members : Members) (answer : Answer) (next : Members) → IsKeeping m members answer next → left_to_read next < left_to_read members
kept_left m members answer next keeping =
    ⊎_elim
    (λ (missing : GoesMissing m members answer next).
    subst (λ (next : Members). left_to_read next < left_to_read members) (sym missing.now)
    (omega (arith, ap length missing.is_first, changed_passes waits (λ (peer : Peer). record peer { loses = false }) (λ peer. refl) m members.all)))
    (λ (takes : TakesFourth m members answer next).
    let out = told_waits takes.datagram takes.keyed takes.peer takes.after takes.told in
    let mid = with_mail_left (with_all members (put members.all takes.after)) takes.later in
    subst (λ n. n < left_to_read members) (sym (taken_left takes.peer.store m takes.keyed mid answer next takes.takes))
    (omega (arith, ap length takes.gets.is_first, put_passes waits takes.after out members.all))) keeping

-- ---- one datagram is not ignored

-- it goes missing, or is taken
kept_nearer : {m : Name} {answer : Answer} {old read new : Members} → Ignores old read → IsKeeping m read answer new → left_to_read new < left_to_read old
kept_nearer {m} {answer} {old} {read} {new} ignores keeping =
    omega (arith, ignored_left ignores.0 old read ignores.1, kept_left m read answer new keeping)

few_to : (m : Name) (answer : Answer) → length (mail_to m answer) ≤ 1
few_to m (Datagram octets names) = omega arith
few_to m answer = omega arith

-- a group that is held so
nearer_of : {D G R : Type 0} {server : ServerView D G R} {members : Members} {entries : List Entry} {held : View D G R} (now : Members)
    → held_as server members entries ≡ held → left_to_read now < left_to_read members → left_to_read now < left_to_read held.members
nearer_of {D} {G} {R} now view less = subst (λ (held : View D G R). left_to_read now < left_to_read held.members) view less

module _ {D G R : Type 0} {server : ServerView D G R} {entries more : List Entry} {m : Name} {old read : Members} {held : View D G R} (view : MemberView)
    (unread : Unread) (within : IsWithin entries unread) (ignores : Ignores old read) (held_is : held_as server old entries ≡ held) where
  -- it goes missing, or its keys are taken
  pub kept_left_nearer : {answer : Answer} {place : ℕ} → IsAdded (Keep m) answer place entries more
      → IsKeeping m read answer (members_at view entries unread) → left_to_read (members_at view more unread) < left_to_read held.members
  kept_left_nearer is keeping =
      nearer_of (members_at view more unread) held_is
      (subst (λ (members : Members). left_to_read members < left_to_read old) (sym (members_still unread within is view (record { none = refl })))
      (kept_nearer ignores keeping))

  -- it is answered, and the third message brings one datagram at most
  pub sent_nearer : {d : DiskGhosts D} {g : SignerGhosts G} {draws : DrawGhosts R} {next : ServerView D G R} {peers : List Peer} {third : List ℕ}
      → Agrees m third read (members_at view entries unread) → IsSent d g draws peers m server next entries more
      → left_to_read (members_at view more unread) < left_to_read held.members
  sent_nearer {d} {g} {draws} {next} {peers} {third} agrees sent =
      let before = mail_since entries unread.place unread.taken in
      let mail : length (mail_since more unread.place unread.taken) ≡ length (before ++ mail_to m sent.answer) =
      ap length (mail_after unread within (added_sent d g draws held_is sent)) in
      nearer_of (members_at view more unread) held_is
      (omega (
        arith,
        ignored_left ignores.0 old read ignores.1,
        agreed_left m third read (members_at view entries unread) agrees,
        mail,
        longer before (mail_to m sent.answer),
        few_to m sent.answer,
      ))
