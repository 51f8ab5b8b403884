-- What members do leaves their SAs, and what they send is under these.
use Rattle.std.proofs.Common.{◌≡◌, ◌∙◌, ℕ, zero, suc, Bool, true, false, List, [], ◌∷◌, ◌++◌, Option}
use Rattle.std.proofs.Common.{None, Some, Result, Ok, Err, length, take, refl, sym, ap, subst, inl, inr}
use Rattle.std.specs.Prelude.{All, IfSome, MatchBool, if◌then◌else◌, option_and_then}
use Rattle.std.specs.Option.{option_map, unwrap_or}
use Rattle.std.proofs.lemmas.Bool.{cases_Bool, cond-true, cond-false}
use Rattle.std.proofs.lemmas.List.Elements.{All-cons, All-head, All-map, All-push, All-tail, All-weaker}
use Rattle.gd_edges.specs.declared.verifiers.Verifier.{Ghosts as VerifierGhosts}
use Rattle.group_terms.specs.Names.{Name}
use Rattle.group_terms.specs.declared.paths.Keyed.{Keyed}
use Rattle.group_terms.specs.declared.phases.Phase1.{Phase1}
use Rattle.group_model.specs.declared.entries.Answer.{Answer}
use Rattle.group_model.specs.declared.entries.Answer.TheVariants.{Done, Nothing}
use Rattle.group_model.specs.declared.entries.Asked.{Asked}
use Rattle.group_model.specs.declared.entries.Asked.TheVariants.{Again, Deliver, Keep, Key, Lose}
use Rattle.group_peers.specs.Peers.{changed, is_named, new_peer, phase_of, put, store_of, was_introduced, with_loss, with_store}
use Rattle.group_peers.specs.Pulls as pulls
use Rattle.group_peers.specs.declared.members.Peer.{Peer}
use Rattle.member_pull.specs.Pulls.{AfterFourth, AfterSecond, AtFourth, AtSecond, IsFourth, IsSecond}
use Rattle.member_pull.specs.Views.{Pull}
use Rattle.member_pull.specs.declared.pulls.Step.{Step}
use Rattle.member_pull.specs.declared.pulls.Step.TheVariants as steps
use Rattle.member_store.specs.Stores.{Store, is_older}
use Rattle.member_steps.specs.Acts.{Acts, Agrees, AreActs, BeginsPull, ChangesLoss, IsAct, IsFirstUse, IsIgnoring, Overtakes}
use Rattle.member_steps.specs.Members.{Mail, Members, with_all, with_mail_left}
use Rattle.member_steps.specs.Steps.{Gets, Gives, IsKeeping, IsLosing, IsMemberStep, IsOld, TakesFourth, TakesReply}
use Rattle.pull_msgs.specs.Fits.{PhaseFits}
use Rattle.pull_msgs.specs.Texts.{IsPullText, third_message}
use Rattle.pull_msgs.specs.declared.faults.PullFault.{PullFault}
use Rattle.pull_msgs.specs.declared.messages.Second.{Second}
use Rattle.group_steps.proofs.HeadLemmas.{cookies_written}
use Rattle.group_steps.proofs.PeerLemmas.{HaveSameMarks, changed_marks, found_has, given_at, given_by, mark_of, more_given, more_phases, put_marks, same_phases}

-- A peer has an SA that fits. Once it began a pull it was introduced, and what it sent last has the cookies of its SA.
pub record PeerFits (peer : Peer) : Type 0 where
  pub phase : PhaseFits peer.phase
  pub pull : IfSome peer.pull (λ (pull : Pull). (peer.introduced ≡ true) × (pull.phase ≡ peer.phase))
  pub sent : IfSome peer.sent (λ (datagram : List ℕ). (peer.introduced ≡ true) × (take 16 datagram ≡ peer.phase.cookies))

-- who was introduced, and the SAs, are as before; peers fit as before; and nothing more is on its way
pub record MembersKeep (old new : Members) : Type 1 where
  pub given : (m : Name) → given_at new.all m ≡ given_at old.all m
  pub phases : (m : Name) (phase : Phase1) → phase_of old.all m ≡ Some phase → phase_of new.all m ≡ Some phase
  pub fits : All PeerFits old.all → All PeerFits new.all
  pub mail : (P : Mail → Type 0) → All P old.mail → All P new.mail

keep_none : (members : Members) → MembersKeep members members
keep_none members = record { given = λ m. refl; phases = λ m phase is. is; fits = λ fits. fits; mail = λ P all. all }

keep_same : (old new : Members) → new ≡ old → MembersKeep old new
keep_same old new same = subst (MembersKeep old) (sym same) (keep_none old)

pub keep_both : (old mid new : Members) → MembersKeep old mid → MembersKeep mid new → MembersKeep old new
keep_both old mid new first later = record {
  given = λ m. later.given m ∙ first.given m;
  phases = λ m phase is. later.phases m phase (first.phases m phase is);
  fits = λ fits. later.fits (first.fits fits);
  mail = λ P all. later.mail P (first.mail P all);
}

keep_marks : (old new : Members) → HaveSameMarks old.all new.all → (All PeerFits old.all → All PeerFits new.all)
    → ((P : Mail → Type 0) → All P old.mail → All P new.mail) → MembersKeep old new
keep_marks old new same fits mail = record {
  given = λ m. ap (option_and_then given_by) (same m);
  phases = λ m phase is. same_phases old.all new.all same m ∙ is;
  fits = fits;
  mail = mail;
}

-- ---- peers that fit

put_fits : (peers : List Peer) (after : Peer) → PeerFits after → All PeerFits peers → All PeerFits (put peers after)
put_fits peers after fit all = All-map PeerFits in_place peers (All-weaker PeerFits (λ peer. PeerFits (in_place peer)) each peers all)
  where
    in_place : Peer → Peer
    in_place other = if is_named after.phase.member other then after else other

    each : (other : Peer) → PeerFits other → PeerFits (in_place other)
    each other has = elim (cases_Bool (is_named after.phase.member other)) [
      | inl its ↦ subst PeerFits (sym (cond-true (is_named after.phase.member other) after other its)) fit
      | inr differs ↦ subst PeerFits (sym (cond-false (is_named after.phase.member other) after other differs)) has
    ]

pub changed_fits : (change : Peer → Peer) → ((peer : Peer) → PeerFits peer → PeerFits (change peer)) → (peers : List Peer) (n : Name)
    → All PeerFits peers → All PeerFits (changed change peers n)
changed_fits change keeps peers n all = All-map PeerFits where_named peers (All-weaker PeerFits (λ peer. PeerFits (where_named peer)) each peers all)
  where
    where_named : Peer → Peer
    where_named peer = if is_named n peer then change peer else peer

    each : (peer : Peer) → PeerFits peer → PeerFits (where_named peer)
    each peer has = elim (cases_Bool (is_named n peer)) [
      | inl its ↦ subst PeerFits (sym (cond-true (is_named n peer) (change peer) peer its)) (keeps peer has)
      | inr differs ↦ subst PeerFits (sym (cond-false (is_named n peer) (change peer) peer differs)) has
    ]

-- what is said of a value that there is
pub it_has : {X : Type 0} (P : X → Type 0) (one : Option X) (item : X) → one ≡ Some item → IfSome one P → P item
it_has P one item is has = subst (λ one. IfSome one P) is has

-- ---- what pulls do

same_ok : {A E : Type 0} (one two : A) (read : Result A E) → read ≡ Ok one → read ≡ Ok two → one ≡ two
same_ok one two read first second = cc

second_taken : (old new : Pull) (datagram third : List ℕ) → IsSecond old datagram (Ok third) new
    → (new.phase ≡ old.phase) × (length old.phase.cookies ≡ 16 → take 16 third ≡ old.phase.cookies)
second_taken old new datagram third = by_step old.step
  where
    by_answer : (answer : Result Second PullFault) → AfterSecond old answer (Ok third) new
        → (new.phase ≡ old.phase) × (length old.phase.cookies ≡ 16 → take 16 third ≡ old.phase.cookies)
    by_answer (Ok second) (inl refused) = absurd (cc (refused.is))
    by_answer (Ok second) (inr agrees) = (
      ap (λ (pull : Pull). pull.phase) agrees.waits,
      λ sixteen.
          cookies_written old.phase second.next_iv (third_message old.message old.ni second.nr) third sixteen
          (subst (IsPullText old.phase second.next_iv (third_message old.message old.ni second.nr))
          (same_ok agrees.third third (Ok third) agrees.gives refl) agrees.is_text),
    )
    by_answer (Err fault) refused = absurd (cc (refused.is))

    by_step : (step : Step) → AtSecond step old datagram (Ok third) new
        → (new.phase ≡ old.phase) × (length old.phase.cookies ≡ 16 → take 16 third ≡ old.phase.cookies)
    by_step (steps.Second iv) takes = by_answer takes.answer takes.after
    by_step (steps.Fourth iv nr spi) refused = absurd (cc (refused.is))
    by_step steps.Ended refused = absurd (cc (refused.is))

fourth_taken : (old new : Pull) (datagram : List ℕ) (keyed : Keyed) → IsFourth old datagram (Ok keyed) new → new.phase ≡ old.phase
fourth_taken old new datagram keyed = by_step old.step
  where
    by_answer : (answer : Result Keyed PullFault) → AfterFourth old answer (Ok keyed) new → new.phase ≡ old.phase
    by_answer (Ok read) ends = ap (λ (pull : Pull). pull.phase) ends.ended
    by_answer (Err fault) refused = absurd (cc (refused.is))

    by_step : (step : Step) → AtFourth step old datagram (Ok keyed) new → new.phase ≡ old.phase
    by_step (steps.Fourth iv nr spi) takes = by_answer takes.answer takes.after
    by_step (steps.Second iv) refused = absurd (cc (refused.is))
    by_step steps.Ended refused = absurd (cc (refused.is))

-- ---- what members do of themselves

first_goes : (members : Members) (m : Name) (datagram : List ℕ) (later : List Mail) → members.mail ≡ (m, datagram) ∷ later → (P : Mail → Type 0)
    → All P members.mail → All P later
first_goes members m datagram later is P all = All-tail P (m, datagram) later (subst (All P) is all)

keeps_ignoring : (old new : Members) → IsIgnoring old new → MembersKeep old new
keeps_ignoring old new ignoring =
    subst (MembersKeep old) (sym ignoring.now) (keep_marks old (with_mail_left old ignoring.later) (λ m. refl) (λ fits. fits)
    (first_goes old ignoring.m ignoring.datagram ignoring.later ignoring.gets.is_first))

-- what comes in another order is the same
pub overtaken : (P : Mail → Type 0) (passed later : List Mail) (mail : Mail) → All P (passed ++ mail ∷ later) → All P (mail ∷ (passed ++ later))
overtaken P [] later mail all = all
overtaken P (first ∷ passed) later mail all =
    let rest = overtaken P passed later mail (All-tail P first (passed ++ mail ∷ later) all) in
    All-cons P mail (first ∷ (passed ++ later)) (All-head P mail (passed ++ later) rest)
    (All-cons P first (passed ++ later) (All-head P first (passed ++ mail ∷ later) all) (All-tail P mail (passed ++ later) rest))

keeps_overtaking : (old new : Members) → Overtakes old new → MembersKeep old new
keeps_overtaking old new overtakes =
    subst (MembersKeep old) (sym overtakes.now) (keep_marks old (with_mail_left old (overtakes.mail ∷ (overtakes.passed ++ overtakes.later)))
    (λ m. refl) (λ fits. fits)
    (λ P all. overtaken P overtakes.passed overtakes.later overtakes.mail (subst (All P) overtakes.were all)))

-- a peer that went on with its pull, and sent something or not
fit_agreed : (peer after : Peer) (datagram third : List ℕ) → pulls.Agrees datagram third peer after → PeerFits peer → PeerFits after
fit_agreed peer after datagram third agrees fit =
    let has = it_has (λ (pull : Pull). (peer.introduced ≡ true) × (pull.phase ≡ peer.phase)) peer.pull agrees.pull agrees.has fit.pull in
    let taken = second_taken agrees.pull agrees.after datagram third agrees.takes in
    subst PeerFits (sym agrees.now) (record {
      phase = fit.phase;
      pull = (has.0, taken.0 ∙ has.1);
      sent = (
        has.0,
        taken.1 (subst (λ (phase : Phase1). length phase.cookies ≡ 16) (sym has.1) fit.phase.cookies) ∙ ap (λ (phase : Phase1). phase.cookies) has.1,
      );
    })

keeps_agreeing : (m : Name) (third : List ℕ) (old new : Members) → Agrees m third old new → MembersKeep old new
keeps_agreeing m third old new agrees =
    let peer = agrees.peer in
    subst (MembersKeep old) (sym agrees.now) (keep_marks old (with_mail_left (with_all old (put old.all agrees.after)) agrees.later)
    (put_marks old.all m peer agrees.after agrees.gets.is_there (ap mark_of agrees.agrees.now))
    (λ fits. put_fits old.all agrees.after (fit_agreed peer agrees.after agrees.second third agrees.agrees
    (found_has (is_named m) PeerFits old.all peer fits agrees.gets.is_there)) fits)
    (first_goes old m agrees.second agrees.later agrees.gets.is_first))

module _ (block : ℕ → List ℕ) where
  keeps_used : (m : Name) (old new : Members) → IsFirstUse block m old new → MembersKeep old new
  keeps_used m old new used = subst (MembersKeep old) (sym used.now) (record {
    given = more_given old.all _;
    phases = more_phases old.all _;
    fits = λ fits. All-push PeerFits old.all (new_peer _) fits (record { phase = used.fits; pull = tt; sent = tt });
    mail = λ P all. all;
  })

keeps_changed : (members : Members) (mail : List Mail) (change : Peer → Peer) (n : Name) → ((peer : Peer) → (change peer).phase ≡ peer.phase)
    → ((peer : Peer) → (change peer).introduced ≡ peer.introduced) → ((peer : Peer) → PeerFits peer → PeerFits (change peer))
    → ((P : Mail → Type 0) → All P members.mail → All P mail)
    → MembersKeep members (with_mail_left (with_all members (changed change members.all n)) mail)
keeps_changed members mail change n phase introduced fits =
    keep_marks members (with_mail_left (with_all members (changed change members.all n)) mail) (changed_marks change phase n introduced members.all)
    (changed_fits change fits members.all n)

with_fit_loss : (loses : Bool) (peer : Peer) → PeerFits peer → PeerFits (record peer { loses = loses })
with_fit_loss loses peer fit = record { phase = fit.phase; pull = fit.pull; sent = fit.sent }

keeps_loss : (members : Members) (mail : List Mail) (m : Name) (loses : Bool) → ((P : Mail → Type 0) → All P members.mail → All P mail)
    → MembersKeep members (with_mail_left (with_all members (with_loss members.all m loses)) mail)
keeps_loss members mail m loses =
    keeps_changed members mail (λ (peer : Peer). record peer { loses = loses }) m (λ peer. refl) (λ peer. refl) (with_fit_loss loses)

keeps_changing : (old new : Members) → ChangesLoss old new → MembersKeep old new
keeps_changing old new changes = subst (MembersKeep old) (sym changes.now) (keeps_loss old old.mail changes.m changes.loses (λ P all. all))

module _ (block : ℕ → List ℕ) (group : Name) where
  keeps_begun : (m : Name) (old new : Members) → BeginsPull block group m old new → MembersKeep old new
  keeps_begun m old new begins =
      let peer = begins.begins.peer in
      let after = begins.begins.after in
      let begun = begins.begins.begun in
      let there = begins.begins.is_there in
      let introduced : peer.introduced ≡ true =
      sym (ap (λ peer. unwrap_or (option_map (λ (peer : Peer). peer.introduced) peer) false) there) ∙ begins.introduced in
      let fit : PeerFits peer → PeerFits after = λ fit. subst PeerFits (sym begun.now) (record {
        phase = fit.phase;
        pull = (introduced, ap (λ (pull : Pull). pull.phase) begun.begins.waits);
        sent = (introduced, cookies_written peer.phase _ _ begun.datagram fit.phase.cookies begun.begins.is_text);
      }) in
      subst (MembersKeep old) (sym begins.now) (subst (λ all. MembersKeep old (record old { all = all; place = _ })) (sym begins.begins.now)
      (keep_marks old _ (put_marks old.all m peer after there (ap mark_of begun.now))
      (λ fits. put_fits old.all after (fit (found_has (is_named m) PeerFits old.all peer fits there)) fits) (λ P all. all)))

  keeps_act : (old new : Members) → IsAct block group old new → MembersKeep old new
  keeps_act old new (inl ignoring) = keeps_ignoring old new ignoring
  keeps_act old new (inr (inl agrees)) = keeps_agreeing agrees.0 agrees.1 old new agrees.2
  keeps_act old new (inr (inr (inl used))) = keeps_used block used.0 old new used.1
  keeps_act old new (inr (inr (inr (inl begins)))) = keeps_begun begins.0 old new begins.1
  keeps_act old new (inr (inr (inr (inr (inl overtakes))))) = keeps_overtaking old new overtakes
  keeps_act old new (inr (inr (inr (inr (inr changes))))) = keeps_changing old new changes

  keeps_number : (n : ℕ) (old new : Members) → AreActs block group n old new → MembersKeep old new
  keeps_number zero old new same = keep_same old new same
  keeps_number (suc n) old new acts =
      keep_both old acts.0 new (keeps_act old acts.0 acts.1) (keeps_number n acts.0 new acts.2)

  pub keeps_acts : (old new : Members) → Acts block group old new → MembersKeep old new
  keeps_acts old new acts = keeps_number acts.0 old new acts.1

-- ---- what members are asked to do

with_fit_store : (store : Store) (peer : Peer) → PeerFits peer → PeerFits (record peer { store = Some store })
with_fit_store store peer fit = record { phase = fit.phase; pull = fit.pull; sent = fit.sent }

keeps_store : (members : Members) (m : Name) (store : Store) → MembersKeep members (with_all members (with_store members.all m store))
keeps_store members m store =
    keeps_changed members members.mail (λ (peer : Peer). record peer { store = Some store }) m (λ peer. refl) (λ peer. refl) (with_fit_store store)
    (λ P all. all)

keeps_reply : (store : Option Store) (m : Name) (keyed : Keyed) (members : Members) (answer : Answer) (next : Members)
    → TakesReply store m keyed members answer next → MembersKeep members next
keeps_reply None m keyed members answer next gets = subst (MembersKeep members) (sym gets.now) (keeps_store members m _)
keeps_reply (Some store) m keyed members answer next takes = either (is_older store keyed) takes
  where
    either : (old : Bool) → MatchBool old (IsOld store keyed members answer next) (Gets m keyed members answer next) → MembersKeep members next
    either true is = keep_same members next is.stays
    either false gets = subst (MembersKeep members) (sym gets.now) (keeps_store members m _)

keeps_fourth : (m : Name) (members : Members) (answer : Answer) (next : Members) → TakesFourth m members answer next → MembersKeep members next
keeps_fourth m members answer next taken =
    let peer = taken.peer in
    let told = taken.told in
    let mid = with_mail_left (with_all members (put members.all taken.after)) taken.later in
    let fit : PeerFits peer → PeerFits taken.after = λ fit. (
    let has = it_has (λ (pull : Pull). (peer.introduced ≡ true) × (pull.phase ≡ peer.phase)) peer.pull told.pull told.has fit.pull in
    subst PeerFits (sym told.now) (record {
      phase = fit.phase;
      pull = (has.0, fourth_taken told.pull told.ended taken.datagram taken.keyed told.takes ∙ has.1);
      sent = fit.sent;
    })
    ) in
    keep_both members mid next
    (keep_marks members mid (put_marks members.all m peer taken.after taken.gets.is_there (ap mark_of told.now))
    (λ fits. put_fits members.all taken.after (fit (found_has (is_named m) PeerFits members.all peer fits taken.gets.is_there)) fits)
    (first_goes members m taken.datagram taken.later taken.gets.is_first))
    (keeps_reply peer.store m taken.keyed mid answer next taken.takes)

keeps_keeping : (m : Name) (members : Members) (answer : Answer) (next : Members) → IsKeeping m members answer next → MembersKeep members next
keeps_keeping m members answer next (inl missing) =
    subst (MembersKeep members) (sym missing.now)
    (keeps_loss members missing.later m false (first_goes members m missing.datagram missing.later missing.is_first))
keeps_keeping m members answer next (inr taken) = keeps_fourth m members answer next taken

keeps_losing : (m : Name) (members : Members) (answer : Answer) (next : Members) → IsLosing m members answer next → MembersKeep members next
keeps_losing m members answer next = either (was_introduced members.all m)
  where
    either : (was : Bool) → MatchBool was ((answer ≡ Done) × (next ≡ with_all members (with_loss members.all m true))) ((answer ≡ Nothing) × (next ≡ members))
        → MembersKeep members next
    either true is = subst (MembersKeep members) (sym is.1) (keeps_loss members members.mail m true (λ P all. all))
    either false is = keep_same members next is.1

module _ {V : Type 0} (v : VerifierGhosts V) (verifier : V) where
  keeps_given : (store : Option Store) (push : Option (List ℕ)) (m : Name) (members : Members) (answer : Answer) (next : Members)
      → Gives v verifier store push m members answer next → MembersKeep members next
  keeps_given (Some store) (Some datagram) m members answer next given = subst (MembersKeep members) (sym given.after) (keeps_store members m given.now)
  keeps_given (Some store) None m members answer next given = keep_same members next given.1
  keeps_given None push m members answer next given = keep_same members next given.1

  pub keeps_acting : (sent : ℕ → Option (List ℕ)) (asked : Asked) (members : Members) (answer : Answer) (next : Members)
      → IsMemberStep v verifier sent asked members answer next → MembersKeep members next
  keeps_acting sent (Lose m) members answer next step = keeps_losing m members answer next step
  keeps_acting sent (Again m) members answer next step = keep_same members next step.stays
  keeps_acting sent (Keep m) members answer next step = keeps_keeping m members answer next step
  keeps_acting sent (Deliver m number) members answer next step = keeps_given (store_of members.all m) (sent number) m members answer next step
  keeps_acting sent (Key m) members answer next step = keep_same members next step.1
  keeps_acting sent asked members answer next step = absurd step
