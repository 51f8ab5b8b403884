-- After each history a member takes the fourth message that its session keeps, where its pull is in step with that session.
use Rattle.std.proofs.Common.{◌≡◌, ◌∙◌, ◌⊎◌, ap, arith, refl, subst, sym, inl, inr, ℕ, ◌≤◌, true, false, Bool, List, [], ◌∷◌, length, take, Option, Some}
use Rattle.std.specs.Prelude.{IfSome, MatchBool, None, Result, Ok, Err, if◌then◌else◌}
use Rattle.std.specs.List.{All, Contains}
use Rattle.std.specs.Option.{option_map}
use Rattle.std.proofs.lemmas.Bool.{cases_Bool, cond-true, cond-false, false≢true}
use Rattle.std.proofs.lemmas.List.Elements.{All-contains, All-head, All-tail}
use Rattle.std.proofs.lemmas.Slice.Eq.{bytes_eq-Decides}
use Rattle.gd_cipher.specs.Bytes.{AreBytes}
use Rattle.group_terms.specs.Names.{Name}
use Rattle.group_terms.specs.declared.paths.Keyed.{Keyed}
use Rattle.group_terms.specs.declared.phases.Phase1.{Phase1}
use Rattle.group_terms.specs.declared.signatures.SignKind.{SignKind}
use Rattle.group_values.specs.Values.{Made}
use Rattle.group_keys.specs.Replies.{IsKeyedOf}
use Rattle.group_model.specs.Places.{is_member}
use Rattle.group_model.specs.declared.entries.Answer.{Answer}
use Rattle.group_model.specs.declared.entries.Answer.TheVariants.{Kept, Lost, Older}
use Rattle.group_model.specs.declared.entries.Entry.{Entry}
use Rattle.group_model.specs.declared.entries.SymReply.{SymReply}
use Rattle.group_peers.specs.Peers.{is_named, peer_of, put, store_of, with_loss, with_store}
use Rattle.group_peers.specs.Pulls.{IsTold, PassesOver, PassesOverAt}
use Rattle.group_peers.specs.declared.members.Peer.{Peer}
use Rattle.pull_msgs.specs.Fits.{MessageFits, PhaseFits, ReplyFits}
use Rattle.pull_msgs.specs.Sent.{IsSomeFourth}
use Rattle.pull_msgs.specs.Texts.{IsPullText, fourth_message}
use Rattle.pull_sessions.specs.Sessions.{is_of, sa_of}
use Rattle.pull_sessions.specs.declared.sas.Sa.{Sa}
use Rattle.pull_sessions.specs.declared.sas.Session.{Session}
use Rattle.member_pull.specs.Pulls.{Ends, IsFourth, IsRefused, at_step}
use Rattle.member_pull.specs.Views.{Pull}
use Rattle.member_pull.specs.declared.pulls.Step.{Step}
use Rattle.member_pull.specs.declared.pulls.Step.TheVariants as steps
use Rattle.member_pull.specs.declared.refusals.PullRefusal.{PullRefusal}
use Rattle.member_pull.specs.declared.refusals.PullRefusal.TheVariants as refusals
use Rattle.law_member_roots.specs.Groups.{IsKeyedGroup}
use Rattle.law_member_roots.specs.Roots.{IsStoreOf}
use Rattle.member_store.specs.Stores.{Store, is_older, root_epoch, store_of as store_made}
use Rattle.member_steps.specs.Acts.{Acts, IsIgnoring}
use Rattle.member_steps.specs.Members.{Mail, Members, with_all, with_mail_left}
use Rattle.member_steps.specs.Steps.{GoesMissing, Gets, IsKeeping, IsOld, TakesFourth, TakesReply}
use Rattle.server_steps.specs.Messages.{IsFourthTo, IsKeptTo, IsOwnFourth, KeepsMessage}
use Rattle.group_steps.specs.Devices.{Devices, Keying}
use Rattle.group_steps.specs.Mails.{IsSentTo, MailIsOfTheGroup, SessionsKeepMessages}
use Rattle.group_steps.specs.Runs.{Outset, Run, no_run}
use Rattle.group_steps.specs.Steps.{IsHistory}
use Rattle.group_steps.proofs.PeerLemmas.{changed_peer, found_passes}
use Rattle.law_store_steps.specs.Follow.{IsKeptAt, IsOurs, KeepsItsStore, OpenedGroupsHaveKeys, holders_in}
use Rattle.law_store_steps.specs.Fourths.{GetsOwnFourth, HasPeer, OwnFourthsAreTaken, TakesOwn, TakesOwnFourth}
use Rattle.law_store_steps.proofs.ActLemmas.{Stay, all_after, stay}
use Rattle.law_store_steps.proofs.MailLemmas.{Tells, TellsLaws, reply_fits}
use Rattle.law_store_steps.proofs.OpenedLemmas.{keyed_told}
use Rattle.law_store_steps.proofs.PeerLemmas.{there}
use Rattle.law_store_steps.proofs.PullLemmas.{FitsUnder, each_after, fit_kept, fit_pull}
use Rattle.law_store_steps.proofs.ReadyLemmas.{IsReady, IvReads, Reads, any_store, pull_reads, ready_kept}
use Rattle.law_store_steps.proofs.ReplyLemmas.{keeps_keys, missing}

-- the laws of lower crates that are needed
pub record FourthLaws : Type 0 where
  pub tells : TellsLaws
  pub taken : (old new : Pull) (iv nr datagram : List ℕ) (keyed : Keyed) (result : Result Keyed PullRefusal) → PhaseFits old.phase → MessageFits old.message
      → AreBytes 16 iv → ReplyFits keyed → old.step ≡ steps.Fourth iv nr keyed.spi
      → IsPullText old.phase iv (fourth_message old.message old.ni nr keyed) datagram → IsFourth old datagram result new
      → IsRefused Keyed old refusals.NoMemory result new ⊎ Ends old keyed result new
  pub ends : (old : Pull) (iv nr datagram : List ℕ) (keyed : Keyed) → PhaseFits old.phase → MessageFits old.message → AreBytes 16 iv → ReplyFits keyed
      → old.step ≡ steps.Fourth iv nr keyed.spi → IsPullText old.phase iv (fourth_message old.message old.ni nr keyed) datagram
      → IsFourth old datagram (Ok keyed) (at_step old steps.Ended)
  pub fresh : (depth epoch : ℕ) (spi : List ℕ) (list : List Made) (m : Name) (keyed : Keyed) (store : Store) → IsStoreOf depth spi list m store
      → epoch ≤ length list → root_epoch store ≤ epoch → IsKeyedOf depth spi (take epoch list) m keyed → is_older store keyed ≡ false

-- ---- small facts

only : {X : Type 0} {a b : X} → Some a ≡ Some b → a ≡ b
only e = cc

-- who gets the first datagram, and its octets
abbrev first_of : Name → List Mail → Name
first_of other [] = other
first_of other (mail ∷ later) = mail.0

abbrev octets_of : List Mail → List ℕ
octets_of [] = []
octets_of (mail ∷ later) = mail.1

-- the SA of a member is one, and has its name
sa_has : (P : Sa → Type 0) (sas : List Sa) (m : Name) (sa : Sa) → All P sas → sa_of sas m ≡ Some sa → P sa × (m ≡ sa.phase.member)
sa_has P [] m sa all is = absurd (cc)
sa_has P (first ∷ sas) m sa all is = elim (cases_Bool (is_of m first)) [
  | inl here ↦
      let same : first ≡ sa = only (sym (cond-true (is_of m first) (Some first) (sa_of sas m) here) ∙ is) in (
        subst P same (All-head P first sas all),
        subst (λ (sa : Sa). m ≡ sa.phase.member) same ((bytes_eq-Decides m first.phase.member).0 here),
      )
  | inr other ↦ sa_has P sas m sa (All-tail P first sas all) (sym (cond-false (is_of m first) (Some first) (sa_of sas m) other) ∙ is)
]

-- a refusal for another reason than memory
refused_else : (why : PullRefusal) (keyed : Keyed) (old new : Pull) → (why ≡ refusals.NoMemory → ⊥)
    → IsRefused Keyed old refusals.NoMemory (Err why) new ⊎ Ends old keyed (Err why) new → ⊥
refused_else why keyed old new other (inl refused) = other (cc (refused.is))
refused_else why keyed old new other (inr ends) = absurd (cc (ends.gives))

-- by one who loses a datagram or does not
chosen : (b : Bool) (P Q : Type 0) → (b ≡ true → P) → (b ≡ false → Q) → MatchBool b P Q
chosen true P Q first second = first refl
chosen false P Q first second = second refl

module _ (laws : FourthLaws) {D G V : Type 0} (on : Devices D G V) (by : Keying G) (have : OpenedGroupsHaveKeys on by) (mail : MailIsOfTheGroup on by)
    (sessions : SessionsKeepMessages on by) where
  abbrev kind : SignKind
  kind = on.signers.kind_of by.signer

  module _ (outset : Outset D) (before : List Entry) (run : Run D) (acted : Members) (m : Name) (says : SymReply) (gets : GetsOwnFourth run acted m says)
      (history : IsHistory on by (no_run outset) before run) (acts : Acts by.members_block by.group run.members acted) where
    abbrev depth : ℕ
    depth = run.host.server.depth

    abbrev spi : List ℕ
    spi = run.host.head.spi

    abbrev list : List Made
    list = run.host.server.list

    -- ---- what the session keeps

    abbrev Keeps : Sa → Type 0
    Keeps = KeepsMessage kind 0 run.host.server.depth run.host.head.spi run.host.server.list

    own : IsOwnFourth kind 0 depth spi list gets.sa.phase gets.session gets.octets says
    own =
        let all : Keeps gets.sa = (sa_has Keeps run.host.sessions.sas m gets.sa (sessions outset before run history) gets.has.is_there).0 in
        subst (IsKeptTo kind 0 depth spi list gets.sa.phase gets.session) gets.keeps
        (subst (λ (session : Option Session). IfSome session (λ (one : Session). IsKeptTo kind 0 depth spi list gets.sa.phase one one.kept)) gets.has.has all)

    to : says.member ≡ m
    to = own.message.to ∙ sym (sa_has Keeps run.host.sessions.sas m gets.sa (sessions outset before run history) gets.has.is_there).1

    member : is_member (holders_in run says.keyed_epoch) m ≡ true
    member = subst (λ m. is_member (holders_in run says.keyed_epoch) m ≡ true) to own.message.member

    keys : IsKeyedOf depth spi (take says.keyed_epoch list) m own.message.keyed
    keys = subst (λ m. IsKeyedOf depth spi (take says.keyed_epoch list) m own.message.keyed) to own.message.keys

    here : Contains acted.mail (m, gets.octets)
    here = subst (λ mail. Contains mail (m, gets.octets)) (sym gets.is_first) (0, omega arith, refl)

    was : Contains run.members.mail (m, gets.octets)
    was = (stay by.members_block by.group run.members acted acts).mail (m, gets.octets) here

    group : IsKeyedGroup depth spi list
    group = keyed_told on by have outset before run history (m, gets.octets) was

    fits : ReplyFits own.message.keyed
    fits = reply_fits laws.tells depth says.keyed_epoch spi list m own.message.keyed group own.message.within member keys

    written : IsSomeFourth gets.sa.phase own.message.keyed gets.octets
    written = record {
      message = own.message.message;
      iv = own.message.iv;
      ni = own.message.ni;
      nr = own.message.nr;
      message_size = own.message.message_size;
      iv_size = own.message.iv_size;
      keys_fit = fits;
      is_text = own.message.is_text;
    }

    -- ---- the pull

    ready : IsReady gets.peer
    ready =
        there IsReady acted.all m gets.peer
        (all_after IsReady (ready_kept (fit_kept laws.tells.pulls)) by.members_block by.group run.members acted
        (each_after IsReady (ready_kept (fit_kept laws.tells.pulls)) any_store on by outset before run history) acts)
        gets.is_there

    under : FitsUnder gets.peer.phase gets.pull
    under = fit_pull gets.peer gets.pull ready.fit gets.pulls

    reads : Reads gets.pull
    reads = pull_reads gets.peer gets.pull ready gets.pulls

    abbrev iv_of : Step → List ℕ
    iv_of (steps.Second iv) = iv
    iv_of (steps.Fourth iv nr awaited) = iv
    iv_of steps.Ended = []

    iv_fits : AreBytes 16 gets.session.iv
    iv_fits = by_step gets.pull.step gets.in_step.awaits reads.iv
      where
        by_step : (step : Step) → step ≡ steps.Fourth gets.session.iv gets.session.nr spi → IvReads step → AreBytes 16 gets.session.iv
        by_step (steps.Second iv) is has = absurd (cc (is))
        by_step (steps.Fourth iv nr awaited) is has = subst (AreBytes 16) (ap iv_of is) has
        by_step steps.Ended is has = absurd (cc (is))

    text : IsPullText gets.pull.phase gets.session.iv (fourth_message gets.pull.message gets.pull.ni gets.session.nr own.message.keyed) gets.octets
    text =
        let phase = sym gets.in_step.under in
        let message = sym gets.in_step.message in
        let ni = sym gets.in_step.nonce in
        subst (λ (x : Phase1 × List ℕ × List ℕ).
        IsPullText x.0 gets.session.iv (fourth_message x.1 x.2 gets.session.nr own.message.keyed) gets.octets) (λ i. (phase i, message i, ni i)) own.own

    awaits : gets.pull.step ≡ steps.Fourth gets.session.iv gets.session.nr own.message.keyed.spi
    awaits = gets.in_step.awaits ∙ ap (λ spi. steps.Fourth gets.session.iv gets.session.nr spi) (sym keys.spi)

    phase_fits : PhaseFits gets.pull.phase
    phase_fits = subst PhaseFits (sym under.under) ready.fit.phase

    -- ---- it is not ignored

    none_passes : (step : Step) → gets.pull.step ≡ step → step ≡ steps.Fourth gets.session.iv gets.session.nr spi → PassesOverAt step gets.pull gets.octets → ⊥
    none_passes (steps.Second iv) has is passes = absurd (cc (is))
    none_passes (steps.Fourth iv nr awaited) has is passes =
        refused_else passes.0 own.message.keyed gets.pull gets.pull passes.1
        (laws.taken gets.pull gets.pull gets.session.iv gets.session.nr gets.octets own.message.keyed (Err passes.0)
        phase_fits reads.message iv_fits fits awaits text passes.2)
    none_passes steps.Ended has is passes = absurd (cc (is))

    not_ignored : (other : Members) → IsIgnoring acted other → ⊥
    not_ignored other ignores =
        let mails = sym gets.is_first ∙ ignores.gets.is_first in
        let name : m ≡ ignores.m = ap (first_of m) mails in
        let octets : gets.octets ≡ ignores.datagram = ap octets_of mails in
        let peer : gets.peer ≡ ignores.peer = only (sym gets.is_there ∙ ap (peer_of acted.all) name ∙ ignores.gets.is_there) in
        let pull : Some gets.pull ≡ ignores.peer.pull = sym gets.pulls ∙ ap (λ (peer : Peer). peer.pull) peer in
        none_passes gets.pull.step refl gets.in_step.awaits
        (subst (λ (x : Option Pull × List ℕ). PassesOver x.0 x.1) (λ i. (sym pull i, sym octets i)) ignores.ignored)

    -- ---- it can be kept

    -- the peer once its pull has ended
    abbrev told : Peer
    told = record gets.peer { pull = Some (at_step gets.pull steps.Ended) }

    tells_keys : IsTold gets.octets own.message.keyed gets.peer told
    tells_keys = record {
      pull = gets.pull;
      has = gets.pulls;
      ended = at_step gets.pull steps.Ended;
      takes = laws.ends gets.pull gets.session.iv gets.session.nr gets.octets own.message.keyed phase_fits reads.message iv_fits fits awaits text;
      now = refl;
    }

    can_take : (had : Option Store) (left : Members) → (answer : Answer) × (after : Members) × TakesReply had m own.message.keyed left answer after
    can_take had left = by_store had
      where
        gets_it : (answer : Answer) × (after : Members) × Gets m own.message.keyed left answer after
        gets_it = (
          Kept own.message.keyed.epoch,
          with_all left (with_store left.all m (store_made own.message.keyed)),
          record { answers = refl; now = refl },
        )

        by_age : (store : Store) (age : Bool)
            → (answer : Answer) × (after : Members)
            × MatchBool age (IsOld store own.message.keyed left answer after) (Gets m own.message.keyed left answer after)
        by_age store true = (Older store.sequence own.message.keyed.sequence, left, record { answers = refl; stays = refl })
        by_age store false = gets_it

        by_store : (had : Option Store) → (answer : Answer) × (after : Members) × TakesReply had m own.message.keyed left answer after
        by_store None = gets_it
        by_store (Some store) = by_age store (is_older store own.message.keyed)

    can_be_kept : (answer : Answer) × (after : Members) × IsKeeping m acted answer after
    can_be_kept = elim (cases_Bool gets.peer.loses) [
      | inl loses ↦ (
        Lost,
        with_mail_left (with_all acted (with_loss acted.all m false)) gets.later,
        inl (record {
          datagram = gets.octets;
          later = gets.later;
          is_first = gets.is_first;
          peer = gets.peer;
          is_there = gets.is_there;
          loses = loses;
          answers = refl;
          now = refl;
        }),
      )
      | inr comes ↦
          let takes = can_take gets.peer.store (with_mail_left (with_all acted (put acted.all told)) gets.later) in (
            takes.0,
            takes.1,
            inr (record {
              datagram = gets.octets;
              later = gets.later;
              peer = gets.peer;
              gets = record { is_first = gets.is_first; is_there = gets.is_there; comes = comes };
              keyed = own.message.keyed;
              after = told;
              told = tells_keys;
              takes = takes.2;
            }),
          )
    ]

    -- ---- it is kept

    module _ (answer : Answer) (next : Run D) (ours : (store : Store) → store_of run.members.all m ≡ Some store → IsOurs run m store) where
      stays : Stay run.members acted
      stays = stay by.members_block by.group run.members acted acts

      abbrev Goal : Type 0
      Goal = TakesOwn run gets.peer says m answer next

      -- the next datagram to the member comes
      comes_next : GoesMissing m acted answer next.members → HasPeer next m (record gets.peer { loses = false })
      comes_next goes =
          let change : Peer → Peer = λ peer. record peer { loses = false } in
          ap (λ (members : Members). peer_of members.all m) goes.now
          ∙ changed_peer change (λ peer. refl) m acted.all m
          ∙ ap (option_map (λ (peer : Peer). if is_named m peer then change peer else peer)) gets.is_there
          ∙ ap Some (cond-true (is_named m gets.peer) (change gets.peer) gets.peer (found_passes (is_named m) acted.all gets.peer gets.is_there))

      by_missing : GoesMissing m acted answer next.members → Goal
      by_missing goes =
          let same : goes.peer ≡ gets.peer = only (sym goes.is_there ∙ gets.is_there) in
          let loses : gets.peer.loses ≡ true = ap (λ (peer : Peer). peer.loses) (sym same) ∙ goes.loses in
          let lost = missing kind run acted stays m answer next goes in
          chosen gets.peer.loses ((answer ≡ Lost) × KeepsItsStore run m next × HasPeer next m (record gets.peer { loses = false })) (IsKeptAt run says m answer next)
          (λ is. (lost.0, lost.1, comes_next goes)) (λ comes. absurd (false≢true (sym comes ∙ loses)))

      kept_at : (fourth : TakesFourth m acted answer next.members) → IsKeptAt run says m answer next
      kept_at fourth =
          let octets : fourth.datagram ≡ gets.octets = ap octets_of (sym fourth.gets.is_first ∙ gets.is_first) in
          let same : fourth.peer ≡ gets.peer = only (sym fourth.gets.is_there ∙ gets.is_there) in
          let IsOne : Mail → Type 0 = λ one. (names : Option SymReply) × IsSentTo kind run.host run.members.all one.0 one.1 names in
          let sent = All-contains IsOne run.members.mail (m, gets.octets) (mail outset before run history) was in
          let phase_in : Option Peer → Option Phase1 = λ found. option_map (λ (peer : Peer). peer.phase) found in
          let phases : Some gets.peer.phase ≡ Some sent.1.peer.phase =
          sym (ap phase_in gets.is_there) ∙ stays.phases m sent.1.peer.phase (ap phase_in sent.1.is_there) in
          let phase : gets.sa.phase ≡ sent.1.peer.phase = sym gets.in_step.under ∙ under.under ∙ only phases in
          let its : IsSentTo kind run.host run.members.all m gets.octets (Some says) = record {
            peer = sent.1.peer;
            is_there = sent.1.is_there;
            message = subst (λ phase. IsFourthTo kind 0 depth spi list phase gets.octets says) phase own.message;
          } in
          let pull = fit_pull fourth.peer fourth.told.pull (subst IsReady (sym same) ready).fit fourth.told.has in
          let under_sa : fourth.told.pull.phase ≡ gets.sa.phase =
          pull.under ∙ ap (λ (peer : Peer). peer.phase) same ∙ sym under.under ∙ gets.in_step.under in
          let keyed : fourth.keyed ≡ own.message.keyed =
          laws.tells.as_written fourth.told.pull fourth.told.ended fourth.datagram own.message.keyed fourth.keyed pull.fits
          (subst (λ (x : Phase1 × List ℕ). IsSomeFourth x.0 own.message.keyed x.1) (λ i. (sym under_sa i, sym octets i)) written) fourth.told.takes in
          let its_keys = subst (λ keyed. IsKeyedOf depth spi (take says.keyed_epoch list) m keyed) (sym keyed) keys in
          let tells : Tells kind run m fourth.datagram fourth.keyed = record {
            says = says;
            number = ap (λ (reply : SymReply). reply.sequence) own.message.names;
            sent = subst (λ octets. IsSentTo kind run.host run.members.all m octets (Some says)) (sym octets) its;
            early = own.message.within;
            member = member;
            keys = its_keys;
          } in
          let reply = laws.tells.reply depth says.keyed_epoch spi list m fourth.keyed group own.message.within member its_keys in
          keeps_keys kind run acted stays m answer next fourth tells reply.1 (reply.2 ∙ sym tells.number)
          (λ store had later. laws.fresh depth says.keyed_epoch spi list m fourth.keyed store (ours store had) own.message.within later its_keys)

      by_fourth : TakesFourth m acted answer next.members → Goal
      by_fourth fourth =
          let same : fourth.peer ≡ gets.peer = only (sym fourth.gets.is_there ∙ gets.is_there) in
          let comes : gets.peer.loses ≡ false = ap (λ (peer : Peer). peer.loses) (sym same) ∙ fourth.gets.comes in
          chosen gets.peer.loses ((answer ≡ Lost) × KeepsItsStore run m next × HasPeer next m (record gets.peer { loses = false })) (IsKeptAt run says m answer next)
          (λ lost. absurd (false≢true (sym comes ∙ lost))) (λ still. kept_at fourth)

      by_kind : IsKeeping m acted answer next.members → Goal
      by_kind (inl goes) = by_missing goes
      by_kind (inr fourth) = by_fourth fourth

    takes_own : TakesOwnFourth on by before run acted m says gets
    takes_own = record {
      not_ignored = not_ignored;
      can_be_kept = can_be_kept;
      taken = λ answer outside next ours step. by_kind answer next ours step.answered.acted;
    }

  pub own_fourths : OwnFourthsAreTaken on by
  own_fourths outset before run acted m says gets history acts = takes_own outset before run acted m says gets history acts
