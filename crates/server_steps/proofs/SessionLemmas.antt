-- Sessions that await a batch, and what they keep of it.
use Rattle.std.proofs.Common.{◌≡◌, ◌∙◌, ℕ, Bool, true, false, List, [], ◌∷◌, length, map, Option, None, Some, Result, Ok, Err, refl, sym, ap, subst}
use Rattle.std.specs.Prelude.{IfOk, IsSome, is_some, option_and_then, option_map, if◌then◌else◌}
use Rattle.std.specs.List.{AllByRecursion, IsDistinct}
use Rattle.std.proofs.lemmas.Slice.Eq.{bytes_eq-Decides}
use Rattle.group_terms.specs.Names.{Name, same_name}
use Rattle.group_terms.specs.declared.paths.Keyed.{Keyed}
use Rattle.group_model.specs.declared.entries.SentReply.{SentReply}
use Rattle.pull_msgs.specs.declared.messages.Third.{Third}
use Rattle.pull_sessions.specs.Builds.{IsFourthOf, settled_session, third_held, third_of}
use Rattle.pull_sessions.specs.Sessions.{AreApart, HasSession, Sessions, has_queued, is_of, is_queued, is_queued_of, members_of, sa_of, session_of}
use Rattle.pull_sessions.specs.Sessions.{with_session}
use Rattle.pull_sessions.specs.declared.answers.Kept.{Kept}
use Rattle.pull_sessions.specs.declared.answers.Kept.TheVariants as kept
use Rattle.pull_sessions.specs.declared.sas.Sa.{Sa}
use Rattle.pull_sessions.specs.declared.sas.Session.{Session}
use Rattle.server_steps.specs.Fourths.{reply_to, settle, settled, settled_by, settled_in}
use Rattle.server_steps.specs.Private.Told.{AreDatagrams, IsDatagramTo, change_session, kept_of, settled_all, settled_one, settled_with}

-- ---- who awaits the batch

-- the third message that a session keeps
abbrev third_now : Session → Third
third_now session = record { next_iv = session.iv }

module _ (sas : List Sa) (m : Name) where
  pub session_is : (sa : Sa) (session : Session) → HasSession sas m sa session → session_of sas m ≡ Some session
  session_is sa session has = ap (option_and_then (λ (sa : Sa). sa.session)) has.is_there ∙ has.has

  abbrev Awaits : Type 0
  Awaits = (sa : Sa) × (session : Session) × HasSession sas m sa session × (is_queued session.step ≡ true)

  -- who does has a session
  pub queued_session : is_queued_of sas m ≡ true → Awaits
  queued_session queued = by_sa (sa_of sas m) refl queued
    where
      by_session : (sa : Sa) → sa_of sas m ≡ Some sa → (held : Option Session) → sa.session ≡ held → has_queued held ≡ true → Awaits
      by_session sa there None has queued = absurd (cc queued)
      by_session sa there (Some session) has queued = (sa, session, record { is_there = there; has = has }, queued)

      by_sa : (found : Option Sa) → sa_of sas m ≡ found → has_queued (option_and_then (λ (sa : Sa). sa.session) found) ≡ true → Awaits
      by_sa None there queued = absurd (cc queued)
      by_sa (Some sa) there queued = by_session sa there sa.session refl queued

  -- a session that has a third message awaits the batch
  record IsHeld (third : Third) : Type 0 where
    session : Session
    is_there : session_of sas m ≡ Some session
    queued : is_queued session.step ≡ true
    iv : third.next_iv ≡ session.iv

  abbrev iv_or_none : Option Third → List ℕ
  iv_or_none None = []
  iv_or_none (Some third) = third.next_iv

  held : (third : Third) → third_of sas m ≡ Some third → IsHeld third
  held third is = by_session (session_of sas m) refl is
    where
      by_step : (session : Session) → session_of sas m ≡ Some session → (b : Bool) → is_queued session.step ≡ b
          → (if b then Some (third_now session) else None) ≡ Some third → IsHeld third
      by_step session there true queued is = record { session = session; is_there = there; queued = queued; iv = sym (ap iv_or_none is) }
      by_step session there false queued is = absurd (cc is)

      by_session : (found : Option Session) → session_of sas m ≡ found → option_and_then third_held found ≡ Some third → IsHeld third
      by_session None there is = absurd (cc is)
      by_session (Some session) there is = by_step session there (is_queued session.step) refl is

  held_queued : (third : Third) → third_of sas m ≡ Some third → is_queued_of sas m ≡ true
  held_queued third is = let on = held third is in ap has_queued on.is_there ∙ on.queued

  -- where there is none, no session does
  not_held : third_of sas m ≡ None → is_queued_of sas m ≡ false
  not_held is = by_session (session_of sas m) is
    where
      by_step : (session : Session) (b : Bool) → (if b then Some (third_now session) else None) ≡ None → b ≡ false
      by_step session true is = absurd (cc is)
      by_step session false is = refl

      by_session : (found : Option Session) → option_and_then third_held found ≡ None → has_queued found ≡ false
      by_session None is = refl
      by_session (Some session) is = by_step session (is_queued session.step) is

  -- ---- the datagram of a reply

  -- a fourth message can be made
  pub has_session : (third : Third) → Some third ≡ third_of sas m → IsSome (session_of sas m)
  has_session third is = let on = held third (sym is) in subst IsSome (sym on.is_there) refl

  -- it is made
  pub fourth_sent : {E : Type 0} (keyed : Keyed) (third : Third) (result : Result (List ℕ) E) → Some third ≡ third_of sas m
      → ((sa : Sa) (session : Session) → HasSession sas m sa session → IfOk result (IsFourthOf sa.phase session third.next_iv keyed))
      → IfOk result (IsDatagramTo sas (m, keyed))
  fourth_sent keyed third (Err why) is made = tt
  fourth_sent keyed third (Ok datagram) is made =
      let on = held third (sym is) in
      record {
        fourth = λ sa session has queued.
            let same = on.iv ∙ ap iv_of (sym on.is_there ∙ session_is sa session has) in
            subst (λ iv. IsFourthOf sa.phase session iv keyed datagram) same (made sa session has);
        none = λ off. absurd (cc (sym off ∙ held_queued third (sym is)));
      }
    where
      iv_of : Option Session → List ℕ
      iv_of None = []
      iv_of (Some session) = session.iv

  -- none is made
  pub nothing_sent : (keyed : Keyed) (datagram : List ℕ) → datagram ≡ [] → None ≡ third_of sas m → IsDatagramTo sas (m, keyed) datagram
  nothing_sent keyed datagram empty none = record {
    fourth = λ sa session has queued. absurd (cc (sym (not_held (sym none)) ∙ ap has_queued (session_is sa session has) ∙ queued));
    none = λ off. empty;
  }

  -- ---- whether there is a third message

  pub queued_there : (result : Option Third) → result ≡ third_of sas m → is_some result ≡ true → is_queued_of sas m ≡ true
  queued_there None is some = absurd (cc some)
  queued_there (Some third) is some = held_queued third (sym is)

  pub queued_not : (result : Option Third) → result ≡ third_of sas m → is_some result ≡ false → is_queued_of sas m ≡ false
  queued_not None is some = not_held (sym is)
  queued_not (Some third) is some = absurd (cc some)

-- ---- another session

module _ (m : Name) where
  -- SAs of other members stay
  untouched : (change : Option Session → Option Session) (sas : List Sa) → AllByRecursion (λ other. same_name m other ≡ false) (members_of sas)
      → map (change_session m change) sas ≡ sas
  untouched change [] others = refl
  untouched change (sa ∷ sas) others =
      let first = ap (λ (b : Bool). if b then record sa { session = change sa.session } else sa) others.0 in
      let rest = untouched change sas others.1 in
      λ i. first i ∷ rest i

  -- one SA before others
  changed_first : (change : Option Session → Option Session) (sa : Sa) (sas : List Sa)
      → AllByRecursion (λ other. same_name sa.phase.member other ≡ false) (members_of sas)
      → map (change_session m change) sas ≡ map (change_session m (λ old. change (session_of sas m))) sas
      → map (change_session m change) (sa ∷ sas) ≡ map (change_session m (λ old. change (session_of (sa ∷ sas) m))) (sa ∷ sas)
  changed_first change sa sas apart later = by_test (is_of m sa) refl
    where
      by_test : (b : Bool) → is_of m sa ≡ b
          → map (change_session m change) (sa ∷ sas) ≡ map (change_session m (λ old. change (session_of (sa ∷ sas) m))) (sa ∷ sas)
      by_test true here =
          let found = ap (λ (b : Bool). option_and_then (λ (sa : Sa). sa.session) (if b then Some sa else sa_of sas m)) here in
          let first = ap (λ session. if is_of m sa then record sa { session = change session } else sa) (sym found) in
          let same = sym ((bytes_eq-Decides m sa.phase.member).0 here) in
          let others = subst (λ n. AllByRecursion (λ other. same_name n other ≡ false) (members_of sas)) same apart in
          let rest = untouched change sas others ∙ sym (untouched (λ old. change (session_of (sa ∷ sas) m)) sas others) in
          λ i. first i ∷ rest i
      by_test false other =
          let found = ap (λ (b : Bool). option_and_then (λ (sa : Sa). sa.session) (if b then Some sa else sa_of sas m)) other in
          let first = ap (λ (b : Bool). if b then record sa { session = change sa.session } else sa) other
          ∙ sym (ap (λ (b : Bool). if b then record sa { session = change (session_of (sa ∷ sas) m) } else sa) other) in
          let rest = later ∙ ap (λ session. map (change_session m (λ old. change session)) sas) (sym found) in
          λ i. first i ∷ rest i

  -- only one SA is that of a member
  changed_there : (change : Option Session → Option Session) (sas : List Sa) → IsDistinct same_name (members_of sas)
      → map (change_session m change) sas ≡ map (change_session m (λ old. change (session_of sas m))) sas
  unfolding IsDistinct
  changed_there change [] apart = refl
  changed_there change (sa ∷ sas) apart = changed_first change sa sas apart.0 (changed_there change sas apart.1)

  -- where the session of a member stays, all stays
  same_sessions : (sas : List Sa) → map (change_session m (λ old. old)) sas ≡ sas
  same_sessions [] = refl
  same_sessions (sa ∷ sas) =
      let first = same (is_of m sa) sa in
      let rest = same_sessions sas in
      λ i. first i ∷ rest i
    where
      same : (b : Bool) (sa : Sa) → (if b then record sa { session = sa.session } else sa) ≡ sa
      same true sa = refl
      same false sa = refl

-- ---- a session that has its answer

module _ (sessions : Sessions) (m : Name) (answer : Kept) (apart : AreApart sessions.sas) where
  -- it awaited the batch
  pub settled_there : (new : Sessions) → is_queued_of sessions.sas m ≡ true
      → ((sa : Sa) (session : Session) → HasSession sessions.sas m sa session → new ≡ with_session sessions m (settled_session session answer))
      → new ≡ settled_one sessions (m, answer)
  settled_there new queued settles =
      let awaits = queued_session sessions.sas m queued in
      let session : Session = awaits.1 in
      let change : Option Session → Option Session = option_map (settled_with answer) in
      let is : change (session_of sessions.sas m) ≡ Some (settled_session session answer) =
      ap change (session_is sessions.sas m awaits.0 session awaits.2) ∙ ap (λ (b : Bool). Some (if b then settled_session session answer else session)) awaits.3 in
      settles awaits.0 session awaits.2
      ∙ sym (ap (λ sas. record sessions { sas = sas }) (changed_there m change sessions.sas apart.members
      ∙ ap (λ session. map (change_session m (λ old. session)) sessions.sas) is))

  -- it did not
  pub settled_not : is_queued_of sessions.sas m ≡ false → sessions ≡ settled_one sessions (m, answer)
  settled_not queued =
      let change : Option Session → Option Session = option_map (settled_with answer) in
      sym (ap (λ sas. record sessions { sas = sas }) (changed_there m change sessions.sas apart.members
      ∙ ap (λ session. map (change_session m (λ old. session)) sessions.sas) (stays (session_of sessions.sas m) queued)
      ∙ sym (changed_there m (λ old. old) sessions.sas apart.members)
      ∙ same_sessions m sessions.sas))
    where
      stays : (session : Option Session) → has_queued session ≡ false → option_map (settled_with answer) session ≡ session
      stays None queued = refl
      stays (Some session) queued = ap (λ (b : Bool). Some (if b then settled_session session answer else session)) queued

-- ---- all sessions of a batch

-- one reply more
settle_more : (reply : SentReply) (replies : List SentReply) (sa : Sa)
    → settle replies (change_session reply.says.member (option_map (settled_with (kept.Datagram reply.datagram (Some reply.says)))) sa)
    ≡ settle (reply ∷ replies) sa
settle_more reply replies sa = by_test (is_of reply.says.member sa)
  where
    by_step : (session : Session) (b : Bool) → is_queued session.step ≡ b
        → settled_in replies sa.phase.member (if b then settled_session session (kept.Datagram reply.datagram (Some reply.says)) else session)
        ≡ (if b then settled_session session (kept.Datagram reply.datagram (Some reply.says)) else session)
    by_step session true queued = refl
    by_step session false queued = ap (λ (b : Bool). if b then settled_by session (reply_to replies sa.phase.member) else session) queued

    twice : (session : Option Session)
        → option_map (settled_in replies sa.phase.member) (option_map (settled_with (kept.Datagram reply.datagram (Some reply.says))) session)
        ≡ option_map (settled_with (kept.Datagram reply.datagram (Some reply.says))) session
    twice None = refl
    twice (Some session) = ap Some (by_step session (is_queued session.step) refl)

    by_test : (b : Bool)
        → settle replies (if b then record sa { session = option_map (settled_with (kept.Datagram reply.datagram (Some reply.says))) sa.session } else sa)
        ≡ record sa {
          session = option_map (λ (session : Session).
              if is_queued session.step then settled_by session (if b then Some reply else reply_to replies sa.phase.member) else session) sa.session;
        }
    by_test true = ap (λ session. record sa { session = session }) (twice sa.session)
    by_test false = refl

settle_each : (reply : SentReply) (replies : List SentReply) (sas : List Sa)
    → map (settle replies) (map (change_session reply.says.member (option_map (settled_with (kept.Datagram reply.datagram (Some reply.says))))) sas)
    ≡ map (settle (reply ∷ replies)) sas
settle_each reply replies [] = refl
settle_each reply replies (sa ∷ sas) =
    let first = settle_more reply replies sa in
    let rest = settle_each reply replies sas in
    λ i. first i ∷ rest i

-- without a reply all stays
settle_none : (sas : List Sa) → map (settle []) sas ≡ sas
settle_none [] = refl
settle_none (sa ∷ sas) =
    let first = ap (λ session. record sa { session = session }) (stays sa.session) in
    let rest = settle_none sas in
    λ i. first i ∷ rest i
  where
    same : (session : Session) (b : Bool) → (if b then session else session) ≡ session
    same session true = refl
    same session false = refl

    stays : (session : Option Session) → option_map (settled_in [] sa.phase.member) session ≡ session
    stays None = refl
    stays (Some session) = ap Some (same session (is_queued session.step))

-- the answers of some replies, in turn
pub all_settled : (sessions : Sessions) (replies : List SentReply) → settled_all sessions (map kept_of replies) ≡ settled sessions replies
all_settled sessions [] = sym (ap (λ sas. record sessions { sas = sas }) (settle_none sessions.sas))
all_settled sessions (reply ∷ replies) =
    all_settled (settled_one sessions (kept_of reply)) replies ∙ ap (λ sas. record sessions { sas = sas }) (settle_each reply replies sessions.sas)

-- they are datagrams
pub all_datagrams : (answers : List (Name × Kept)) (replies : List SentReply) → answers ≡ map kept_of replies → AreDatagrams answers
all_datagrams answers replies is = subst AreDatagrams (sym is) (each replies)
  where
    each : (replies : List SentReply) → AreDatagrams (map kept_of replies)
    each [] = tt
    each (reply ∷ replies) = (tt, each replies)

-- ---- answers that are left

pub nothing_left : {X : Type 0} (items : List X) → length items ≡ 0 → items ≡ []
nothing_left [] none = refl
nothing_left (item ∷ items) none = absurd (cc none)
