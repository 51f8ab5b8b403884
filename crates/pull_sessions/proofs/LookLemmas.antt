-- What is known where a look finds something.
use Rattle.std.proofs.Common.{◌≡◌, ◌⊎◌, ℕ, Bool, true, false, ◌||◌, List, [], ◌∷◌, Option, None, Some, Result, Ok, Err, cond, map, refl, sym, ap, ◌∙◌, subst, inl, inr}
use Rattle.std.specs.Prelude.{MatchBool}
use Rattle.std.specs.List.{IsDistinct, find, list_any}
use Rattle.std.specs.Str.{bytes_eq}
use Rattle.std.proofs.lemmas.Bool.{cases_Bool, false≢true, cond-true, cond-false}
use Rattle.std.proofs.lemmas.Map.Keys.{IsDistinct-tail}
use Rattle.gd_wire.specs.Headers.{header}
use Rattle.gd_wire.specs.Readings.{from_start, value_of}
use Rattle.gd_wire.specs.declared.headers.Header.{Header}
use Rattle.group_terms.specs.Names.{Name}
use Rattle.group_terms.specs.declared.phases.Phase1.{Phase1}
use Rattle.group_terms.specs.declared.wires.WireFault.{WireFault}
use Rattle.pull_msgs.specs.Pulls.{IsAnswer, first_awaited, third_awaited}
use Rattle.pull_msgs.specs.Texts.{pull_exchange}
use Rattle.pull_msgs.specs.declared.faults.PullFault.{PullFault}
use Rattle.pull_msgs.specs.declared.messages.First.{First}
use Rattle.pull_msgs.specs.declared.messages.Third.{Third}
use Rattle.pull_sessions.specs.Builds.{IsFirstFrom, IsThirdFrom}
use Rattle.pull_sessions.specs.Looks.{IsAgain, IsAgainOf, IsByHeader, IsByPeer, IsByState, IsLook, IsOfSession, IsReadAsFirst, IsReadAsThird, found_in}
use Rattle.pull_sessions.specs.Sessions.{AreApart, HasSession, has_cookies, is_of, members_of, sa_of, sa_with}
use Rattle.pull_sessions.specs.declared.answers.Kept.{Kept}
use Rattle.pull_sessions.specs.declared.answers.Looked.{Looked}
use Rattle.pull_sessions.specs.declared.answers.LookedAt.{LookedAt}
use Rattle.pull_sessions.specs.declared.answers.LookedAt.TheVariants.{NewFirst, NextThird, Repeat}
use Rattle.pull_sessions.specs.declared.answers.Step.{Step}
use Rattle.pull_sessions.specs.declared.answers.Step.TheVariants as steps
use Rattle.pull_sessions.specs.declared.refusals.SessionRefusal.{SessionRefusal}
use Rattle.pull_sessions.specs.declared.sas.Sa.{Sa}
use Rattle.pull_sessions.specs.declared.sas.Session.{Session}
use Rattle.pull_sessions.proofs.IndexLemmas.{bytes_eq-is, bytes_eq-self}
use Rattle.pull_sessions.proofs.SaLemmas.{found_elsewhere}

-- an SA that is found is the one of its member
pub its_own : (p : Sa → Bool) (sas : List Sa) (sa : Sa) → IsDistinct bytes_eq (members_of sas) → find p sas ≡ Some sa → sa_of sas sa.phase.member ≡ Some sa
its_own p [] sa apart is = absurd (cc)
its_own p (first ∷ sas) sa apart is = elim (cases_Bool (p first)) [
  | inl here ↦
      let same : first ≡ sa = only (sym (cond-true (p first) (Some first) (find p sas) here) ∙ is) in
      let itself : is_of sa.phase.member first ≡ true = subst (λ (sa : Sa). is_of sa.phase.member first ≡ true) same (bytes_eq-self first.phase.member) in
      cond-true (is_of sa.phase.member first) (Some first) (find (is_of sa.phase.member) sas) itself ∙ ap Some same
  | inr other ↦
      let later = its_own p sas sa (IsDistinct-tail bytes_eq first.phase.member (members_of sas) apart)
      (sym (cond-false (p first) (Some first) (find p sas) other) ∙ is) in
      cond-false (is_of sa.phase.member first) (Some first) (find (is_of sa.phase.member) sas) (found_elsewhere first sas sa.phase.member sa apart later) ∙ later
]
  where
    only : {a b : Sa} → Some a ≡ Some b → a ≡ b
    only e = cc

-- an SA has the cookies, and its state decides
record IsUnder (sas : List Sa) (datagram : List ℕ) (looked : Looked) : Type 0 where
  head : Header
  sa : Sa
  is_there : sa_with sas head.cookies ≡ Some sa
  state : IsByState sa.session sa.phase head datagram (Ok looked)

module _ (sas : List Sa) (datagram : List ℕ) (looked : Looked) where
  under_peer : (head : Header) (found : Option Sa) → sa_with sas head.cookies ≡ found → IsByPeer found head datagram (Ok looked) → IsUnder sas datagram looked
  under_peer head None is by = absurd (cc)
  under_peer head (Some sa) is by = record { head = head; sa = sa; is_there = is; state = by }

  under_header : (found : Result Header WireFault) → IsByHeader sas datagram (Ok looked) found → IsUnder sas datagram looked
  under_header (Err fault) by = absurd (cc)
  under_header (Ok head) by = under_peer head (sa_with sas head.cookies) refl by

  under : IsLook sas datagram (Ok looked) → IsUnder sas datagram looked
  under look = under_header (value_of (header pull_exchange (from_start 0 datagram))) look

-- what was found by the state of an SA: a first message, the answer again, or the third message that is awaited
data Ways (datagram : List ℕ) (looked : Looked) (phase : Phase1) (session : Option Session) : Type 0 where
  as_first : IsReadAsFirst phase datagram (Ok looked) → Ways datagram looked phase session
  again : (had : Session) → session ≡ Some had → datagram ≡ had.last → IsAgain phase had (Ok looked) → Ways datagram looked phase session
  as_third : (had : Session) → session ≡ Some had → had.step ≡ steps.AwaitsThird → IsReadAsThird phase had datagram (Ok looked) → Ways datagram looked phase session

module _ (datagram : List ℕ) (looked : Looked) (phase : Phase1) (head : Header) where
  by_step : (had : Session) (step : Step) → had.step ≡ step → IsOfSession step phase had datagram (Ok looked) → Ways datagram looked phase (Some had)
  by_step had steps.AwaitsThird is of = as_third had refl is of
  by_step had steps.Queued is of = absurd (cc)
  by_step had steps.Done is of = absurd (cc)

  -- it is not what the session took last
  abbrev ByMessage : Session → Type 0
  ByMessage had = MatchBool (bytes_eq head.message had.message) (IsOfSession had.step phase had datagram (Ok looked)) (IsReadAsFirst phase datagram (Ok looked))

  by_state : (session : Option Session) → IsByState session phase head datagram (Ok looked) → Ways datagram looked phase session
  by_state None state = as_first state
  by_state (Some had) state = elim (cases_Bool (bytes_eq datagram had.last)) [
    | inl same ↦ again had refl (bytes_eq-is datagram had.last same) (subst (λ b. MatchBool b (IsAgain phase had (Ok looked)) (ByMessage had)) same state)
    | inr other ↦
        let by : ByMessage had = subst (λ b. MatchBool b (IsAgain phase had (Ok looked)) (ByMessage had)) other state in
        elim (cases_Bool (bytes_eq head.message had.message)) [
          | inl its ↦ by_step had had.step refl (subst (λ b. MatchBool b (IsOfSession had.step phase had datagram (Ok looked)) (IsReadAsFirst phase datagram (Ok looked))) its by)
          | inr new ↦ as_first (subst (λ b. MatchBool b (IsOfSession had.step phase had datagram (Ok looked)) (IsReadAsFirst phase datagram (Ok looked))) new by)
        ]
  ]

abbrev found : Looked → Result Looked SessionRefusal
found looked = Ok looked

-- what was found is one thing
one_found : (a b : Looked) → found a ≡ found b → a ≡ b
one_found a b e = cc

-- what a message gave that was found
read_is : {B : Type 0} (message : ℕ) (phase : Phase1) (what : B → LookedAt) (looked : Looked) (answer : Result B PullFault)
    → Ok looked ≡ found_in message phase what answer → (read : B) × (answer ≡ Ok read) × (looked.member ≡ phase.member) × (looked.what ≡ what read)
read_is message phase what looked (Err fault) is = absurd (cc)
read_is message phase what looked (Ok read) is =
    let same = one_found looked (record { member = phase.member; what = what read }) is in
    (read, refl, ap (λ (looked : Looked). looked.member) same, ap (λ (looked : Looked). looked.what) same)

what_is : (a b : Looked) → found a ≡ found b → a.what ≡ b.what
what_is a b e = ap (λ (looked : Looked). looked.what) (one_found a b e)

module _ (sas : List Sa) (m : Name) (datagram : List ℕ) (apart : AreApart sas) (sa : Sa) (cookies : List ℕ) (is_there : sa_with sas cookies ≡ Some sa) where
  -- the SA is that of the member
  there : m ≡ sa.phase.member → sa_of sas m ≡ Some sa
  there own = ap (sa_of sas) own ∙ its_own (has_cookies cookies) sas sa apart.members is_there

  first_of : (first : First) → Ways datagram (record { member = m; what = NewFirst first }) sa.phase sa.session → IsFirstFrom sas m datagram first
  first_of first (as_first read) =
      let found = read_is 1 sa.phase NewFirst (record { member = m; what = NewFirst first }) read.answer read.finds in
      let same : found.0 ≡ first = its found.3 in
      record {
        sa = sa;
        is_there = there found.2;
        read = subst (IsAnswer sa.phase (first_awaited sa.phase) datagram) (found.1 ∙ ap Ok same) read.is_answer;
      }
    where
      its : {a b : First} → NewFirst a ≡ NewFirst b → b ≡ a
      its e = cc
  first_of first (again had is same (inl e)) = absurd (differ (what_is _ _ e))
    where
      differ : {kept : Kept} → NewFirst first ≡ Repeat kept → ⊥
      differ e = cc
  first_of first (again had is same (inr e)) = absurd (cc)
  first_of first (as_third had is awaits read) =
      absurd (differ (read_is 3 sa.phase NextThird (record { member = m; what = NewFirst first }) read.answer read.finds).3)
    where
      differ : {third : Third} → NewFirst first ≡ NextThird third → ⊥
      differ e = cc

  third_of_ways : (third : Third) → Ways datagram (record { member = m; what = NextThird third }) sa.phase sa.session → IsThirdFrom sas m datagram third
  third_of_ways third (as_first read) =
      absurd (differ (read_is 1 sa.phase NewFirst (record { member = m; what = NextThird third }) read.answer read.finds).3)
    where
      differ : {first : First} → NextThird third ≡ NewFirst first → ⊥
      differ e = cc
  third_of_ways third (again had is same (inl e)) = absurd (differ (what_is _ _ e))
    where
      differ : {kept : Kept} → NextThird third ≡ Repeat kept → ⊥
      differ e = cc
  third_of_ways third (again had is same (inr e)) = absurd (cc)
  third_of_ways third (as_third had is awaits read) =
      let found = read_is 3 sa.phase NextThird (record { member = m; what = NextThird third }) read.answer read.finds in
      let same : found.0 ≡ third = its found.3 in
      record {
        sa = sa;
        session = had;
        has = record { is_there = there found.2; has = is };
        awaits = awaits;
        read = subst (IsAnswer sa.phase (third_awaited had.message had.iv had.ni had.nr) datagram) (found.1 ∙ ap Ok same) read.is_answer;
      }
    where
      its : {a b : Third} → NextThird a ≡ NextThird b → b ≡ a
      its e = cc

  again_of : (kept : Kept) → Ways datagram (record { member = m; what = Repeat kept }) sa.phase sa.session → IsAgainOf sas m datagram kept
  again_of kept (as_first read) =
      absurd (differ (read_is 1 sa.phase NewFirst (record { member = m; what = Repeat kept }) read.answer read.finds).3)
    where
      differ : {first : First} → Repeat kept ≡ NewFirst first → ⊥
      differ e = cc
  again_of kept (again had is same (inl e)) = record {
    sa = sa;
    session = had;
    has = record { is_there = there (ap (λ (looked : Looked). looked.member) (one_found _ _ e)); has = is };
    same = same;
    answered = its (what_is _ _ e);
  }
    where
      its : {a b : Kept} → Repeat a ≡ Repeat b → a ≡ b
      its e = cc
  again_of kept (again had is same (inr e)) = absurd (cc)
  again_of kept (as_third had is awaits read) =
      absurd (differ (read_is 3 sa.phase NextThird (record { member = m; what = Repeat kept }) read.answer read.finds).3)
    where
      differ : {third : Third} → Repeat kept ≡ NextThird third → ⊥
      differ e = cc

module _ (sas : List Sa) (m : Name) (datagram : List ℕ) (apart : AreApart sas) where
  pub first_found : (first : First) → IsLook sas datagram (Ok (record { member = m; what = NewFirst first })) → IsFirstFrom sas m datagram first
  first_found first look =
      let looked : Looked = record { member = m; what = NewFirst first } in
      let at = under sas datagram looked look in
      first_of sas m datagram apart at.sa at.head.cookies at.is_there first (by_state datagram looked at.sa.phase at.head at.sa.session at.state)

  pub third_found : (third : Third) → IsLook sas datagram (Ok (record { member = m; what = NextThird third })) → IsThirdFrom sas m datagram third
  third_found third look =
      let looked : Looked = record { member = m; what = NextThird third } in
      let at = under sas datagram looked look in
      third_of_ways sas m datagram apart at.sa at.head.cookies at.is_there third (by_state datagram looked at.sa.phase at.head at.sa.session at.state)

  pub again_found : (kept : Kept) → IsLook sas datagram (Ok (record { member = m; what = Repeat kept })) → IsAgainOf sas m datagram kept
  again_found kept look =
      let looked : Looked = record { member = m; what = Repeat kept } in
      let at = under sas datagram looked look in
      again_of sas m datagram apart at.sa at.head.cookies at.is_there kept (by_state datagram looked at.sa.phase at.head at.sa.session at.state)
