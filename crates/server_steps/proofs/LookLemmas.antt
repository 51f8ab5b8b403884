-- What a look at a datagram finds is of the SA whose cookies the datagram has.
use Rattle.std.proofs.Common.{◌≡◌, ◌∙◌, ℕ, Bool, true, false, List, Option, None, Some, Result, Ok, Err, refl, sym, ap, subst, inl, inr}
use Rattle.std.specs.Prelude.{MatchBool}
use Rattle.std.specs.Str.{bytes_eq}
use Rattle.std.proofs.lemmas.Bool.{cases_Bool}
use Rattle.gd_wire.specs.Headers.{header}
use Rattle.gd_wire.specs.Readings.{from_start, value_of}
use Rattle.gd_wire.specs.declared.headers.Header.{Header}
use Rattle.group_terms.specs.declared.phases.Phase1.{Phase1}
use Rattle.group_terms.specs.declared.wires.WireFault.{WireFault}
use Rattle.pull_msgs.specs.Pulls.{Awaited}
use Rattle.pull_msgs.specs.Texts.{pull_exchange}
use Rattle.pull_msgs.specs.declared.faults.PullFault.{PullFault}
use Rattle.pull_sessions.specs.Looks.{IsAgain, IsByHeader, IsByPeer, IsByState, IsLook, IsOfSession, IsRead, IsReadAsFirst, found_in}
use Rattle.pull_sessions.specs.Sessions.{sa_with}
use Rattle.pull_sessions.specs.declared.answers.Looked.{Looked}
use Rattle.pull_sessions.specs.declared.answers.LookedAt.{LookedAt}
use Rattle.pull_sessions.specs.declared.answers.LookedAt.TheVariants.{NewFirst, NextThird, Repeat}
use Rattle.pull_sessions.specs.declared.answers.Step.{Step}
use Rattle.pull_sessions.specs.declared.answers.Step.TheVariants as steps
use Rattle.pull_sessions.specs.declared.refusals.SessionRefusal.{SessionRefusal}
use Rattle.pull_sessions.specs.declared.sas.Sa.{Sa}
use Rattle.pull_sessions.specs.declared.sas.Session.{Session}

abbrev found : Looked → Result Looked SessionRefusal
found looked = Ok looked

one_found : (a b : Looked) → found a ≡ found b → a ≡ b
one_found a b e = cc

-- whether an answer is given again
abbrev pub is_repeat : LookedAt → Bool
is_repeat (Repeat given) = true
is_repeat (NewFirst first) = false
is_repeat (NextThird third) = false

-- whether a session took this datagram last
abbrev pub took_last : Option Session → List ℕ → Bool
took_last None datagram = false
took_last (Some session) datagram = bytes_eq datagram session.last

-- what was found is of this SA, and is an answer given again or not
record IsFound (looked : Looked) (phase : Phase1) (again : Bool) : Type 0 where
  own : looked.member ≡ phase.member
  repeats : is_repeat looked.what ≡ again

module _ (datagram : List ℕ) (looked : Looked) (phase : Phase1) where
  by_answer : {B : Type 0} (message : ℕ) (what : B → LookedAt) → ((read : B) → is_repeat (what read) ≡ false) → (answer : Result B PullFault)
      → Ok looked ≡ found_in message phase what answer → IsFound looked phase false
  by_answer message what new (Ok read) is =
      let same = one_found looked (record { member = phase.member; what = what read }) is in
      record { own = ap (λ (one : Looked). one.member) same; repeats = ap (λ (one : Looked). is_repeat one.what) same ∙ new read }
  by_answer message what new (Err fault) is = absurd (cc)

  its_read : (A B : Type 0) (message : ℕ) (awaited : Awaited A B) (what : B → LookedAt) → ((read : B) → is_repeat (what read) ≡ false)
      → IsRead A B message phase awaited what datagram (Ok looked) → IsFound looked phase false
  its_read A B message awaited what new is = by_answer message what new is.answer is.finds

  its_again : (session : Session) → IsAgain phase session (Ok looked) → IsFound looked phase true
  its_again session (inl is) =
      let same = one_found looked (record { member = phase.member; what = Repeat session.kept }) is in
      record { own = ap (λ (one : Looked). one.member) same; repeats = ap (λ (one : Looked). is_repeat one.what) same }
  its_again session (inr none) = absurd (cc)

  by_step : (step : Step) (session : Session) → IsOfSession step phase session datagram (Ok looked) → IsFound looked phase false
  by_step steps.AwaitsThird session is = its_read _ _ 3 _ _ (λ read. refl) is
  by_step steps.Queued session is = absurd (cc)
  by_step steps.Done session is = absurd (cc)

  -- it is not what the session took last
  abbrev ByMessage : Header → Session → Type 0
  ByMessage head session =
      MatchBool (bytes_eq head.message session.message) (IsOfSession session.step phase session datagram (Ok looked))
      (IsReadAsFirst phase datagram (Ok looked))

  by_state : (head : Header) (session : Option Session) → IsByState session phase head datagram (Ok looked)
      → IsFound looked phase (took_last session datagram)
  by_state head None is = its_read _ _ 1 _ _ (λ read. refl) is
  by_state head (Some session) is = elim (cases_Bool (bytes_eq datagram session.last)) [
    | inl same ↦
        subst (IsFound looked phase) (sym same)
        (its_again session (subst (λ b. MatchBool b (IsAgain phase session (Ok looked)) (ByMessage head session)) same is))
    | inr other ↦
        let by : ByMessage head session = subst (λ b. MatchBool b (IsAgain phase session (Ok looked)) (ByMessage head session)) other is in
        subst (IsFound looked phase) (sym other) (elim (cases_Bool (bytes_eq head.message session.message)) [
          | inl its ↦
              by_step session.step session
              (subst (λ b. MatchBool b (IsOfSession session.step phase session datagram (Ok looked)) (IsReadAsFirst phase datagram (Ok looked))) its by)
          | inr new ↦
              its_read _ _ 1 _ _ (λ read. refl)
              (subst (λ b. MatchBool b (IsOfSession session.step phase session datagram (Ok looked)) (IsReadAsFirst phase datagram (Ok looked))) new by)
        ])
  ]

-- The SA with the cookies of a datagram is that of the member that was found, whose session took this datagram last exactly where an answer is given again.
pub record IsPeer (sas : List Sa) (datagram : List ℕ) (looked : Looked) : Type 0 where
  pub head : Header
  pub has_header : value_of (header pull_exchange (from_start 0 datagram)) ≡ Ok head
  pub sa : Sa
  pub there : sa_with sas head.cookies ≡ Some sa
  pub own : looked.member ≡ sa.phase.member
  pub repeats : is_repeat looked.what ≡ took_last sa.session datagram

module _ (sas : List Sa) (datagram : List ℕ) (looked : Looked) where
  pub its_peer : IsLook sas datagram (Ok looked) → IsPeer sas datagram looked
  its_peer look = by_header (value_of (header pull_exchange (from_start 0 datagram))) refl look
    where
      by_sa : (head : Header) (one : Option Sa) → value_of (header pull_exchange (from_start 0 datagram)) ≡ Ok head → sa_with sas head.cookies ≡ one
          → IsByPeer one head datagram (Ok looked) → IsPeer sas datagram looked
      by_sa head None has there is = absurd (cc)
      by_sa head (Some sa) has there is =
          let found = by_state datagram looked sa.phase head sa.session is in
          record { head = head; has_header = has; sa = sa; there = there; own = found.own; repeats = found.repeats }

      by_header : (result : Result Header WireFault) → value_of (header pull_exchange (from_start 0 datagram)) ≡ result
          → IsByHeader sas datagram (Ok looked) result → IsPeer sas datagram looked
      by_header (Err fault) has is = absurd (cc)
      by_header (Ok head) has is = by_sa head (sa_with sas head.cookies) has refl is
