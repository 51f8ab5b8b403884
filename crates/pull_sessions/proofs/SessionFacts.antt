-- What the definitions of sessions tell apart: a session that is done and tests one more message, a datagram that comes again and begins a new pull, a session
-- that stays where another one is put, and one that is put at another member.
use Rattle.std.proofs.Common.{◌≡◌, ℕ, List, [], ◌∷◌, Option, Some, Result, Ok, Err, ap, inl, inr, refl, subst, arith}
use Rattle.std.specs.Prelude.{MatchBool, codes}
use Rattle.std.specs.Str.{bytes_eq}
use Rattle.gd_wire.specs.declared.headers.Header.{Header}
use Rattle.group_terms.specs.declared.phases.Phase1.{Phase1}
use Rattle.pull_msgs.specs.declared.messages.First.{First}
use Rattle.pull_sessions.specs.declared.answers.Looked.{Looked}
use Rattle.pull_sessions.specs.declared.answers.LookedAt.{LookedAt}
use Rattle.pull_sessions.specs.declared.answers.LookedAt.TheVariants.{NewFirst, NextThird, Repeat}
use Rattle.pull_sessions.specs.declared.answers.Step.TheVariants as steps
use Rattle.pull_sessions.specs.declared.refusals.SessionRefusal.{SessionRefusal}
use Rattle.pull_sessions.specs.declared.refusals.SessionRefusal.TheVariants.{BadHash, WrongStep}
use Rattle.pull_sessions.specs.declared.sas.Sa.{Sa}
use Rattle.pull_sessions.specs.declared.sas.Session.{Session}
use Rattle.pull_sessions.specs.Looks.{IsAgain, IsByState, IsOfSession, IsReadAsFirst}
use Rattle.pull_sessions.specs.Sessions.{put_sessions}
use Rattle.pull_sessions.proofs.IndexLemmas.{bytes_eq-self}

-- what is found, by a number: a new pull, another message, the wrong step, or another refusal
abbrev kind_of : LookedAt → ℕ
kind_of (NewFirst first) = 0
kind_of (NextThird third) = 1
kind_of (Repeat kept) = 1

abbrev kind_in : Result Looked SessionRefusal → ℕ
kind_in (Ok looked) = kind_of looked.what
kind_in (Err WrongStep) = 2
kind_in (Err why) = 3

-- a session that awaits nothing tests no HASH of a datagram with its message id, nor does one that awaits the batch
done_tests_no_hash : (phase : Phase1) (session : Session) (datagram carried expected : List ℕ)
    → IsOfSession steps.Done phase session datagram (Err (BadHash carried expected)) → ⊥
done_tests_no_hash phase session datagram carried expected is =
    let same : 3 ≡ 2 = ap kind_in is in
    absurd (omega (arith, same))

queued_tests_no_hash : (phase : Phase1) (session : Session) (datagram carried expected : List ℕ)
    → IsOfSession steps.Queued phase session datagram (Err (BadHash carried expected)) → ⊥
queued_tests_no_hash phase session datagram carried expected is =
    let same : 3 ≡ 2 = ap kind_in is in
    absurd (omega (arith, same))

-- the datagram that a session took last begins no pull
module _ (phase : Phase1) (head : Header) (session : Session) (first : First) where
  abbrev begins : Result Looked SessionRefusal
  begins = Ok (record { member = phase.member; what = NewFirst first })

  no_answer_begins : IsAgain phase session begins → ⊥
  no_answer_begins (inl is) =
      let same : 0 ≡ 1 = ap kind_in is in
      absurd (omega (arith, same))
  no_answer_begins (inr short) =
      let same : 0 ≡ 3 = ap kind_in short in
      absurd (omega (arith, same))

  repeat_begins_no_pull : IsByState (Some session) phase head session.last begins → ⊥
  repeat_begins_no_pull is =
      no_answer_begins
      (subst
      (λ same. MatchBool same (IsAgain phase session begins)
      (MatchBool (bytes_eq head.message session.message) (IsOfSession session.step phase session session.last begins)
      (IsReadAsFirst phase session.last begins)))
      (bytes_eq-self session.last) is)

-- SAs of two members: the session that is put takes the place of its own, and of no other
abbrev sa_of_one : List ℕ → Option Session → Sa
sa_of_one name session = record {
  phase = record { member = name; cookies = name; skeyid_a = []; key = []; last = [] };
  session = session;
}

abbrev two : Option Session → Option Session → List Sa
two first second = sa_of_one (codes "a") first ∷ sa_of_one (codes "b") second ∷ []

put_takes_its_own_place : (first second new : Option Session) → put_sessions (codes "b") new (two first second) ≡ two first new
put_takes_its_own_place first second new = refl

put_leaves_the_other : (first second new : Option Session) → put_sessions (codes "a") new (two first second) ≡ two new second
put_leaves_the_other first second new = refl
