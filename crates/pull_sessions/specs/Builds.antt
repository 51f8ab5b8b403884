-- The messages that a key server makes in its sessions (RFC 6407 section 3.2), and the sessions after them.
use Rattle.std.specs.Prelude.{◌≡◌, ℕ, List, [], Option, None, Some, IsSome, option_and_then, Ok, if◌then◌else◌}
use Rattle.group_terms.specs.Names.{Name}
use Rattle.group_terms.specs.declared.paths.Keyed.{Keyed}
use Rattle.group_terms.specs.declared.phases.Phase1.{Phase1}
use Rattle.pull_msgs.specs.Pulls.{IsAnswer, first_awaited, third_awaited}
use Rattle.pull_msgs.specs.Texts.{IsPullText, fourth_message, next_iv, second_message}
use Rattle.pull_msgs.specs.declared.messages.First.{First}
use Rattle.pull_msgs.specs.declared.messages.Third.{Third}
use Rattle.sa_wire.specs.declared.policies.SaPolicy.{SaPolicy}
use Rattle.pull_sessions.specs.declared.answers.Kept.{Kept}
use Rattle.pull_sessions.specs.declared.answers.Kept.TheVariants as kept
use Rattle.pull_sessions.specs.declared.answers.Step.{Step}
use Rattle.pull_sessions.specs.declared.answers.Step.TheVariants as steps
use Rattle.pull_sessions.specs.declared.sas.Sa.{Sa}
use Rattle.pull_sessions.specs.declared.sas.Session.{Session}
use Rattle.pull_sessions.specs.Sessions.{HasSession, sa_of, session_of, is_queued}

-- ---- messages

-- the second message of the pull that a first message begins
abbrev pub IsSecondOf : Phase1 → First → List ℕ → SaPolicy → List ℕ → Type 0
IsSecondOf phase first nr policy datagram = IsPullText phase first.next_iv (second_message first.message first.ni nr policy) datagram

-- the fourth message of a session, after a third message that ends with this block
abbrev pub IsFourthOf : Phase1 → Session → List ℕ → Keyed → List ℕ → Type 0
IsFourthOf phase session iv keyed datagram = IsPullText phase iv (fourth_message session.message session.ni session.nr keyed) datagram

-- ---- sessions

-- the octets of an answer, if it is a datagram
abbrev pub octets_of : Kept → List ℕ
octets_of (kept.Datagram octets names) = octets
octets_of kept.Queued = []

-- the session that a first message begins, with this answer to it
abbrev pub begun_session : First → List ℕ → List ℕ → Kept → Session
begun_session first nr datagram answer = record {
  last = datagram;
  kept = answer;
  message = first.message;
  ni = first.ni;
  nr = nr;
  iv = next_iv (octets_of answer);
  step = steps.AwaitsThird;
}

-- what a session awaits after this answer to its third message
abbrev pub step_after : Kept → Step
step_after (kept.Datagram octets names) = steps.Done
step_after kept.Queued = steps.Queued

-- a session that took a third message, with this answer to it
abbrev pub session_after_third : Session → Third → List ℕ → Kept → Session
session_after_third session third datagram answer =
    record session { last = datagram; kept = answer; iv = third.next_iv; step = step_after answer }

-- a session that has its fourth message
abbrev pub settled_session : Session → Kept → Session
settled_session session answer = record session { kept = answer; step = steps.Done }

-- the third message of a session that awaits the next batch
abbrev pub third_held : Session → Option Third
third_held session = if is_queued session.step then Some (record { next_iv = session.iv }) else None

-- the same of the session of a member
abbrev pub third_of : List Sa → Name → Option Third
third_of sas m = option_and_then third_held (session_of sas m)

-- ---- what the calls that change sessions are given

-- reading this datagram under the SA of a member gives this first message
pub record IsFirstFrom (sas : List Sa) (m : Name) (datagram : List ℕ) (first : First) : Type 0 where
  pub sa : Sa
  pub is_there : sa_of sas m ≡ Some sa
  pub read : IsAnswer sa.phase (first_awaited sa.phase) datagram (Ok first)

-- an answer is a second message to this first one
pub record IsKeptSecond (sas : List Sa) (m : Name) (first : First) (nr : List ℕ) (answer : Kept) : Type 0 where
  pub second : List ℕ
  pub is : answer ≡ kept.Datagram second None
  pub sa : Sa
  pub is_there : sa_of sas m ≡ Some sa
  pub policy : SaPolicy
  pub kek : IsSome policy.kek
  pub tek : IsSome policy.tek
  pub is_text : IsSecondOf sa.phase first nr policy second

-- reading this datagram in the session of a member, which awaits a third message, gives this one
pub record IsThirdFrom (sas : List Sa) (m : Name) (datagram : List ℕ) (third : Third) : Type 0 where
  pub sa : Sa
  pub session : Session
  pub has : HasSession sas m sa session
  pub awaits : session.step ≡ steps.AwaitsThird
  pub read : IsAnswer sa.phase (third_awaited session.message session.iv session.ni session.nr) datagram (Ok third)

-- an answer is a datagram
abbrev pub IsDatagram : Kept → Type 0
IsDatagram (kept.Datagram octets names) = Unit {0}
IsDatagram kept.Queued = ⊥
