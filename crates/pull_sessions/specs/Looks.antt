-- What a key server finds that looks at a datagram, before it asks the policy and the group.
use Rattle.std.specs.Prelude.{◌≡◌, ◌⊎◌, ℕ, List, MatchBool, Option, None, Some, Result, Ok, Err}
use Rattle.std.specs.Str.{bytes_eq}
use Rattle.gd_wire.specs.Headers.{header}
use Rattle.gd_wire.specs.Readings.{from_start, value_of}
use Rattle.gd_wire.specs.declared.headers.Header.{Header}
use Rattle.group_terms.specs.Names.{Name}
use Rattle.group_terms.specs.declared.phases.Phase1.{Phase1}
use Rattle.group_terms.specs.declared.wires.WireFault.{WireFault}
use Rattle.pull_msgs.specs.Pulls.{Awaited, IsAnswer, first_awaited, third_awaited}
use Rattle.pull_msgs.specs.Texts.{pull_exchange}
use Rattle.pull_msgs.specs.declared.faults.PullFault.{PullFault}
use Rattle.pull_msgs.specs.declared.faults.PullFault.TheVariants as faults
use Rattle.pull_sessions.specs.declared.answers.Kept.{Kept}
use Rattle.pull_sessions.specs.declared.answers.Looked.{Looked}
use Rattle.pull_sessions.specs.declared.answers.LookedAt.{LookedAt}
use Rattle.pull_sessions.specs.declared.answers.LookedAt.TheVariants.{NewFirst, NextThird, Repeat}
use Rattle.pull_sessions.specs.declared.answers.Step.{Step}
use Rattle.pull_sessions.specs.declared.answers.Step.TheVariants as steps
use Rattle.pull_sessions.specs.declared.refusals.SessionRefusal.{SessionRefusal}
use Rattle.pull_sessions.specs.declared.refusals.SessionRefusal.TheVariants.{BadHash, Malformed, NoMemory, UnknownPeer, WrongStep}
use Rattle.pull_sessions.specs.declared.sas.Sa.{Sa}
use Rattle.pull_sessions.specs.declared.sas.Session.{Session}
use Rattle.pull_sessions.specs.Sessions.{HasSession, sa_with}

-- why a message, the first or the third, is refused that was read with this fault
abbrev pub why_not_read : ℕ → PullFault → SessionRefusal
why_not_read message (faults.Malformed fault) = Malformed message fault.at
why_not_read message (faults.BadHash carried expected) = BadHash carried expected
why_not_read message faults.NoMemory = NoMemory

-- what is found in a message that was read so
abbrev pub found_in : {A : Type 0} → ℕ → Phase1 → (A → LookedAt) → Result A PullFault → Result Looked SessionRefusal
found_in message phase what (Ok read) = Ok (record { member = phase.member; what = what read })
found_in message phase what (Err fault) = Err (why_not_read message fault)

-- a datagram is read under an SA as the message that is awaited
pub record IsRead (A B : Type 0) (message : ℕ) (phase : Phase1) (awaited : Awaited A B) (what : B → LookedAt) (datagram : List ℕ) (result : Result Looked SessionRefusal)
    : Type 0 where
  pub answer : Result B PullFault
  pub is_answer : IsAnswer phase awaited datagram answer
  pub finds : result ≡ found_in message phase what answer

-- as a first message, and as the third message of a session
abbrev pub IsReadAsFirst : Phase1 → List ℕ → Result Looked SessionRefusal → Type 0
IsReadAsFirst phase datagram result = IsRead _ _ 1 phase (first_awaited phase) NewFirst datagram result

abbrev pub IsReadAsThird : Phase1 → Session → List ℕ → Result Looked SessionRefusal → Type 0
IsReadAsThird phase session datagram result =
    IsRead _ _ 3 phase (third_awaited session.message session.iv session.ni session.nr) NextThird datagram result

-- a datagram with the message id of a session, by what that awaits
abbrev pub IsOfSession : Step → Phase1 → Session → List ℕ → Result Looked SessionRefusal → Type 0
IsOfSession steps.AwaitsThird phase session datagram result = IsReadAsThird phase session datagram result
IsOfSession steps.Queued phase session datagram result = result ≡ Err WrongStep
IsOfSession steps.Done phase session datagram result = result ≡ Err WrongStep

-- what was answered is answered again, unless out of memory for it
abbrev pub IsAgain : Phase1 → Session → Result Looked SessionRefusal → Type 0
IsAgain phase session result =
    (result ≡ Ok (record { member = phase.member; what = Repeat session.kept })) ⊎ (result ≡ Err NoMemory)

-- By the session of the SA: the datagram that it took last, one with its message id, or any other.
abbrev pub IsByState : Option Session → Phase1 → Header → List ℕ → Result Looked SessionRefusal → Type 0
IsByState None phase head datagram result = IsReadAsFirst phase datagram result
IsByState (Some session) phase head datagram result =
    MatchBool (bytes_eq datagram session.last) (IsAgain phase session result)
    (MatchBool (bytes_eq head.message session.message) (IsOfSession session.step phase session datagram result) (IsReadAsFirst phase datagram result))

-- by the SA with its cookies
abbrev pub IsByPeer : Option Sa → Header → List ℕ → Result Looked SessionRefusal → Type 0
IsByPeer None head datagram result = result ≡ Err UnknownPeer
IsByPeer (Some sa) head datagram result = IsByState sa.session sa.phase head datagram result

-- by its header, or the fault of that
abbrev pub IsByHeader : List Sa → List ℕ → Result Looked SessionRefusal → Result Header WireFault → Type 0
IsByHeader sas datagram result (Err fault) = result ≡ Err (Malformed 0 fault.at)
IsByHeader sas datagram result (Ok head) = IsByPeer (sa_with sas head.cookies) head datagram result

-- What a datagram is, by the first of these that holds: its header has a fault; no SA has its cookies; it is the one that the session took last; it has the
-- message id of a session that awaits no message. Else it is read as the message that is due, and may have a fault or another HASH.
abbrev pub IsLook : List Sa → List ℕ → Result Looked SessionRefusal → Type 0
IsLook sas datagram result = IsByHeader sas datagram result (value_of (header pull_exchange (from_start 0 datagram)))

-- the session of a member took this datagram last, and gave this answer
pub record IsAgainOf (sas : List Sa) (m : Name) (datagram : List ℕ) (answer : Kept) : Type 0 where
  pub sa : Sa
  pub session : Session
  pub has : HasSession sas m sa session
  pub same : datagram ≡ session.last
  pub answered : answer ≡ session.kept
