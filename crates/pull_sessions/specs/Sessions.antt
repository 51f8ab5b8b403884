-- The phase 1 SAs that a key server knows, in the order in which they were introduced, each with at most one session of a pull (RFC 6407 section 3).
use Rattle.std.specs.Prelude.{◌≡◌, ◌⊎◌, ℕ, ◌==◌, ◌||◌, Bool, true, false, List, [], ◌∷◌, ◌++◌, length, map, Option, None, Some, option_and_then, Result, Ok, Err, if◌then◌else◌}
use Rattle.std.specs.List.{IsDistinct, find, list_any}
use Rattle.std.specs.Str.{bytes_eq}
use Rattle.group_terms.specs.Names.{Name, same_name}
use Rattle.group_terms.specs.declared.phases.Phase1.{Phase1}
use Rattle.pull_sessions.specs.declared.answers.Step.{Step}
use Rattle.pull_sessions.specs.declared.answers.Step.TheVariants as steps
use Rattle.pull_sessions.specs.declared.refusals.SessionRefusal.{SessionRefusal}
use Rattle.pull_sessions.specs.declared.refusals.SessionRefusal.TheVariants.{NoMemory, PhaseFull, PhaseTaken}
use Rattle.pull_sessions.specs.declared.sas.Sa.{Sa}
use Rattle.pull_sessions.specs.declared.sas.Session.{Session}

-- how many SAs there may be, and the SAs
pub record Sessions : Type 0 where
  pub limit : ℕ
  pub sas : List Sa

-- ---- which SA

-- whether an SA has these cookies, and whether it is that of a member
abbrev pub has_cookies : List ℕ → Sa → Bool
has_cookies cookies sa = bytes_eq cookies sa.phase.cookies

abbrev pub is_of : Name → Sa → Bool
is_of m sa = same_name m sa.phase.member

-- the SA with these cookies, and that of a member
abbrev pub sa_with : List Sa → List ℕ → Option Sa
sa_with sas cookies = find (has_cookies cookies) sas

abbrev pub sa_of : List Sa → Name → Option Sa
sa_of sas m = find (is_of m) sas

-- the session of a member
abbrev pub session_of : List Sa → Name → Option Session
session_of sas m = option_and_then (λ (sa : Sa). sa.session) (sa_of sas m)

-- the SA of a member has this session
pub record HasSession (sas : List Sa) (m : Name) (sa : Sa) (session : Session) : Type 0 where
  pub is_there : sa_of sas m ≡ Some sa
  pub has : sa.session ≡ Some session

abbrev pub cookies_of : List Sa → List (List ℕ)
cookies_of sas = map (λ (sa : Sa). sa.phase.cookies) sas

abbrev pub members_of : List Sa → List Name
members_of sas = map (λ (sa : Sa). sa.phase.member) sas

-- no two SAs have the same cookies, and no two the same member
pub record AreApart (sas : List Sa) : Type 0 where
  pub cookies : IsDistinct bytes_eq (cookies_of sas)
  pub members : IsDistinct same_name (members_of sas)

-- ---- introductions

-- an SA has the cookies or the member of this one
abbrev pub is_taken_by : Phase1 → Sa → Bool
is_taken_by phase sa = has_cookies phase.cookies sa || is_of phase.member sa

-- the first reason that holds against one more SA
abbrev pub why_no_introduction : Sessions → Phase1 → Option SessionRefusal
why_no_introduction sessions phase =
    if list_any (is_taken_by phase) sessions.sas then Some PhaseTaken
    else (if length sessions.sas == sessions.limit then Some (PhaseFull sessions.limit) else None)

-- an SA without a session
abbrev pub new_sa : Phase1 → Sa
new_sa phase = record { phase = phase; session = None }

-- with one more SA
abbrev pub with_sa : Sessions → Phase1 → Sessions
with_sa sessions phase = record sessions { sas = sessions.sas ++ new_sa phase ∷ [] }

-- An SA is introduced, or refused by the first reason that holds; where none holds, only out of memory.
abbrev pub IsIntroduction : Sessions → Phase1 → Result (Unit {0}) SessionRefusal → Sessions → Type 0
IsIntroduction old phase (Ok done) new = (why_no_introduction old phase ≡ None) × (new ≡ with_sa old phase)
IsIntroduction old phase (Err why) new =
    ((why_no_introduction old phase ≡ Some why) ⊎ ((why_no_introduction old phase ≡ None) × (why ≡ NoMemory))) × (new ≡ old)

-- ---- what becomes of sessions

-- the SA of a member has this session now, or none
abbrev pub put_session : Name → Option Session → Sa → Sa
put_session m session sa = if is_of m sa then record sa { session = session } else sa

abbrev pub put_sessions : Name → Option Session → List Sa → List Sa
put_sessions m session sas = map (put_session m session) sas

-- the SA of a member has this session
abbrev pub with_session : Sessions → Name → Session → Sessions
with_session sessions m session = record sessions { sas = put_sessions m (Some session) sessions.sas }

-- all sessions have ended, and the SAs stay
abbrev pub sessions_ended : List Sa → List Sa
sessions_ended sas = map (λ (sa : Sa). new_sa sa.phase) sas

abbrev pub without_sessions : Sessions → Sessions
without_sessions sessions = record sessions { sas = sessions_ended sessions.sas }

-- whether a session awaits the next batch
abbrev pub is_queued : Step → Bool
is_queued steps.AwaitsThird = false
is_queued steps.Queued = true
is_queued steps.Done = false

abbrev pub has_queued : Option Session → Bool
has_queued None = false
has_queued (Some session) = is_queued session.step

-- whether a member has a session that awaits the next batch
abbrev pub is_queued_of : List Sa → Name → Bool
is_queued_of sas m = has_queued (session_of sas m)
