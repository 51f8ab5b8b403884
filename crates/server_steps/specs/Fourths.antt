-- What a batch makes of sessions. Who is no member waits for a batch by our choice; then its session gets its fourth message (RFC 6407 section 3.2).
use Rattle.std.specs.Prelude.{◌≡◌, ℕ, List, map, Option, None, Some, option_map, if◌then◌else◌}
use Rattle.std.specs.List.{find}
use Rattle.group_terms.specs.Names.{Name, same_name}
use Rattle.group_terms.specs.declared.paths.Keyed.{Keyed}
use Rattle.group_values.specs.Values.{Made}
use Rattle.group_keys.specs.Replies.{IsKeyedOf}
use Rattle.group_model.specs.declared.entries.SentReply.{SentReply}
use Rattle.pull_sessions.specs.Builds.{IsFourthOf, settled_session}
use Rattle.pull_sessions.specs.Sessions.{HasSession, Sessions, is_queued}
use Rattle.pull_sessions.specs.declared.answers.Kept.TheVariants as kept
use Rattle.pull_sessions.specs.declared.answers.Step.TheVariants.{Queued}
use Rattle.pull_sessions.specs.declared.sas.Sa.{Sa}
use Rattle.pull_sessions.specs.declared.sas.Session.{Session}

-- of a group with this depth, this SPI of pushes and these batches, where these are the SAs before the last batch
module _ (depth : ℕ) (spi : List ℕ) (list : List Made) (sas : List Sa) where
  -- The datagram of a reply is the fourth message of its member's session, which awaits the batch, with the keys that the member has since then.
  pub record IsFourthReply (reply : SentReply) : Type 0 where
    pub sa : Sa
    pub session : Session
    pub has : HasSession sas reply.says.member sa session
    pub awaits : session.step ≡ Queued
    pub keyed : Keyed
    pub keys : IsKeyedOf depth spi list reply.says.member keyed
    pub is_text : IsFourthOf sa.phase session session.iv keyed reply.datagram

-- a session that keeps this reply as its answer; without one it stays
abbrev pub settled_by : Session → Option SentReply → Session
settled_by session None = session
settled_by session (Some reply) = settled_session session (kept.Datagram reply.datagram (Some reply.says))

-- the first of these replies that goes to a member
abbrev pub reply_to : List SentReply → Name → Option SentReply
reply_to replies m = find (λ (reply : SentReply). same_name reply.says.member m) replies

-- a session of a member that awaits the batch has its fourth message, if there is one among these replies; any other one stays
abbrev pub settled_in : List SentReply → Name → Session → Session
settled_in replies m session = if is_queued session.step then settled_by session (reply_to replies m) else session

-- an SA whose session is settled so
abbrev pub settle : List SentReply → Sa → Sa
settle replies sa = record sa { session = option_map (settled_in replies sa.phase.member) sa.session }

-- the same of all sessions
abbrev pub settled : Sessions → List SentReply → Sessions
settled sessions replies = record sessions { sas = map (settle replies) sessions.sas }
