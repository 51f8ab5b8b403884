-- What each member who comes in with a batch is told, by key names; and what their sessions keep of it.
use Rattle.std.specs.Prelude.{◌≡◌, ℕ, true, false, List, [], ◌∷◌, ◌++◌, map, Option, Some, option_map, if◌then◌else◌}
use Rattle.group_terms.specs.Names.{Name}
use Rattle.group_terms.specs.declared.keys.KeyName.{KeyName}
use Rattle.group_terms.specs.declared.keys.KeyName.TheVariants.{Node, Traffic}
use Rattle.group_terms.specs.declared.paths.Keyed.{Keyed}
use Rattle.group_terms.specs.declared.paths.PathKey.{PathKey}
use Rattle.group_model.specs.declared.entries.SentReply.{SentReply}
use Rattle.group_model.specs.declared.entries.SymReply.{SymReply}
use Rattle.pull_sessions.specs.Builds.{IsDatagram, IsFourthOf, settled_session}
use Rattle.pull_sessions.specs.Sessions.{HasSession, Sessions, is_of, is_queued, is_queued_of}
use Rattle.pull_sessions.specs.declared.answers.Kept.{Kept}
use Rattle.pull_sessions.specs.declared.answers.Kept.TheVariants as kept
use Rattle.pull_sessions.specs.declared.sas.Sa.{Sa}
use Rattle.pull_sessions.specs.declared.sas.Session.{Session}

-- the name of a key of a path
abbrev pub node_name : PathKey → KeyName
node_name key = Node key.id key.made

-- the names of the keys that a member is told
abbrev pub names_told : Keyed → List KeyName
names_told keyed = map node_name keyed.path ++ Traffic keyed.epoch ∷ []

-- what a member is told with these keys, by their names
abbrev pub says_told : Name × Keyed → SymReply
says_told told = record { member = told.0; keyed_epoch = told.1.epoch; sequence = told.1.sequence; names = names_told told.1 }

-- The datagram of a reply to somebody who is told these keys, where these are the SAs: the fourth message where the session awaits the batch; else none.
pub record IsDatagramTo (sas : List Sa) (told : Name × Keyed) (datagram : List ℕ) : Type 0 where
  pub fourth : (sa : Sa) (session : Session) → HasSession sas told.0 sa session → is_queued session.step ≡ true
      → IsFourthOf sa.phase session session.iv told.1 datagram
  pub none : is_queued_of sas told.0 ≡ false → datagram ≡ []

-- a reply to somebody who is told these keys
pub record IsReplyTo (sas : List Sa) (told : Name × Keyed) (reply : SentReply) : Type 0 where
  pub says : reply.says ≡ says_told told
  pub sends : IsDatagramTo sas told reply.datagram

-- the replies to all who are told something, in their order
abbrev pub AreRepliesTo : List Sa → List (Name × Keyed) → List SentReply → Type 0
AreRepliesTo sas [] replies = replies ≡ []
AreRepliesTo sas (told ∷ more) replies =
    (reply : SentReply) × (rest : List SentReply) × (replies ≡ reply ∷ rest) × IsReplyTo sas told reply × AreRepliesTo sas more rest

-- what the session of a reply's member keeps as the answer
abbrev pub kept_of : SentReply → Name × Kept
kept_of reply = (reply.says.member, kept.Datagram reply.datagram (Some reply.says))

-- ---- what sessions keep

-- all of these answers are datagrams
abbrev pub AreDatagrams : List (Name × Kept) → Type 0
AreDatagrams [] = Unit {0}
AreDatagrams (answer ∷ answers) = IsDatagram answer.1 × AreDatagrams answers

-- a session that awaits the batch has this answer; any other one stays
abbrev pub settled_with : Kept → Session → Session
settled_with answer session = if is_queued session.step then settled_session session answer else session

-- the SA of a member has another session by this rule
abbrev pub change_session : Name → (Option Session → Option Session) → Sa → Sa
change_session m change sa = if is_of m sa then record sa { session = change sa.session } else sa

-- the session of a member has this answer, if it awaits the batch
abbrev pub settled_one : Sessions → Name × Kept → Sessions
settled_one sessions answer =
    record sessions { sas = map (change_session answer.0 (option_map (settled_with answer.1))) sessions.sas }

-- each of these answers in turn
abbrev pub settled_all : Sessions → List (Name × Kept) → Sessions
settled_all sessions [] = sessions
settled_all sessions (answer ∷ answers) = settled_all (settled_one sessions answer) answers
