-- How a key server answers pulls (RFC 6407 section 3): SAs that are introduced, and datagrams that it is given.
use Rattle.std.specs.Prelude.{◌≡◌, ◌⊎◌, ℕ, ◌≤◌, MatchBool, List, [], ◌∷◌, length, Option, None, Some, Result, Ok, Err}
use Rattle.gd_edges.specs.declared.signers.Signer.{Ghosts as SignerGhosts}
use Rattle.group_terms.specs.Names.{Name}
use Rattle.group_terms.specs.declared.changes.Change.TheVariants.{In}
use Rattle.group_terms.specs.declared.paths.Keyed.{Keyed}
use Rattle.group_terms.specs.declared.phases.Phase1.{Phase1}
use Rattle.group_terms.specs.declared.signatures.SignKind.{SignKind}
use Rattle.group_terms.specs.declared.values.TrafficValue.{TrafficValue}
use Rattle.group_values.specs.Values.{Made, traffic_value}
use Rattle.group_keys.specs.Replies.{IsKeyedOf}
use Rattle.group_model.specs.Places.{is_member}
use Rattle.group_model.specs.Replies.{reply_at}
use Rattle.group_model.specs.Servers.{Server, after_draws, members_now, present_batches, present_epoch, with_change}
use Rattle.group_model.specs.declared.entries.Answer.{Answer}
use Rattle.group_model.specs.declared.entries.Answer.TheVariants.{Datagram, Done, Queued, Refused}
use Rattle.group_model.specs.declared.entries.Outside.{Outside}
use Rattle.group_model.specs.declared.entries.Refusal.{Refusal}
use Rattle.group_model.specs.declared.entries.Refusal.TheVariants.{NeedsReopen, NoMemory}
use Rattle.group_model.specs.declared.entries.SymReply.{SymReply}
use Rattle.pull_msgs.specs.Fits.{NonceFits, PhaseFits, PoliciesFit}
use Rattle.pull_msgs.specs.declared.messages.First.{First}
use Rattle.pull_msgs.specs.declared.messages.Third.{Third}
use Rattle.pull_sessions.specs.Builds.{IsFourthOf, IsSecondOf, begun_session, session_after_third}
use Rattle.pull_sessions.specs.Looks.{IsLook}
use Rattle.pull_sessions.specs.Sessions.{HasSession, IsIntroduction, Sessions, sa_of, with_session}
use Rattle.pull_sessions.specs.declared.answers.Kept.{Kept}
use Rattle.pull_sessions.specs.declared.answers.Kept.TheVariants as kept
use Rattle.pull_sessions.specs.declared.answers.Looked.{Looked}
use Rattle.pull_sessions.specs.declared.answers.LookedAt.{LookedAt}
use Rattle.pull_sessions.specs.declared.answers.LookedAt.TheVariants.{NewFirst, NextThird, Repeat}
use Rattle.pull_sessions.specs.declared.refusals.SessionRefusal.{SessionRefusal}
use Rattle.pull_sessions.specs.declared.sas.Sa.{Sa}
use Rattle.pull_sessions.specs.declared.sas.Session.{Session}
use Rattle.sa_wire.specs.declared.policies.SaPolicy.{SaPolicy}
use Rattle.server_steps.specs.Hosts.{Host, with_server, with_sessions}
use Rattle.server_steps.specs.Outsides.{Becomes, Says, quiet}
use Rattle.server_steps.specs.Refusals.{refusal_of, refusal_to_first, refusal_to_third}

-- ---- introductions

-- the answer to an introduction
abbrev pub answer_introduced : Result (Unit {0}) SessionRefusal → Answer
answer_introduced (Ok done) = Done
answer_introduced (Err why) = Refused (refusal_of why)

module _ {D : Type 0} where
  -- an SA, with which messages can be written, is introduced or refused; also where the group has to be opened again
  pub record IsIntroducing (phase : Phase1) (host : Host D) (answer : Answer) (outside : Outside) (next : Host D) : Type 0 where
    pub fits : PhaseFits phase
    pub result : Result (Unit {0}) SessionRefusal
    pub sessions : Sessions
    pub introduces : IsIntroduction host.sessions phase result sessions
    pub answers : answer ≡ answer_introduced result
    pub beside : outside ≡ quiet host
    pub now : next ≡ with_sessions host sessions

-- ---- what messages say

-- the SPI of a traffic key; zeros where there is none yet
abbrev pub spi_or_zeros : Option TrafficValue → List ℕ
spi_or_zeros None = 0 ∷ 0 ∷ 0 ∷ 0 ∷ []
spi_or_zeros (Some traffic) = traffic.spi

-- What a second message says of a group with these batches: the SPI of its pushes and how they are signed, and the SPI of its present traffic key (RFC 6407
-- sections 5.3 and 5.5). Before the first traffic key, its SPI is zeros by our choice.
abbrev pub present_policy : List ℕ → SignKind → List Made → SaPolicy
present_policy rekey kind list = record {
  kek = Some (record { spi = rekey; sign = kind });
  tek = Some (record { spi = spi_or_zeros (traffic_value list (length list)) });
}

-- what a reply to a member says at the present epoch, by key names
abbrev pub reply_now : Server → Name → SymReply
reply_now server m = reply_at server.depth (present_batches server) (present_epoch server) m

-- what was answered is answered again
abbrev pub answer_kept : Kept → Answer
answer_kept (kept.Datagram octets names) = Datagram octets names
answer_kept kept.Queued = Queued

-- ---- datagrams

module _ {D G : Type 0} (g : SignerGhosts G) (signer : G) (block : ℕ → List ℕ) (host : Host D) where
  -- the nonce of the next session, and the policies that its second message says
  abbrev pub nonce_next : List ℕ
  nonce_next = block host.server.place

  abbrev pub policy_now : SaPolicy
  policy_now = present_policy host.head.spi (g.kind_of signer) host.server.list

  -- A first message is accepted: the next block is drawn as nonce, the answer is the second message, and a session begins, in place of the member's old one.
  pub record Begins (m : Name) (first : First) (datagram : List ℕ) (answer : Answer) (outside : Outside) (next : Host D) : Type 0 where
    pub sa : Sa
    pub is_there : sa_of host.sessions.sas m ≡ Some sa
    pub nonce_fits : NonceFits nonce_next
    pub policy_fits : PoliciesFit policy_now
    pub second : List ℕ
    pub is_text : IsSecondOf sa.phase first nonce_next policy_now second
    pub becomes : Becomes (Datagram second None) (record host {
      server = after_draws host.server 1;
      sessions = with_session host.sessions m (begun_session first nonce_next datagram (kept.Datagram second None));
    }) host answer outside next

  -- out of memory, and the block may have been drawn
  pub record RunsOutAtFirst (answer : Answer) (outside : Outside) (next : Host D) : Type 0 where
    pub n : ℕ
    pub few : n ≤ 1
    pub becomes : Becomes (Refused NoMemory) (with_server host (after_draws host.server n)) host answer outside next

  -- A third message of a member is accepted: the answer is the fourth message, with the present keys, and the session awaits nothing.
  pub record Replies (m : Name) (third : Third) (datagram : List ℕ) (answer : Answer) (outside : Outside) (next : Host D) : Type 0 where
    pub sa : Sa
    pub session : Session
    pub has : HasSession host.sessions.sas m sa session
    pub keyed : Keyed
    pub keys : IsKeyedOf host.server.depth host.head.spi host.server.list m keyed
    pub fourth : List ℕ
    pub is_text : IsFourthOf sa.phase session third.next_iv keyed fourth
    pub becomes : Becomes (Datagram fourth (Some (reply_now host.server m)))
        (with_sessions host (with_session host.sessions m
        (session_after_third session third datagram (kept.Datagram fourth (Some (reply_now host.server m))))))
        host answer outside next

  -- A third message of somebody who is no member is accepted: the join waits for the next batch by our choice, and so does the session.
  pub record Queues (m : Name) (third : Third) (datagram : List ℕ) (answer : Answer) (outside : Outside) (next : Host D) : Type 0 where
    pub sa : Sa
    pub session : Session
    pub has : HasSession host.sessions.sas m sa session
    pub becomes : Becomes Queued (record host {
      server = with_change host.server (In m);
      sessions = with_session host.sessions m (session_after_third session third datagram kept.Queued);
    }) host answer outside next

  -- by the reason against a first message, if there is one
  abbrev pub AnswersFirst : Option Refusal → Name → First → List ℕ → Answer → Outside → Host D → Type 0
  AnswersFirst (Some why) m first datagram answer outside next = Says (Refused why) host answer outside next
  AnswersFirst None m first datagram answer outside next = Begins m first datagram answer outside next ⊎ RunsOutAtFirst answer outside next

  -- by the reason against a third message, if there is one
  abbrev pub AnswersThird : Option Refusal → Name → Third → List ℕ → Answer → Outside → Host D → Type 0
  AnswersThird (Some why) m third datagram answer outside next = Says (Refused why) host answer outside next
  AnswersThird None m third datagram answer outside next =
      MatchBool (is_member (members_now host.server) m) (Replies m third datagram answer outside next) (Queues m third datagram answer outside next)
      ⊎ Says (Refused NoMemory) host answer outside next

  -- by what a datagram is, of this member
  abbrev pub AnswersFound : LookedAt → Name → List ℕ → Answer → Outside → Host D → Type 0
  AnswersFound (Repeat kept) m datagram answer outside next = Says (answer_kept kept) host answer outside next
  AnswersFound (NewFirst first) m datagram answer outside next =
      AnswersFirst (refusal_to_first host.head.name host.rules host.server m first) m first datagram answer outside next
  AnswersFound (NextThird third) m datagram answer outside next =
      AnswersThird (refusal_to_third host.rules host.server m) m third datagram answer outside next

  -- by what a look at a datagram finds
  abbrev pub AnswersLook : List ℕ → Result Looked SessionRefusal → Answer → Outside → Host D → Type 0
  AnswersLook datagram (Ok looked) answer outside next = AnswersFound looked.what looked.member datagram answer outside next
  AnswersLook datagram (Err why) answer outside next = Says (Refused (refusal_of why)) host answer outside next

  -- A datagram is given to the server, whoever sent it. Where the group has to be opened again, that is the answer.
  abbrev pub IsAnswering : List ℕ → Answer → Outside → Host D → Type 0
  IsAnswering datagram answer outside next =
      MatchBool host.server.needs_reopen (Says (Refused NeedsReopen) host answer outside next)
      ((looked : Result Looked SessionRefusal) × IsLook host.sessions.sas datagram looked × AnswersLook datagram looked answer outside next)
