-- What a server keeps true between two requests, where a message is accepted; and what a call answers that ran out of memory.
use Rattle.std.proofs.Common.{◌≡◌, ◌∙◌, ◌||◌, ℕ, false, List, [], ◌∷◌, ◌++◌, None, Some, Result, Ok, Err, refl, sym, ap, subst}
use Rattle.std.specs.Prelude.{IfErr, IsErrAnd, IsSome, is_some, option_and_then}
use Rattle.gd_edges.specs.declared.draws.Draws.{Ghosts as DrawGhosts}
use Rattle.group_terms.specs.Changes.{is_pending}
use Rattle.group_terms.specs.Names.{Name, same_name}
use Rattle.group_terms.specs.declared.changes.Change.{Change}
use Rattle.group_terms.specs.declared.changes.Change.TheVariants.{In}
use Rattle.group_terms.specs.declared.phases.Phase1.{Phase1}
use Rattle.group_model.specs.Refusals.{why_no_join}
use Rattle.group_model.specs.Servers.{IsJoin, Server}
use Rattle.group_model.specs.declared.entries.Answer.{Answer}
use Rattle.group_model.specs.declared.entries.Answer.TheVariants.{Refused}
use Rattle.group_model.specs.declared.entries.Refusal.{Refusal}
use Rattle.group_model.specs.declared.entries.Refusal.TheVariants.{NoMemory}
use Rattle.gcks_core.specs.Stands.{Stands}
use Rattle.gcks_core.specs.Views.{View as CoreView}
use Rattle.pull_msgs.specs.declared.messages.Third.{Third}
use Rattle.pull_sessions.specs.Builds.{session_after_third, step_after}
use Rattle.pull_sessions.specs.Sessions.{HasSession, IsIntroduction, Sessions, has_queued, is_queued, is_queued_of, session_of, with_session, without_sessions}
use Rattle.pull_sessions.specs.declared.answers.Kept.{Kept}
use Rattle.pull_sessions.specs.declared.answers.Kept.TheVariants as kept
use Rattle.pull_sessions.specs.declared.answers.Step.TheVariants.{AwaitsThird}
use Rattle.pull_sessions.specs.declared.refusals.SessionRefusal.{SessionRefusal}
use Rattle.pull_sessions.specs.declared.sas.Sa.{Sa}
use Rattle.pull_sessions.specs.declared.sas.Session.{Session}
use Rattle.group_server.specs.Answers.{answer_rule, answer_served}
use Rattle.server_steps.specs.Joining.{JoinsHaveSessions, is_joining}
use Rattle.group_server.specs.declared.replies.Reply.{Reply}
use Rattle.group_server.proofs.JudgeLemmas.{same_no_join}
use Rattle.group_server.proofs.SessionLemmas.{joins_more, no_join, none_waits_ended, put_alike, put_waiting, waits_introduced}

-- ---- errors

-- what holds where no memory is left holds of the answer that says so
pub answered : (P : Answer → Type 0) (result : Result Reply Refusal) → IsErrAnd result (λ e. e ≡ NoMemory) → P (Refused NoMemory) → P (answer_served result)
answered P (Ok reply) error holds = absurd error
answered P (Err why) error holds = subst (λ why. P (Refused why)) (sym error) holds

pub answered_rule : (P : Answer → Type 0) (result : Result ℕ Refusal) → IsErrAnd result (λ e. e ≡ NoMemory) → P (Refused NoMemory) → P (answer_rule result)
answered_rule P (Ok number) error holds = absurd error
answered_rule P (Err why) error holds = subst (λ why. P (Refused why)) (sym error) holds

-- an error that was handed on
pub error_is : {T E : Type 0} (result : Result T E) (error : E) → IsErrAnd result (λ e. e ≡ error) → result ≡ Err error
error_is (Ok value) error is = absurd is
error_is (Err why) error is = ap Err is

pub if_error : {T E : Type 0} (P : E → Type 0) (result : Result T E) (error : E) → IsErrAnd result (λ e. e ≡ error) → P error → IfErr result P
if_error P (Ok value) error is holds = absurd is
if_error P (Err why) error is holds = subst P (sym is) holds

-- ---- sessions

session_is : {sas : List Sa} {m : Name} {sa : Sa} {session : Session} → HasSession sas m sa session → session_of sas m ≡ Some session
session_is has = ap (option_and_then (λ (sa : Sa). sa.session)) has.is_there ∙ has.has

pub has_session : {sas : List Sa} {m : Name} {sa : Sa} {session : Session} → HasSession sas m sa session → IsSome (session_of sas m)
has_session has = ap is_some (session_is has)

-- no SA has a session, and no change waits
pub none_joins : (queue : List Change) (sas : List Sa) → queue ≡ [] → sas ≡ [] → JoinsHaveSessions queue sas
none_joins queue sas none empty = λ n. ap (λ sas. is_queued_of sas n) empty ∙ ap (λ queue. is_joining queue n) (sym none)

pub sound_beside : (old new : List Change) (sas : List Sa) → new ≡ old → JoinsHaveSessions old sas → JoinsHaveSessions new sas
sound_beside old new sas same sound = λ n. sound n ∙ ap (λ queue. is_joining queue n) (sym same)

module _ (m : Name) (sessions after : Sessions) where
  -- a session begins of whom no change waits
  pub sound_alike : (old new : List Change) (session : Session) → new ≡ old → after ≡ with_session sessions m session → is_queued session.step ≡ false
      → is_pending old m ≡ false → JoinsHaveSessions old sessions.sas → JoinsHaveSessions new after.sas
  sound_alike old new session same is rests idle sound = λ n.
      ap (λ (sessions : Sessions). is_queued_of sessions.sas n) is
      ∙ (put_alike m session sessions.sas (sound m ∙ (no_join old m idle ∙ sym rests)) n ∙ sound_beside old new sessions.sas same sound n)

  -- a session is answered that awaited its third message
  pub replied_alike : (sa : Sa) (session : Session) (third : Third) (datagram : List ℕ) (answer : Kept) → HasSession sessions.sas m sa session
      → session.step ≡ AwaitsThird → after ≡ with_session sessions m (session_after_third session third datagram answer)
      → is_queued (step_after answer) ≡ false → (n : Name) → is_queued_of after.sas n ≡ is_queued_of sessions.sas n
  replied_alike sa session third datagram answer has awaits is rests n =
      let was : is_queued_of sessions.sas m ≡ false = ap has_queued (session_is has) ∙ ap is_queued awaits in
      ap (λ (sessions : Sessions). is_queued_of sessions.sas n) is
      ∙ put_alike m (session_after_third session third datagram answer) sessions.sas (was ∙ sym rests) n

  -- a session awaits the batch, as its member's join does
  pub joined_sound : (old new : List Change) (sa : Sa) (session : Session) (third : Third) (datagram : List ℕ) → HasSession sessions.sas m sa session
      → new ≡ old ++ In m ∷ [] → after ≡ with_session sessions m (session_after_third session third datagram kept.Queued)
      → JoinsHaveSessions old sessions.sas → JoinsHaveSessions new after.sas
  joined_sound old new sa session third datagram has more is sound = λ n.
      ap (λ (sessions : Sessions). is_queued_of sessions.sas n) is
      ∙ (put_waiting m (session_after_third session third datagram kept.Queued) sessions.sas sa has.is_there refl n
      ∙ (ap (λ b. b || (same_name n m || false)) (sound n)
      ∙ (sym (joins_more old m n) ∙ ap (λ queue. is_joining queue n) (sym more))))

-- an SA that is introduced has no session
pub introduced_sound : (queue : List Change) (old : Sessions) (phase : Phase1) (result : Result (Unit {0}) SessionRefusal) (new : Sessions)
    → IsIntroduction old phase result new → JoinsHaveSessions queue old.sas → JoinsHaveSessions queue new.sas
introduced_sound queue old phase (Ok done) new is sound = λ n.
    ap (λ (sessions : Sessions). is_queued_of sessions.sas n) is.1 ∙ (waits_introduced phase old.sas n ∙ sound n)
introduced_sound queue old phase (Err why) new is sound = λ n. ap (λ (sessions : Sessions). is_queued_of sessions.sas n) is.1 ∙ sound n

-- after an opening none does
pub reopened_sound : (new : List Change) (sessions after : Sessions) → new ≡ [] → after ≡ without_sessions sessions → JoinsHaveSessions new after.sas
reopened_sound new sessions after none is = λ n.
    ap (λ (sessions : Sessions). is_queued_of sessions.sas n) is ∙ (none_waits_ended sessions.sas n ∙ ap (λ queue. is_joining queue n) (sym none))

-- ---- joins

module _ {D G R : Type 0} {draws : DrawGhosts R} {core : CoreView D G R} {server : Server} (stands : Stands draws core server) where
  -- what waits once a join was granted
  pub queue_more : (new : CoreView D G R) (m : Name) → (next : Server) × IsJoin server m (Ok tt) next × Stands draws new next → new.queue ≡ core.queue ++ In m ∷ []
  queue_more new m joined =
      joined.2.queue ∙ (ap (λ (s : Server). s.queue) joined.1.1 ∙ ap (λ queue. queue ++ In m ∷ []) (sym stands.queue))

  -- one against which there is no reason is not refused
  pub not_refused : (new : CoreView D G R) (m : Name) (why : Refusal)
      → why_no_join core.needs_reopen core.tree.depth core.tree.holders core.queue m ≡ None
      → (next : Server) × IsJoin server m (Err why) next × Stands draws new next → ⊥
  not_refused new m why granted refused = clash (sym granted ∙ (same_no_join stands m ∙ refused.1.0))
    where
      clash : None ≡ Some why → ⊥
      clash is = cc
