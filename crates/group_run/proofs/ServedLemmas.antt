-- What a request does to rules and SAs of a server, and to whom its answer goes.
use Rattle.std.proofs.Common.{◌≡◌, ◌∙◌, ⊎_elim, ℕ, ◌+◌, ◌<◌, ◌^◌, Bool, true, false, cond, length, IfOk, IfSome}
use Rattle.std.proofs.Common.{List, [], ◌∷◌, ◌++◌, Option, None, Some, Result, Ok, Err, MatchBool, refl, sym, ap, subst}
use Rattle.std.specs.List.{All, find}
use Rattle.std.proofs.lemmas.List.Elements.{All-cons, All-head, All-map, All-nil, All-push, All-tail, All-weaker}
use Rattle.std.proofs.lemmas.Option.{none-some}
use Rattle.std.proofs.lemmas.Slice.Eq.{bytes_eq-Decides}
use Rattle.gd_disk.specs.declared.disks.Disk.{Ghosts as DiskGhosts}
use Rattle.gd_edges.specs.declared.signers.Signer.{Ghosts as SignerGhosts}
use Rattle.group_terms.specs.Names.{Name, same_name}
use Rattle.group_terms.specs.declared.patterns.Rule.{Rule}
use Rattle.group_terms.specs.declared.phases.Phase1.{Phase1}
use Rattle.group_model.specs.declared.entries.Answer.{Answer}
use Rattle.group_model.specs.declared.entries.Answer.TheVariants.{Datagram, Done, Refused, RuleNumber, Shown}
use Rattle.group_model.specs.declared.entries.Asked.{Asked}
use Rattle.group_model.specs.declared.entries.Asked.TheVariants.{AddRule, Batch, DeliverAll, Halt, Introduce, Leave, Reopen, Serve, Show}
use Rattle.group_model.specs.declared.entries.Outside.{Outside}
use Rattle.group_model.specs.declared.entries.Refusal.{Refusal}
use Rattle.group_model.specs.declared.entries.Refusal.TheVariants.{NeedsReopen, NoMemory}
use Rattle.group_model.specs.declared.entries.SentReply.{SentReply}
use Rattle.group_model.specs.declared.entries.Output.{Output}
use Rattle.group_model.specs.declared.entries.PushPair.{PushPair}
use Rattle.group_model.specs.Places.{is_member}
use Rattle.group_model.specs.Seen.{seen_group}
use Rattle.group_model.specs.Servers.{Server, members_now, present_batches}
use Rattle.group_peers.specs.Peers.{is_peer}
use Rattle.group_peers.specs.declared.members.Peer.{Peer}
use Rattle.group_steps.specs.Gets.{mail_by, mail_of, mail_to}
use Rattle.pull_msgs.specs.declared.messages.First.{First}
use Rattle.pull_msgs.specs.declared.messages.Third.{Third}
use Rattle.pull_sessions.specs.Looks.{IsLook}
use Rattle.pull_sessions.specs.Sessions.{IsIntroduction, Sessions, is_of, new_sa, put_session, put_sessions}
use Rattle.pull_sessions.specs.declared.answers.Looked.{Looked}
use Rattle.pull_sessions.specs.declared.answers.LookedAt.{LookedAt}
use Rattle.pull_sessions.specs.declared.answers.LookedAt.TheVariants.{NewFirst, NextThird, Repeat}
use Rattle.pull_sessions.specs.declared.refusals.SessionRefusal.{SessionRefusal}
use Rattle.pull_sessions.specs.declared.sas.Sa.{Sa}
use Rattle.pull_sessions.specs.declared.sas.Session.{Session}
use Rattle.server_steps.specs.Batches.{IsBatching, IsInDoubt, IsRefusedBatch, IsStored, RunsOut, list_next}
use Rattle.server_steps.specs.Changes.{IsNoDelivery, after_leave, shown_group}
use Rattle.server_steps.specs.Fourths.{IsFourthReply, settle}
use Rattle.server_steps.specs.Hosts.{Host, with_rules}
use Rattle.server_steps.specs.Openings.{FailsToReopen, Reopens}
use Rattle.server_steps.specs.Outsides.{Becomes, Says}
use Rattle.server_steps.specs.Pulls.{AnswersFirst, AnswersFound, AnswersLook, AnswersThird, Begins, IsAnswering, Queues, Replies, RunsOutAtFirst}
use Rattle.server_steps.specs.Refusals.{refusal_to_first, refusal_to_third}
use Rattle.server_steps.specs.Sent.{pair_by}
use Rattle.server_steps.specs.Steps.{IsServed}
use Rattle.server_steps.specs.Serves.{answer_batch, answer_done, answer_reopened}
use Rattle.group_server.specs.Answers.{answer_reply, answer_rule, answer_served}
use Rattle.group_server.specs.declared.replies.Reply.{Reply}
use Rattle.group_server.specs.declared.replies.Reply.TheVariants as replies
use Rattle.group_run.specs.Mails.{mail_of_answer}
use Rattle.group_run.specs.Private.Kept.{GoesToPeer, IsOwn}
use Rattle.group_run.specs.Stays.{TakesRule}

-- ---- names

pub same_itself : (name : Name) → same_name name name ≡ true
same_itself name = (bytes_eq-Decides name name).1 refl

-- ---- SAs

-- it is still the SA of a peer, whatever session it has
put_own : (peers : List Peer) (m : Name) (session : Option Session) (sa : Sa) → IsOwn peers sa → IsOwn peers (put_session m session sa)
put_own peers m session sa own = elim (is_of m sa) as (λ b. IsOwn peers (cond b (record sa { session = session }) sa)) [
  | true ↦ own
  | false ↦ own
]

put_all : (peers : List Peer) (m : Name) (session : Option Session) (sas : List Sa) → All (IsOwn peers) sas → All (IsOwn peers) (put_sessions m session sas)
put_all peers m session sas own =
    All-map (IsOwn peers) (put_session m session) sas
    (All-weaker (IsOwn peers) (λ sa. IsOwn peers (put_session m session sa)) (put_own peers m session) sas own)

-- who has an SA is a peer
own_peer : (peers : List Peer) (sas : List Sa) (m : Name) (sa : Sa) → All (IsOwn peers) sas → find (is_of m) sas ≡ Some sa → is_peer peers m ≡ true
own_peer peers [] m sa own is = absurd (none-some sa is)
own_peer peers (first ∷ sas) m sa own is =
    by_name (same_name m first.phase.member) refl (own_peer peers sas m sa (All-tail (IsOwn peers) first sas own)) is
  where
    by_name : (b : Bool) → same_name m first.phase.member ≡ b → (find (is_of m) sas ≡ Some sa → is_peer peers m ≡ true)
        → cond b (Some first) (find (is_of m) sas) ≡ Some sa → is_peer peers m ≡ true
    by_name true same rest is =
        subst (λ name. is_peer peers name ≡ true) (sym ((bytes_eq-Decides m first.phase.member).0 same)) (All-head (IsOwn peers) first sas own)
    by_name false other rest is = rest is

-- ---- what stays

-- the rules stay, and the SAs are those of the same members
pub record Stays {D : Type 0} (host next : Host D) : Type 0 where
  pub rules : next.rules ≡ host.rules
  pub own : (peers : List Peer) → All (IsOwn peers) host.sessions.sas → All (IsOwn peers) next.sessions.sas

module _ {D : Type 0} (host : Host D) where
  stays_all : Stays host host
  stays_all = record { rules = refl; own = λ peers own. own }

  -- if they do in what the host became
  became : {due answer : Answer} {outside : Outside} {changed next : Host D} → Becomes due changed host answer outside next → Stays host changed
      → Stays host next
  became becomes stays = subst (Stays host) (sym becomes.now) stays

  says_so : {due answer : Answer} {outside : Outside} {next : Host D} → Says due host answer outside next → Stays host next
  says_so says = subst (Stays host) (sym says.stays) stays_all

  left : (m : Name) (answer : Answer) → Stays host (after_leave host m answer)
  left m Done = record { rules = refl; own = λ peers own. own }
  left m answer = stays_all

  with_own : (m : Name) (session : Session) {changed : Host D} → changed.rules ≡ host.rules
      → changed.sessions.sas ≡ put_sessions m (Some session) host.sessions.sas → Stays host changed
  with_own m session {changed} same is = record {
    rules = same;
    own = λ peers own. subst (All (IsOwn peers)) (sym is) (put_all peers m (Some session) host.sessions.sas own);
  }

  module _ {G : Type 0} (g : SignerGhosts G) (signer : G) (block : ℕ → List ℕ) (datagram : List ℕ) (answer : Answer) (outside : Outside) (next : Host D) where
    first_stays : (why : Option Refusal) (m : Name) (first : First) → AnswersFirst g signer block host why m first datagram answer outside next
        → Stays host next
    first_stays (Some why) m first says = says_so says
    first_stays None m first ends =
        ⊎_elim (λ (begins : Begins g signer block host m first datagram answer outside next). became begins.becomes (with_own m _ refl refl))
        (λ (out : RunsOutAtFirst g signer block host answer outside next). became out.becomes (record { rules = refl; own = λ peers own. own })) ends

    third_stays : (why : Option Refusal) (m : Name) (third : Third) → AnswersThird g signer block host why m third datagram answer outside next
        → Stays host next
    third_stays (Some why) m third says = says_so says
    third_stays None m third ends =
        ⊎_elim
        (λ (accepts : MatchBool (is_member (members_now host.server) m) (Replies g signer block host m third datagram answer outside next)
        (Queues g signer block host m third datagram answer outside next)).
        elim (is_member (members_now host.server) m) as (λ b. MatchBool b (Replies g signer block host m third datagram answer outside next)
        (Queues g signer block host m third datagram answer outside next) → Stays host next) [
          | true ↦ λ replies. became replies.becomes (with_own m _ refl refl)
          | false ↦ λ queues. became queues.becomes (with_own m _ refl refl)
        ] accepts)
        (λ (out : Says (Refused NoMemory) host answer outside next). says_so out) ends

    found_stays : (what : LookedAt) (m : Name) → AnswersFound g signer block host what m datagram answer outside next → Stays host next
    found_stays (Repeat kept) m says = says_so says
    found_stays (NewFirst first) m answers = first_stays (refusal_to_first host.head.name host.rules host.server m first) m first answers
    found_stays (NextThird third) m answers = third_stays (refusal_to_third host.rules host.server m) m third answers

    look_stays : (looked : Result Looked SessionRefusal) → AnswersLook g signer block host datagram looked answer outside next → Stays host next
    look_stays (Ok looked) answers = found_stays looked.what looked.member answers
    look_stays (Err why) says = says_so says

-- a request that neither adds a rule nor introduces an SA
abbrev pub IsQuiet : Asked → Type 0
IsQuiet (AddRule rule) = ⊥
IsQuiet (Introduce phase) = ⊥
IsQuiet request = Unit {0}

-- who asks is a peer
abbrev pub AsksBy : List Peer → Asked → Type 0
AsksBy peers (Introduce phase) = is_peer peers phase.member ≡ true
AsksBy peers (Serve m datagram) = is_peer peers m ≡ true
AsksBy peers request = Unit {0}

module _ {D G : Type 0} (d : DiskGhosts D) (g : SignerGhosts G) (signer : G) (block : ℕ → List ℕ) (host : Host D) (answer : Answer) (outside : Outside)
    (next : Host D) where
  answers_stay : (datagram : List ℕ) → IsAnswering g signer block host datagram answer outside next → Stays host next
  answers_stay datagram answering =
      elim host.server.needs_reopen as (λ b. MatchBool b (Says (Refused NeedsReopen) host answer outside next)
      ((looked : Result Looked SessionRefusal) × IsLook host.sessions.sas datagram looked × AnswersLook g signer block host datagram looked answer outside next)
      → Stays host next) [
        | true ↦ λ says. says_so host says
        | false ↦ λ found. look_stays host g signer block datagram answer outside next found.0 found.2
      ] answering

  batch_stays : IsBatching d g signer block host answer outside next → Stays host next
  batch_stays ends =
      ⊎_elim
      (λ (stored : IsStored d g signer block host answer outside next). subst (Stays host) (sym stored.now) (record {
        rules = refl;
        own = λ peers own. All-map (IsOwn peers) (settle stored.output.replies) host.sessions.sas own;
      }))
      (⊎_elim (λ (doubt : IsInDoubt d g signer block host answer outside next). subst (Stays host) (sym doubt.now) (record { rules = refl; own = λ peers own. own }))
      (⊎_elim (λ (refused : IsRefusedBatch d g signer block host answer outside next). says_so host refused.says)
      (λ (out : RunsOut d g signer block host answer outside next). subst (Stays host) (sym out.now) (record { rules = refl; own = λ peers own. own })))) ends

  pub served_stays : (request : Asked) → IsQuiet request → IsServed d g signer block request host answer outside next → Stays host next
  served_stays (AddRule rule) quiet served = absurd quiet
  served_stays (Introduce phase) quiet served = absurd quiet
  served_stays (Serve m datagram) quiet served = answers_stay datagram served
  served_stays (Leave m) quiet served = subst (Stays host) (sym served.now) (left host m answer)
  served_stays Batch quiet served = batch_stays served
  served_stays Halt quiet served = subst (Stays host) (sym served.now) (record { rules = refl; own = λ peers own. own })
  served_stays Reopen quiet served =
      ⊎_elim (λ (again : Reopens d g signer host answer outside next). subst (Stays host) (sym again.finds.now) (record {
        rules = refl;
        own = λ peers own. All-map (IsOwn peers) (λ (sa : Sa). new_sa sa.phase) host.sessions.sas own;
      }))
      (λ (fails : FailsToReopen d g signer host answer outside next). subst (Stays host) (sym fails.now) (record { rules = refl; own = λ peers own. own }))
      served.ends
  served_stays Show quiet served = says_so host served
  served_stays DeliverAll quiet served = says_so host served.says
  served_stays request quiet served = absurd served

  -- ---- rules

  pub rule_taken : (rule : Rule) → IsServed d g signer block (AddRule rule) host answer outside next → TakesRule answer rule host.rules next.rules
  rule_taken rule served =
      ⊎_elim (λ (adds : Becomes (RuleNumber (length host.rules + 1)) (with_rules host (host.rules ++ rule ∷ [])) host answer outside next).
      subst (λ (answer : Answer). TakesRule answer rule host.rules next.rules) (sym adds.answers) (refl, ap (λ (host : Host D). host.rules) adds.now))
      (λ (says : Says (Refused NoMemory) host answer outside next).
      subst (λ (answer : Answer). TakesRule answer rule host.rules next.rules) (sym says.answers) (refl, ap (λ (host : Host D). host.rules) says.stays)) served

  pub introduced_rules : (phase : Phase1) → IsServed d g signer block (Introduce phase) host answer outside next → next.rules ≡ host.rules
  introduced_rules phase served = ap (λ (host : Host D). host.rules) served.now

  -- ---- SAs

  introduced_own : (peers : List Peer) (phase : Phase1) (result : Result (Unit {0}) SessionRefusal) (sessions : Sessions)
      → IsIntroduction host.sessions phase result sessions → is_peer peers phase.member ≡ true → All (IsOwn peers) host.sessions.sas
      → All (IsOwn peers) sessions.sas
  introduced_own peers phase (Ok done) sessions introduces peer own =
      subst (λ (sessions : Sessions). All (IsOwn peers) sessions.sas) (sym introduces.1) (All-push (IsOwn peers) host.sessions.sas (new_sa phase) own peer)
  introduced_own peers phase (Err why) sessions introduces peer own =
      subst (λ (sessions : Sessions). All (IsOwn peers) sessions.sas) (sym introduces.1) own

  pub own_after : (peers : List Peer) (request : Asked) → AsksBy peers request → IsServed d g signer block request host answer outside next
      → All (IsOwn peers) host.sessions.sas → All (IsOwn peers) next.sessions.sas
  own_after peers (AddRule rule) by served own =
      ⊎_elim (λ (adds : Becomes (RuleNumber (length host.rules + 1)) (with_rules host (host.rules ++ rule ∷ [])) host answer outside next).
      subst (λ (host : Host D). All (IsOwn peers) host.sessions.sas) (sym adds.now) own)
      (λ (says : Says (Refused NoMemory) host answer outside next). subst (λ (host : Host D). All (IsOwn peers) host.sessions.sas) (sym says.stays) own) served
  own_after peers (Introduce phase) by served own =
      subst (λ (host : Host D). All (IsOwn peers) host.sessions.sas) (sym served.now)
      (introduced_own peers phase served.result served.sessions served.introduces by own)
  own_after peers request by served own = (served_stays request tt served).own peers own

  -- ---- to whom an answer goes

  stored_to_peers : (peers : List Peer) → All (IsOwn peers) host.sessions.sas → IsStored d g signer block host answer outside next
      → All (GoesToPeer peers) (mail_by answer)
  stored_to_peers peers own stored =
      let list = list_next d g signer block host in
      subst (λ answer. All (GoesToPeer peers) (mail_by answer)) (sym stored.answers)
      (All-map (GoesToPeer peers) mail_of stored.output.replies
      (All-weaker (IsFourthReply host.server.depth host.head.spi list host.sessions.sas) (λ (reply : SentReply). GoesToPeer peers (mail_of reply))
      (λ reply fourth. own_peer peers host.sessions.sas reply.says.member fourth.sa own fourth.has.is_there) stored.output.replies stored.puts_out.replies))

  none_to_peers : (peers : List Peer) (why : Refusal) → answer ≡ Refused why → All (GoesToPeer peers) (mail_by answer)
  none_to_peers peers why is = subst (λ answer. All (GoesToPeer peers) (mail_by answer)) (sym is) (All-nil (GoesToPeer peers))

  batch_to_peers : (peers : List Peer) → All (IsOwn peers) host.sessions.sas → IsBatching d g signer block host answer outside next
      → All (GoesToPeer peers) (mail_by answer)
  batch_to_peers peers own ends =
      ⊎_elim (stored_to_peers peers own)
      (⊎_elim (λ (doubt : IsInDoubt d g signer block host answer outside next). none_to_peers peers _ doubt.answers)
      (⊎_elim (λ (refused : IsRefusedBatch d g signer block host answer outside next). none_to_peers peers _ refused.says.answers)
      (λ (out : RunsOut d g signer block host answer outside next). none_to_peers peers _ out.answers))) ends

  message_to_peer : (peers : List Peer) (m : Name) (answer : Answer) → is_peer peers m ≡ true → All (GoesToPeer peers) (mail_to m answer)
  message_to_peer peers m (Datagram octets names) is = All-cons (GoesToPeer peers) (m, octets) [] is (All-nil (GoesToPeer peers))
  message_to_peer peers m answer is = All-nil (GoesToPeer peers)

  pub to_peers : (peers : List Peer) (request : Asked) → AsksBy peers request → IsServed d g signer block request host answer outside next
      → All (IsOwn peers) host.sessions.sas → All (GoesToPeer peers) (mail_of_answer request answer)
  to_peers peers (Serve m datagram) by served own = message_to_peer peers m answer by
  to_peers peers Batch by served own = batch_to_peers peers own served
  to_peers peers request by served own = All-nil (GoesToPeer peers)

-- ---- pushes

pub silent_done : (done : Result (Unit {0}) Refusal) → pair_by (answer_done done) ≡ None
silent_done (Ok done) = refl
silent_done (Err why) = refl

pub silent_rule : (number : Result ℕ Refusal) → pair_by (answer_rule number) ≡ None
silent_rule (Ok number) = refl
silent_rule (Err why) = refl

shown_silent : (server : Server) (b : Bool) → pair_by (cond b (Refused NeedsReopen) (Shown (seen_group server.depth (present_batches server)))) ≡ None
shown_silent server true = refl
shown_silent server false = refl

module _ {D : Type 0} {host next : Host D} {answer : Answer} {outside : Outside} where
  pub silent_show : Says (shown_group host.server) host answer outside next → pair_by answer ≡ None
  silent_show says = ap pair_by says.answers ∙ shown_silent host.server host.server.needs_reopen

  pub silent_refused : IsNoDelivery host answer outside next → pair_by answer ≡ None
  silent_refused refused = ap pair_by refused.says.answers

reply_silent : (reply : Reply) → pair_by (answer_reply reply) ≡ None
reply_silent (replies.Datagram octets names) = refl
reply_silent replies.Queued = refl

pub silent_served : (served : Result Reply Refusal) → pair_by (answer_served served) ≡ None
silent_served (Ok reply) = reply_silent reply
silent_served (Err why) = refl

-- the numbers of the pair of a batch
pub batch_fits : (output : Result Output Refusal) → IfOk output (λ (output : Output). IfSome output.pushes (λ (pair : PushPair). pair.first + 1 < 2 ^ 32))
    → IfSome (pair_by (answer_batch output)) (λ (pair : PushPair). pair.first + 1 < 2 ^ 32)
batch_fits (Ok output) fits = fits
batch_fits (Err why) fits = tt

-- and of the one that is sent again
pub reopened_fits : (server : Server) (reopened : Result (Option PushPair) Refusal)
    → IfOk reopened (λ (resent : Option PushPair). IfSome resent (λ (pair : PushPair). pair.first + 1 < 2 ^ 32))
    → IfSome (pair_by (answer_reopened server reopened)) (λ (pair : PushPair). pair.first + 1 < 2 ^ 32)
reopened_fits server (Ok resent) fits = fits
reopened_fits server (Err why) fits = tt
