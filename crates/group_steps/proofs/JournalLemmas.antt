-- What each step of a run does to the journal of its group.
use Rattle.std.proofs.Common.{◌≡◌, ◌∙◌, ◌⊎◌, ℕ, true, false, Bool, List, [], ◌∷◌, ◌++◌, Option, None, Some, Result, Ok, Err, refl, sym, ap, subst, inl, inr}
use Rattle.std.specs.Prelude.{MatchBool}
use Rattle.std.proofs.lemmas.List.{append-nil}
use Rattle.gd_disk.specs.Disks.{Knows}
use Rattle.gd_disk.specs.MomentLaws.{started, weaker}
use Rattle.gd_disk.specs.Moments.{LeavesOnly, shown}
use Rattle.gd_disk.specs.declared.disks.Disk.{Ghosts as DiskGhosts}
use Rattle.gd_edges.specs.declared.signers.Signer.{Ghosts as SignerGhosts}
use Rattle.group_terms.specs.Names.{Name}
use Rattle.group_terms.specs.declared.changes.Change.{Change}
use Rattle.group_terms.specs.declared.changes.Change.TheVariants.{In, Out}
use Rattle.group_terms.specs.declared.patterns.Rule.{Rule}
use Rattle.group_values.specs.Drawing.{place_after}
use Rattle.group_values.specs.Values.{Made}
use Rattle.group_model.specs.Places.{is_member}
use Rattle.group_model.specs.Servers.{MayHave, Server, in_doubt, members_now, refusal_to_batch}
use Rattle.group_model.specs.declared.entries.Answer.{Answer}
use Rattle.group_model.specs.declared.entries.Answer.TheVariants.{Done, Refused}
use Rattle.group_model.specs.declared.entries.Asked.{Asked}
use Rattle.group_model.specs.declared.entries.Asked.TheVariants.{AddRule, Batch, DeliverAll, Halt, Introduce, Leave, Reopen, Serve, Show}
use Rattle.group_model.specs.declared.entries.Entry.{Entry}
use Rattle.group_model.specs.declared.entries.Outside.{Outside}
use Rattle.group_model.specs.declared.entries.Refusal.{Refusal}
use Rattle.group_model.specs.declared.entries.Refusal.TheVariants.{NeedsReopen}
use Rattle.gcks_core.specs.Stored.{IsFileOf}
use Rattle.pull_msgs.specs.declared.messages.First.{First}
use Rattle.pull_msgs.specs.declared.messages.Third.{Third}
use Rattle.pull_sessions.specs.Looks.{IsLook}
use Rattle.pull_sessions.specs.Sessions.{Sessions}
use Rattle.pull_sessions.specs.declared.answers.Looked.{Looked}
use Rattle.pull_sessions.specs.declared.answers.LookedAt.{LookedAt}
use Rattle.pull_sessions.specs.declared.answers.LookedAt.TheVariants.{NewFirst, NextThird, Repeat}
use Rattle.pull_sessions.specs.declared.refusals.SessionRefusal.{SessionRefusal}
use Rattle.server_steps.specs.Batches.{IsBatching, IsInDoubt, IsStored, made_next}
use Rattle.server_steps.specs.Changes.{after_leave}
use Rattle.server_steps.specs.Disks.{HasJournal}
use Rattle.server_steps.specs.Hosts.{Host}
use Rattle.server_steps.specs.Openings.{FailsToReopen, IsOpeningAgain, Reopens}
use Rattle.server_steps.specs.Outsides.{Says}
use Rattle.server_steps.specs.Pulls.{AnswersFirst, AnswersFound, AnswersLook, AnswersThird, IsAnswering, Queues, Replies}
use Rattle.server_steps.specs.Refusals.{refusal_to_first, refusal_to_third}
use Rattle.server_steps.specs.Steps.{IsServed}
use Rattle.group_steps.specs.Devices.{Devices, Keying}
use Rattle.group_steps.specs.Runs.{Run}
use Rattle.group_steps.specs.Steps.{IsRunStep}
use Rattle.group_steps.proofs.HostLemmas.{host_by}

-- batches that a journal may have begin with those of the server
pub list_begins : (server : Server) (list : List Made) → MayHave server list → (later : List Made) × (list ≡ server.list ++ later)
list_begins server list (inl same) = ([], same ∙ sym (append-nil server.list))
list_begins server list (inr more) = (more.0 ∷ [], more.2)

module _ {D G : Type 0} (d : DiskGhosts D) (g : SignerGhosts G) (signer : G) (block : ℕ → List ℕ) (host : Host D) where
  -- what a crash leaves while this is asked: the journal as it was, or with the batch that is asked for
  abbrev pub IsMeanwhile : Asked → List ℕ → Type 0
  IsMeanwhile asked c =
      IsFileOf host.head host.server c
      ⊎ (((asked ≡ Batch) × (refusal_to_batch host.server ≡ None))
      × IsFileOf host.head (in_doubt host.server (made_next d g signer block host)) c)

  -- what a request leaves of the journal
  pub record StepLeaves (asked : Asked) (next : Host D) : Type 0 where
    pub journal : HasJournal d next
    pub head : Knows (shown d host.disk) (λ file. next.head ≡ host.head)
    pub moments : Knows (shown d host.disk) (λ file. LeavesOnly d host.disk next.disk (IsMeanwhile asked))
    pub list : Knows (shown d host.disk) (λ file. (later : List Made) × (next.server.list ≡ host.server.list ++ later))

  module _ (had : HasJournal d host) (only_now : (c : List ℕ) → d.left_since host.disk (d.moment host.disk) c → d.may_leave host.disk c) where
    -- a request that touches no more than this
    touches_beside : (asked : Asked) (needs_reopen : Bool) (queue : List Change) (place : ℕ) (rules : List Rule) (sessions : Sessions) (next : Host D)
        → next ≡ record host { server = record host.server { needs_reopen = needs_reopen; queue = queue; place = place }; rules = rules; sessions = sessions }
        → StepLeaves asked next
    touches_beside asked needs_reopen queue place rules sessions next is = subst (StepLeaves asked) (sym is) (record {
      journal = record { file = had.file; crash = had.crash };
      head = λ file shows. refl;
      moments = λ file shows. started d host.disk (IsMeanwhile asked) only_now (λ c now. inl (had.crash file shows c now));
      list = λ file shows. ([], sym (append-nil host.server.list));
    })

    untouched : (asked : Asked) (needs_reopen : Bool) (queue : List Change) (place : ℕ) (next : Host D)
        → next ≡ record host { server = record host.server { needs_reopen = needs_reopen; queue = queue; place = place } } → StepLeaves asked next
    untouched asked needs_reopen queue place next is = touches_beside asked needs_reopen queue place host.rules host.sessions next is

    -- or nothing
    pub unchanged : (asked : Asked) (next : Host D) → next ≡ host → StepLeaves asked next
    unchanged asked next is = untouched asked host.server.needs_reopen host.server.queue host.server.place next is

    leaves_leave : (m : Name) (answer : Answer) (next : Host D) → next ≡ after_leave host m answer → StepLeaves (Leave m) next
    leaves_leave m Done next is = untouched (Leave m) host.server.needs_reopen (host.server.queue ++ Out m ∷ []) host.server.place next is
    leaves_leave m answer next is = unchanged (Leave m) next is

    -- ---- the requests that touch the disk

    leaves_stored : (answer : Answer) (outside : Outside) (next : Host D) → IsStored d g signer block host answer outside next → StepLeaves Batch next
    leaves_stored answer outside next stored = record {
      journal = stored.journal;
      head = λ file shows. ap (λ (given : Host D). given.head) stored.now;
      moments = λ file shows.
          weaker d host.disk next.disk _ (IsMeanwhile Batch) (λ c is. inr ((refl, stored.granted), is)) (stored.moments file shows);
      list = λ file shows. (made_next d g signer block host ∷ [], ap (λ (given : Host D). given.server.list) stored.now);
    }

    leaves_doubt : (answer : Answer) (outside : Outside) (next : Host D) → IsInDoubt d g signer block host answer outside next → StepLeaves Batch next
    leaves_doubt answer outside next doubt = record {
      journal = doubt.journal;
      head = λ file shows. ap (λ (given : Host D). given.head) doubt.now;
      moments = λ file shows.
          weaker d host.disk next.disk _ (IsMeanwhile Batch) (λ c is. inr ((refl, doubt.granted), is)) (doubt.moments file shows);
      list = λ file shows. ([], ap (λ (given : Host D). given.server.list) doubt.now ∙ sym (append-nil host.server.list));
    }

    leaves_batch : (answer : Answer) (outside : Outside) (next : Host D) → IsBatching d g signer block host answer outside next → StepLeaves Batch next
    leaves_batch answer outside next (inl stored) = leaves_stored answer outside next stored
    leaves_batch answer outside next (inr (inl doubt)) = leaves_doubt answer outside next doubt
    leaves_batch answer outside next (inr (inr (inl refused))) = unchanged Batch next refused.says.stays
    leaves_batch answer outside next (inr (inr (inr short))) =
        untouched Batch host.server.needs_reopen host.server.queue (place_after short.n host.server.place) next short.now

    -- opened again, the group is the same
    leaves_again : (answer : Answer) (outside : Outside) (next : Host D) → Reopens d g signer host answer outside next
        → Knows (shown d host.disk) (λ file. LeavesOnly d host.disk next.disk (IsFileOf host.head host.server)) → StepLeaves Reopen next
    leaves_again answer outside next reopens moments = record {
      journal = reopens.finds.journal;
      head = λ file shows. ap (λ (given : Host D). given.head) reopens.finds.now ∙ (reopens.same file shows).head;
      moments = λ file shows. weaker d host.disk next.disk _ (IsMeanwhile Reopen) (λ c is. inl is) (moments file shows);
      list = λ file shows.
          let begins = list_begins host.server reopens.found.list (reopens.same file shows).batches in
          (begins.0, ap (λ (given : Host D). given.server.list) reopens.finds.now ∙ begins.1);
    }

    leaves_shut : (answer : Answer) (outside : Outside) (next : Host D) → FailsToReopen d g signer host answer outside next
        → Knows (shown d host.disk) (λ file. LeavesOnly d host.disk next.disk (IsFileOf host.head host.server)) → StepLeaves Reopen next
    leaves_shut answer outside next fails moments = record {
      journal = fails.journal;
      head = λ file shows. ap (λ (given : Host D). given.head) fails.now;
      moments = λ file shows. weaker d host.disk next.disk _ (IsMeanwhile Reopen) (λ c is. inl is) (moments file shows);
      list = λ file shows. ([], ap (λ (given : Host D). given.server.list) fails.now ∙ sym (append-nil host.server.list));
    }

    leaves_reopen : (answer : Answer) (outside : Outside) (next : Host D) → IsOpeningAgain d g signer host answer outside next → StepLeaves Reopen next
    leaves_reopen answer outside next again = elim again.ends [
      | inl reopens ↦ leaves_again answer outside next reopens again.moments
      | inr fails ↦ leaves_shut answer outside next fails again.moments
    ]

    -- ---- datagrams of pulls

    leaves_first : (asked : Asked) (why : Option Refusal) (m : Name) (first : First) (datagram : List ℕ) (answer : Answer) (outside : Outside) (next : Host D)
        → AnswersFirst g signer block host why m first datagram answer outside next → StepLeaves asked next
    leaves_first asked (Some why) m first datagram answer outside next says = unchanged asked next says.stays
    leaves_first asked None m first datagram answer outside next (inl begins) =
        touches_beside asked host.server.needs_reopen host.server.queue (place_after 1 host.server.place) host.rules _ next begins.becomes.now
    leaves_first asked None m first datagram answer outside next (inr short) =
        untouched asked host.server.needs_reopen host.server.queue (place_after short.n host.server.place) next short.becomes.now

    leaves_third : (asked : Asked) (why : Option Refusal) (m : Name) (third : Third) (datagram : List ℕ) (answer : Answer) (outside : Outside) (next : Host D)
        → AnswersThird g signer block host why m third datagram answer outside next → StepLeaves asked next
    leaves_third asked (Some why) m third datagram answer outside next says = unchanged asked next says.stays
    leaves_third asked None m third datagram answer outside next (inr short) = unchanged asked next short.stays
    leaves_third asked None m third datagram answer outside next (inl takes) = by_member (is_member (members_now host.server) m) takes
      where
        by_member : (member : Bool)
            → MatchBool member (Replies g signer block host m third datagram answer outside next)
            (Queues g signer block host m third datagram answer outside next)
            → StepLeaves asked next
        by_member true replies = touches_beside asked host.server.needs_reopen host.server.queue host.server.place host.rules _ next replies.becomes.now
        by_member false queues =
            touches_beside asked host.server.needs_reopen (host.server.queue ++ In m ∷ []) host.server.place host.rules _ next queues.becomes.now

    leaves_found : (asked : Asked) (what : LookedAt) (m : Name) (datagram : List ℕ) (answer : Answer) (outside : Outside) (next : Host D)
        → AnswersFound g signer block host what m datagram answer outside next → StepLeaves asked next
    leaves_found asked (Repeat kept) m datagram answer outside next says = unchanged asked next says.stays
    leaves_found asked (NewFirst first) m datagram answer outside next answers =
        leaves_first asked (refusal_to_first host.head.name host.rules host.server m first) m first datagram answer outside next answers
    leaves_found asked (NextThird third) m datagram answer outside next answers =
        leaves_third asked (refusal_to_third host.rules host.server m) m third datagram answer outside next answers

    leaves_looked : (asked : Asked) (datagram : List ℕ) (looked : Result Looked SessionRefusal) (answer : Answer) (outside : Outside) (next : Host D)
        → AnswersLook g signer block host datagram looked answer outside next → StepLeaves asked next
    leaves_looked asked datagram (Ok looked) answer outside next answers = leaves_found asked looked.what looked.member datagram answer outside next answers
    leaves_looked asked datagram (Err why) answer outside next says = unchanged asked next says.stays

    leaves_answering : (asked : Asked) (datagram : List ℕ) (answer : Answer) (outside : Outside) (next : Host D)
        → IsAnswering g signer block host datagram answer outside next → StepLeaves asked next
    leaves_answering asked datagram answer outside next = by_need host.server.needs_reopen
      where
        by_need : (needs_reopen : Bool)
            → MatchBool needs_reopen (Says (Refused NeedsReopen) host answer outside next)
            ((looked : Result Looked SessionRefusal) × IsLook host.sessions.sas datagram looked
            × AnswersLook g signer block host datagram looked answer outside next)
            → StepLeaves asked next
        by_need true says = unchanged asked next says.stays
        by_need false looks = leaves_looked asked datagram looks.0 answer outside next looks.2

    -- ---- all that a server does

    pub leaves_served : (asked : Asked) (answer : Answer) (outside : Outside) (next : Host D) → IsServed d g signer block asked host answer outside next
        → StepLeaves asked next
    leaves_served (AddRule rule) answer outside next (inl more) =
        touches_beside (AddRule rule) host.server.needs_reopen host.server.queue host.server.place _ host.sessions next more.now
    leaves_served (AddRule rule) answer outside next (inr short) = unchanged (AddRule rule) next short.stays
    leaves_served (Introduce phase) answer outside next step =
        touches_beside (Introduce phase) host.server.needs_reopen host.server.queue host.server.place host.rules step.sessions next step.now
    leaves_served (Serve m datagram) answer outside next step = leaves_answering (Serve m datagram) datagram answer outside next step
    leaves_served (Leave m) answer outside next step = leaves_leave m answer next step.now
    leaves_served Batch answer outside next step = leaves_batch answer outside next step
    leaves_served Halt answer outside next step = untouched Halt true host.server.queue host.server.place next step.now
    leaves_served Reopen answer outside next step = leaves_reopen answer outside next step
    leaves_served Show answer outside next step = unchanged Show next step.stays
    leaves_served DeliverAll answer outside next step = unchanged DeliverAll next step.says.stays
    leaves_served asked answer outside next step = absurd step

module _ {D G V : Type 0} (on : Devices D G V) (by : Keying G) where
  -- each entry after the first
  pub leaves_answered : (run : Run D) → HasJournal on.disks run.host
      → ((c : List ℕ) → on.disks.left_since run.host.disk (on.disks.moment run.host.disk) c → on.disks.may_leave run.host.disk c)
      → (first : Entry) (before : List Entry) (entry : Entry) (next : Run D)
      → IsRunStep on by (first ∷ before) run entry next → StepLeaves on.disks on.signers by.signer by.block run.host entry.asked next.host
  leaves_answered run had only_now first before entry next step =
      elim (host_by on by first before run entry next step) [
        | inl served ↦
            leaves_served on.disks on.signers by.signer by.block run.host had only_now entry.asked entry.answer entry.outside next.host served.answered
        | inr stays ↦ unchanged on.disks on.signers by.signer by.block run.host had only_now entry.asked next.host stays.0
      ]
