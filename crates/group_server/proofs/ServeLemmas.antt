-- Requests that leave the disk as it is.
use Rattle.std.proofs.Common.{◌≡◌, ◌∙◌, ◌⊎◌, ℕ, Bool, true, false, List, Option, None, Some, Result, Ok, Err, refl, sym, ap, subst, inl, inr, arith}
use Rattle.std.specs.Prelude.{MatchBool, if◌then◌else◌, ◌==◌, ◌^◌, nat_lt, length}
use Rattle.gd_disk.specs.Moments.{Keeps}
use Rattle.gd_disk.specs.declared.disks.Disk.{Ghosts as DiskGhosts}
use Rattle.gd_edges.specs.declared.draws.Draws.{Ghosts as DrawGhosts}
use Rattle.gd_edges.specs.declared.signers.Signer.{Ghosts as SignerGhosts}
use Rattle.group_terms.specs.Changes.{is_pending}
use Rattle.group_terms.specs.Names.{Name}
use Rattle.group_terms.specs.declared.changes.Change.{Change}
use Rattle.group_terms.specs.declared.patterns.Rule.{Rule}
use Rattle.group_model.specs.Answers.{disk_failed_by, found_by}
use Rattle.group_model.specs.Places.{Holders, is_member}
use Rattle.group_model.specs.Refusals.{leaves_taken, why_no_join}
use Rattle.group_model.specs.Servers.{Server, members_now, refusal_to_join}
use Rattle.group_model.specs.declared.entries.Answer.{Answer}
use Rattle.group_model.specs.declared.entries.Answer.TheVariants.{Datagram, Queued, Refused}
use Rattle.group_model.specs.declared.entries.Asked.{Asked}
use Rattle.group_model.specs.declared.entries.Asked.TheVariants.{Serve}
use Rattle.group_model.specs.declared.entries.Outside.{Outside}
use Rattle.group_model.specs.declared.entries.Refusal.{Refusal}
use Rattle.group_model.specs.declared.entries.Refusal.TheVariants.{AlreadyPending, NeedsReopen, NoMemory, WrongGroup}
use Rattle.group_model.specs.declared.entries.SymReply.{SymReply}
use Rattle.group_records.specs.declared.heads.Head.{Head}
use Rattle.group_policy.specs.Judgements.{judgement}
use Rattle.group_policy.specs.declared.verdicts.Verdict.{Verdict}
use Rattle.group_policy.specs.declared.verdicts.Verdict.TheVariants.{Allowed, Denied}
use Rattle.gcks_core.specs.Stands.{Stands}
use Rattle.pull_msgs.specs.declared.messages.First.{First}
use Rattle.pull_msgs.specs.declared.messages.Third.{Third}
use Rattle.pull_sessions.specs.Looks.{IsLook}
use Rattle.pull_sessions.specs.Sessions.{Sessions}
use Rattle.pull_sessions.specs.declared.answers.Kept.{Kept}
use Rattle.pull_sessions.specs.declared.answers.Kept.TheVariants as kept
use Rattle.pull_sessions.specs.declared.answers.Looked.{Looked}
use Rattle.pull_sessions.specs.declared.answers.LookedAt.{LookedAt}
use Rattle.pull_sessions.specs.declared.answers.LookedAt.TheVariants.{NewFirst, NextThird, Repeat}
use Rattle.pull_sessions.specs.declared.refusals.SessionRefusal.{SessionRefusal}
use Rattle.pull_sessions.specs.declared.refusals.SessionRefusal.TheVariants as causes
use Rattle.pull_sessions.specs.declared.sas.Sa.{Sa}
use Rattle.server_steps.specs.Disks.{Counts}
use Rattle.server_steps.specs.Entries.{beside}
use Rattle.server_steps.specs.Hosts.{Host}
use Rattle.server_steps.specs.Outsides.{Says, quiet}
use Rattle.server_steps.specs.Pulls.{AnswersFirst, AnswersLook, AnswersThird, Begins, Queues, Replies, RunsOutAtFirst, answer_kept, reply_now}
use Rattle.server_steps.specs.Reflects.{IsServerOf}
use Rattle.server_steps.specs.Refusals.{names_group, refusal_of, refusal_to_first, refusal_to_third, unless_denied, why_pending}
use Rattle.server_steps.specs.Serves.{GoesOn, Serves}
use Rattle.server_steps.specs.Steps.{IsServed}
use Rattle.server_steps.specs.Views.{View}
use Rattle.group_server.specs.Private.Accepted.{AcceptsFirst, AcceptsJoin, AcceptsMember, StepsBy}
use Rattle.group_server.proofs.JudgeLemmas.{same_member}

-- ---- answers beside which nothing is noted but the place of the draws

pub record IsPlain (answer : Answer) : Type 0 where
  pub no_fault : disk_failed_by answer ≡ false
  pub not_opened : found_by answer ≡ None

pub plain_datagram : (answer : Answer) (octets : List ℕ) (names : Option SymReply) → answer ≡ Datagram octets names → IsPlain answer
plain_datagram answer octets names is = subst IsPlain (sym is) (record { no_fault = refl; not_opened = refl })

pub plain_queued : (answer : Answer) → answer ≡ Queued → IsPlain answer
plain_queued answer is = subst IsPlain (sym is) (record { no_fault = refl; not_opened = refl })

pub plain_memory : (answer : Answer) → answer ≡ Refused NoMemory → IsPlain answer
plain_memory answer is = subst IsPlain (sym is) (record { no_fault = refl; not_opened = refl })

pub plain_kept : (answer : Kept) → IsPlain (answer_kept answer)
plain_kept (kept.Datagram octets names) = record { no_fault = refl; not_opened = refl }
plain_kept kept.Queued = record { no_fault = refl; not_opened = refl }

pub plain_refusal : (why : SessionRefusal) → IsPlain (Refused (refusal_of why))
plain_refusal (causes.Malformed message at) = record { no_fault = refl; not_opened = refl }
plain_refusal causes.UnknownPeer = record { no_fault = refl; not_opened = refl }
plain_refusal causes.WrongStep = record { no_fault = refl; not_opened = refl }
plain_refusal (causes.BadHash carried expected) = record { no_fault = refl; not_opened = refl }
plain_refusal causes.PhaseTaken = record { no_fault = refl; not_opened = refl }
plain_refusal (causes.PhaseFull held) = record { no_fault = refl; not_opened = refl }
plain_refusal causes.NoMemory = record { no_fault = refl; not_opened = refl }

-- a refusal for this reason is such an answer, if there is a reason
abbrev PlainIf : Option Refusal → Type 0
PlainIf None = Unit {0}
PlainIf (Some why) = IsPlain (Refused why)

plain_if : (b : Bool) (x y : Option Refusal) → PlainIf x → PlainIf y → PlainIf (if b then x else y)
plain_if true x y first second = first
plain_if false x y first second = second

plain_unless : (verdict : Verdict) (later : Option Refusal) → PlainIf later → PlainIf (unless_denied verdict later)
plain_unless (Allowed rule) later plain = plain
plain_unless (Denied rule) later plain = record { no_fault = refl; not_opened = refl }

plain_pending : (server : Server) (m : Name) → PlainIf (why_pending server m)
plain_pending server m = plain_if (is_pending server.queue m) (Some AlreadyPending) None (record { no_fault = refl; not_opened = refl }) tt

plain_no_join : (needs_reopen : Bool) (depth : ℕ) (holders : Holders) (queue : List Change) (m : Name)
    → PlainIf (why_no_join needs_reopen depth holders queue m)
plain_no_join needs_reopen depth holders queue m =
    plain_if needs_reopen _ _ (record { no_fault = refl; not_opened = refl })
    (plain_if (is_pending queue m) _ _ (record { no_fault = refl; not_opened = refl })
    (plain_if (leaves_taken depth holders queue == 2 ^ depth) _ _ (record { no_fault = refl; not_opened = refl })
    (plain_if (nat_lt (length queue) 32) _ _ tt (record { no_fault = refl; not_opened = refl }))))

plain_first : (group : Name) (rules : List Rule) (server : Server) (m : Name) (first : First) → PlainIf (refusal_to_first group rules server m first)
plain_first group rules server m first =
    plain_if (names_group group first) (unless_denied (judgement rules m) (why_pending server m)) (Some WrongGroup)
    (plain_unless (judgement rules m) (why_pending server m) (plain_pending server m)) (record { no_fault = refl; not_opened = refl })

plain_third : (rules : List Rule) (server : Server) (m : Name) → PlainIf (refusal_to_third rules server m)
plain_third rules server m =
    plain_unless (judgement rules m) (if is_member (members_now server) m then why_pending server m else refusal_to_join server m)
    (plain_if (is_member (members_now server) m) (why_pending server m) (refusal_to_join server m) (plain_pending server m)
    (plain_no_join server.needs_reopen server.depth (members_now server) server.queue m))

-- ---- looks

-- what a look found is this
pub found : (sas : List Sa) (datagram : List ℕ) (looked : Looked) (what : LookedAt) → looked.what ≡ what → IsLook sas datagram (Ok looked)
    → IsLook sas datagram (Ok (record { member = looked.member; what = what }))
found sas datagram looked what is look =
    subst (λ (what : LookedAt). IsLook sas datagram (Ok (record { member = looked.member; what = what }))) is look

-- ---- requests

-- the disk is the same
keeps_still : {D : Type 0} (d : DiskGhosts D) (disk : D) → Keeps d disk disk
keeps_still d disk = record { honest = refl; exposed = (λ some. some, λ some. some); counted = omega arith }

module _ {D G R : Type 0} (d : DiskGhosts D) (draws : DrawGhosts R) where
  pub goes_on_still : (view : View D G R) → GoesOn draws view view
  goes_on_still view = record { signer = refl; blocks = λ k. refl }

  pub plain_beside : (view : View D G R) (host : Host D) (answer : Answer) → IsServerOf d draws view host → IsPlain answer
      → beside answer (draws.place_of view.core.draws) ≡ quiet host
  plain_beside view host answer server plain i = record {
    disk_failed = plain.no_fault i;
    found = plain.not_opened i;
    place = server.stands.place i;
  }

  -- an answer is given, and nothing changes
  pub says : (due answer : Answer) (view : View D G R) (host : Host D) → IsServerOf d draws view host → IsPlain answer → answer ≡ due
      → Says due host answer (beside answer (draws.place_of view.core.draws)) host
  says due answer view host server plain is =
      record { answers = is; beside = plain_beside view host answer server plain; stays = refl }

module _ {D G R : Type 0} (d : DiskGhosts D) (g : SignerGhosts G) (draws : DrawGhosts R) where
  -- a host is after a request that was answered so, and the server is that of it
  pub record Quietly (request : Asked) (answer : Answer) (old new : View D G R) (host : Host D) : Type 0 where
    pub plain : IsPlain answer
    pub next : Host D
    pub answered : IsServed d g old.core.signer (draws.block_at old.core.draws) request host answer (beside answer (draws.place_of old.core.draws)) next
    pub disk : next.disk ≡ host.disk
    pub server : IsServerOf d draws new next

  pub quietly : (request : Asked) (answer : Answer) (old new : View D G R) → GoesOn draws old new
      → ((host : Host D) → IsServerOf d draws old host → Quietly request answer old new host) → Serves d g draws request answer old new
  quietly request answer old new on does = record {
    goes_on = on;
    each = λ host server.
        let did = does host server in (
          did.next,
          record {
            answered = did.answered;
            keeps = subst (Keeps d host.disk) (sym did.disk) (keeps_still d host.disk);
            counts = subst (λ failed. Counts d failed host.disk did.next.disk) (sym did.plain.no_fault) (ap d.faults did.disk);
          },
          did.server,
        );
  }

  -- ---- datagrams

  module _ (asker : Name) (datagram : List ℕ) where
    -- where it has to be opened again, that is the answer
    pub stopped : (old : View D G R) → old.core.needs_reopen ≡ true → Serves d g draws (Serve asker datagram) (Refused NeedsReopen) old old
    stopped old stops = quietly (Serve asker datagram) (Refused NeedsReopen) old old (goes_on_still d draws old) (λ host server.
        let plain : IsPlain (Refused NeedsReopen) = record { no_fault = refl; not_opened = refl } in
        let outside : Outside = beside (Refused NeedsReopen) (draws.place_of old.core.draws) in
        record {
          plain = plain;
          next = host;
          answered =
              subst (λ needs_reopen. MatchBool needs_reopen (Says (Refused NeedsReopen) host (Refused NeedsReopen) outside host)
              ((looked : Result Looked SessionRefusal) × IsLook host.sessions.sas datagram looked
              × AnswersLook g old.core.signer (draws.block_at old.core.draws) host datagram looked (Refused NeedsReopen) outside host))
              (sym (sym server.stands.needs_reopen ∙ stops)) (says d draws (Refused NeedsReopen) (Refused NeedsReopen) old host server plain refl);
          disk = refl;
          server = server;
        })

    -- what a look found is answered so on a host
    pub record Finds (looked : Result Looked SessionRefusal) (answer : Answer) (old new : View D G R) (host : Host D) : Type 0 where
      pub plain : IsPlain answer
      pub next : Host D
      pub answered : AnswersLook g old.core.signer (draws.block_at old.core.draws) host datagram looked answer (beside answer (draws.place_of old.core.draws)) next
      pub disk : next.disk ≡ host.disk
      pub server : IsServerOf d draws new next

    looked_at : (looked : Result Looked SessionRefusal) (answer : Answer) (old new : View D G R) → old.core.needs_reopen ≡ false
        → IsLook old.sessions.sas datagram looked → GoesOn draws old new
        → ((host : Host D) → IsServerOf d draws old host → Finds looked answer old new host) → Serves d g draws (Serve asker datagram) answer old new
    looked_at looked answer old new goes look on does = quietly (Serve asker datagram) answer old new on (λ host server.
        let did = does host server in
        let outside : Outside = beside answer (draws.place_of old.core.draws) in
        record {
          plain = did.plain;
          next = did.next;
          answered =
              subst (λ needs_reopen. MatchBool needs_reopen (Says (Refused NeedsReopen) host answer outside did.next)
              ((looked : Result Looked SessionRefusal) × IsLook host.sessions.sas datagram looked
              × AnswersLook g old.core.signer (draws.block_at old.core.draws) host datagram looked answer outside did.next))
              (sym (sym server.stands.needs_reopen ∙ goes))
              (looked, subst (λ (sessions : Sessions). IsLook sessions.sas datagram looked) (sym server.sessions) look, did.answered);
          disk = did.disk;
          server = did.server;
        })

    -- nothing is found that is accepted
    pub refused_look : (old : View D G R) (why : SessionRefusal) → old.core.needs_reopen ≡ false → IsLook old.sessions.sas datagram (Err why)
        → Serves d g draws (Serve asker datagram) (Refused (refusal_of why)) old old
    refused_look old why goes look = looked_at (Err why) (Refused (refusal_of why)) old old goes look (goes_on_still d draws old) (λ host server. record {
      plain = plain_refusal why;
      next = host;
      answered = says d draws (Refused (refusal_of why)) (Refused (refusal_of why)) old host server (plain_refusal why) refl;
      disk = refl;
      server = server;
    })

    -- what was answered before
    pub again : (old : View D G R) (m : Name) (answer : Kept) → old.core.needs_reopen ≡ false
        → IsLook old.sessions.sas datagram (Ok (record { member = m; what = Repeat answer }))
        → Serves d g draws (Serve asker datagram) (answer_kept answer) old old
    again old m answer goes look =
        looked_at (Ok (record { member = m; what = Repeat answer })) (answer_kept answer) old old goes look (goes_on_still d draws old) (λ host server. record {
          plain = plain_kept answer;
          next = host;
          answered = says d draws (answer_kept answer) (answer_kept answer) old host server (plain_kept answer) refl;
          disk = refl;
          server = server;
        })

    module _ (old : View D G R) (m : Name) (goes : old.core.needs_reopen ≡ false) where
      -- ---- first messages

      module _ (first : First) (look : IsLook old.sessions.sas datagram (Ok (record { member = m; what = NewFirst first })))
          (reason : Option Refusal) (is : (server : Server) → Stands draws old.core server → reason ≡ refusal_to_first old.core.head.name old.rules server m first) where
        first_due : (host : Host D) → IsServerOf d draws old host → reason ≡ refusal_to_first host.head.name host.rules host.server m first
        first_due host server =
            is host.server server.stands
            ∙ (ap (λ (head : Head). refusal_to_first head.name old.rules host.server m first) (sym server.head)
            ∙ ap (λ rules. refusal_to_first host.head.name rules host.server m first) (sym server.rules))

        pub refused_first : (why : Refusal) → reason ≡ Some why → Serves d g draws (Serve asker datagram) (Refused why) old old
        refused_first why some =
            looked_at (Ok (record { member = m; what = NewFirst first })) (Refused why) old old goes look (goes_on_still d draws old) (λ host server.
            let due = first_due host server in
            let plain : IsPlain (Refused why) = subst PlainIf (sym due ∙ some) (plain_first host.head.name host.rules host.server m first) in
            record {
              plain = plain;
              next = host;
              answered =
                  subst (λ reason. AnswersFirst g old.core.signer (draws.block_at old.core.draws) host reason m first datagram (Refused why)
                  (beside (Refused why) (draws.place_of old.core.draws)) host) (sym some ∙ due)
                  (says d draws (Refused why) (Refused why) old host server plain refl);
              disk = refl;
              server = server;
            })

        pub accepted_first : (new : View D G R) (answer : Answer) → reason ≡ None → AcceptsFirst d g draws m first datagram answer old new
            → Serves d g draws (Serve asker datagram) answer old new
        accepted_first new answer none accepts =
            looked_at (Ok (record { member = m; what = NewFirst first })) answer old new goes look accepts.goes_on (λ host server.
            let step = accepts.each host server in record {
              plain = plain_of host step.0 step.1;
              next = step.0;
              answered =
                  subst (λ reason. AnswersFirst g old.core.signer (draws.block_at old.core.draws) host reason m first datagram answer
                  (beside answer (draws.place_of old.core.draws)) step.0) (sym none ∙ first_due host server) step.1;
              disk = step.2;
              server = step.3;
            })
          where
            plain_of : (host next : Host D)
                → Begins g old.core.signer (draws.block_at old.core.draws) host m first datagram answer (beside answer (draws.place_of old.core.draws)) next
                ⊎ RunsOutAtFirst g old.core.signer (draws.block_at old.core.draws) host answer (beside answer (draws.place_of old.core.draws)) next
                → IsPlain answer
            plain_of host next (inl begins) = plain_datagram answer begins.second None begins.becomes.answers
            plain_of host next (inr out) = plain_memory answer out.becomes.answers

      -- ---- third messages

      module _ (third : Third) (look : IsLook old.sessions.sas datagram (Ok (record { member = m; what = NextThird third })))
          (reason : Option Refusal) (is : (server : Server) → Stands draws old.core server → reason ≡ refusal_to_third old.rules server m) where
        third_due : (host : Host D) → IsServerOf d draws old host → reason ≡ refusal_to_third host.rules host.server m
        third_due host server = is host.server server.stands ∙ ap (λ rules. refusal_to_third rules host.server m) (sym server.rules)

        pub refused_third : (why : Refusal) → reason ≡ Some why → Serves d g draws (Serve asker datagram) (Refused why) old old
        refused_third why some =
            looked_at (Ok (record { member = m; what = NextThird third })) (Refused why) old old goes look (goes_on_still d draws old) (λ host server.
            let due = third_due host server in
            let plain : IsPlain (Refused why) = subst PlainIf (sym due ∙ some) (plain_third host.rules host.server m) in
            record {
              plain = plain;
              next = host;
              answered =
                  subst (λ reason. AnswersThird g old.core.signer (draws.block_at old.core.draws) host reason m third datagram (Refused why)
                  (beside (Refused why) (draws.place_of old.core.draws)) host) (sym some ∙ due)
                  (says d draws (Refused why) (Refused why) old host server plain refl);
              disk = refl;
              server = server;
            })

        -- it is accepted, by this step, which is the one that is due to its member, or memory is short
        accepted_third : (Step : Host D → Answer → Outside → Host D → Type 0) (new : View D G R) (answer : Answer) → reason ≡ None
            → ((host next : Host D) (outside : Outside) → Step host answer outside next → IsPlain answer)
            → ((host next : Host D) (outside : Outside) → IsServerOf d draws old host → Step host answer outside next
            → MatchBool (is_member (members_now host.server) m)
            (Replies g old.core.signer (draws.block_at old.core.draws) host m third datagram answer outside next)
            (Queues g old.core.signer (draws.block_at old.core.draws) host m third datagram answer outside next))
            → StepsBy d g draws (λ host answer outside next. Step host answer outside next ⊎ Says (Refused NoMemory) host answer outside next) answer old new
            → Serves d g draws (Serve asker datagram) answer old new
        accepted_third Step new answer none plain due accepts =
            looked_at (Ok (record { member = m; what = NextThird third })) answer old new goes look accepts.goes_on (λ host server.
            let outside : Outside = beside answer (draws.place_of old.core.draws) in
            let step = accepts.each host server in record {
              plain = plain_of host step.0 outside step.1;
              next = step.0;
              answered =
                  subst (λ reason. AnswersThird g old.core.signer (draws.block_at old.core.draws) host reason m third datagram answer outside step.0)
                  (sym none ∙ third_due host server) (answers host step.0 outside server step.1);
              disk = step.2;
              server = step.3;
            })
          where
            plain_of : (host next : Host D) (outside : Outside) → Step host answer outside next ⊎ Says (Refused NoMemory) host answer outside next
                → IsPlain answer
            plain_of host next outside (inl step) = plain host next outside step
            plain_of host next outside (inr out) = plain_memory answer out.answers

            answers : (host next : Host D) (outside : Outside) → IsServerOf d draws old host
                → Step host answer outside next ⊎ Says (Refused NoMemory) host answer outside next
                → AnswersThird g old.core.signer (draws.block_at old.core.draws) host None m third datagram answer outside next
            answers host next outside server (inl step) = inl (due host next outside server step)
            answers host next outside server (inr out) = inr out

        -- the step that is due to its member, if this is known
        due_to : (host : Host D) (b : Bool) → IsServerOf d draws old host → is_member old.core.tree.holders m ≡ b → (P Q : Type 0) → MatchBool b P Q
            → MatchBool (is_member (members_now host.server) m) P Q
        due_to host b server its P Q = subst (λ b. MatchBool b P Q) (sym (sym (same_member server.stands m) ∙ its))

        pub accepted_member : (new : View D G R) (answer : Answer) → reason ≡ None → is_member old.core.tree.holders m ≡ true
            → AcceptsMember d g draws m third datagram answer old new → Serves d g draws (Serve asker datagram) answer old new
        accepted_member new answer none member =
            accepted_third (λ host answer outside next. Replies g old.core.signer (draws.block_at old.core.draws) host m third datagram answer outside next)
            new answer none
            (λ host next outside replies. plain_datagram answer replies.fourth (Some (reply_now host.server m)) replies.becomes.answers)
            (λ host next outside server. due_to host true server member _ _)

        pub accepted_join : (new : View D G R) (answer : Answer) → reason ≡ None → is_member old.core.tree.holders m ≡ false
            → AcceptsJoin d g draws m third datagram answer old new → Serves d g draws (Serve asker datagram) answer old new
        accepted_join new answer none stranger =
            accepted_third (λ host answer outside next. Queues g old.core.signer (draws.block_at old.core.draws) host m third datagram answer outside next)
            new answer none (λ host next outside queues. plain_queued answer queues.becomes.answers)
            (λ host next outside server. due_to host false server stranger _ _)
