-- Changes that wait, and stops.
use Rattle.std.proofs.Common.{◌≡◌, ◌∙◌, ℕ, Bool, true, false, List, [], ◌∷◌, ◌++◌, length, Option, Ok, Err, refl, sym, ap, subst}
use Rattle.std.specs.Prelude.{nat_lt, Result, OnErr, if◌then◌else◌}
use Rattle.gd_disk.specs.declared.disks.Disk.{Ghosts as DiskGhosts}
use Rattle.gd_edges.specs.declared.draws.Draws.{Ghosts as DrawGhosts}
use Rattle.gd_edges.specs.declared.signers.Signer.{Ghosts as SignerGhosts}
use Rattle.group_terms.specs.Changes.{is_pending}
use Rattle.group_terms.specs.Names.{Name}
use Rattle.group_terms.specs.declared.changes.Change.{Change}
use Rattle.group_terms.specs.declared.changes.Change.TheVariants.{Out}
use Rattle.group_terms.specs.declared.patterns.Rule.{Rule}
use Rattle.group_values.specs.Values.{batches_made}
use Rattle.group_model.specs.Answers.{answer_to_leave, unless_refused}
use Rattle.group_model.specs.Places.{Holders, holders_of, is_member}
use Rattle.group_model.specs.Servers.{IsLeave, Server, halted, members_now, with_change}
use Rattle.group_model.specs.declared.entries.Answer.{Answer}
use Rattle.group_model.specs.declared.entries.Answer.TheVariants.{Done, Refused}
use Rattle.group_model.specs.declared.entries.Asked.TheVariants.{Halt, Leave}
use Rattle.group_model.specs.declared.entries.Refusal.{Refusal}
use Rattle.gcks_core.specs.Stands.{Stands}
use Rattle.gcks_core.specs.Views.{View}
use Rattle.pull_sessions.specs.Sessions.{Sessions}
use Rattle.server_steps.specs.Changes.{after_leave}
use Rattle.server_steps.specs.Hosts.{with_server}
use Rattle.server_steps.specs.Serves.{GoesOn, ServesBeside, answer_done}
use Rattle.server_steps.specs.Views.{server_of}
use Rattle.server_steps.specs.Waiting.{queue_after_leave}
use Rattle.server_steps.proofs.StillLemmas.{IsPlain, core_of, plain_beside, plain_step, server_still, serves_still}

-- ---- the answers are plain

plain_reason : (answer : Answer) (b : Bool) (x y : Option Refusal) → IsPlain (unless_refused x answer) → IsPlain (unless_refused y answer)
    → IsPlain (unless_refused (if b then x else y) answer)
plain_reason answer true x y first second = first
plain_reason answer false x y first second = second

module _ (needs_reopen : Bool) (depth : ℕ) (holders : Holders) (queue : List Change) (m : Name) where
  plain_leave : IsPlain (answer_to_leave needs_reopen depth holders queue m)
  plain_leave =
      plain_reason Done needs_reopen _ _ (record { no_fault = refl; not_opened = refl })
      (plain_reason Done (is_member holders m) _ _
      (plain_reason Done (is_pending queue m) _ _ (record { no_fault = refl; not_opened = refl })
      (plain_reason Done (nat_lt (length queue) 32) _ _ (record { no_fault = refl; not_opened = refl })
      (record { no_fault = refl; not_opened = refl })))
      (record { no_fault = refl; not_opened = refl }))

-- ---- the server

module _ {D G R : Type 0} {draws : DrawGhosts R} {core : View D G R} {server : Server} (stands : Stands draws core server) where
  pub same_holders : core.tree.holders ≡ members_now server
  same_holders = stands.tree.holders ∙ ap (λ depth. holders_of depth (batches_made server.list)) stands.tree_depth

  -- what waits once a change was granted
  pub queue_more : (new : View D G R) (next : Server) (change : Change) → next ≡ with_change server change → Stands draws new next
      → new.queue ≡ core.queue ++ change ∷ []
  queue_more new next change is after =
      after.queue ∙ ap (λ (s : Server). s.queue) is ∙ ap (λ queue. queue ++ change ∷ []) (sym stands.queue)

module _ {D G R : Type 0} (d : DiskGhosts D) (g : SignerGhosts G) (draws : DrawGhosts R) (core : View D G R) (m : Name) where
  -- only what waits is another
  goes_on_waiting : (new : View D G R) (rules : List Rule) (sessions : Sessions) → new ≡ record core { queue = new.queue }
      → GoesOn draws (server_of core rules sessions) (server_of new rules sessions)
  goes_on_waiting new rules sessions rest = record {
    signer = ap (λ (v : View D G R). v.signer) rest;
    blocks = λ k. ap (λ (v : View D G R). draws.block_at v.draws k) rest;
  }

  -- ---- leaves

  pub leave_refused : (new : View D G R) (why : Refusal) → new ≡ core
      → ((server : Server) → Stands draws core server → (next : Server) × IsLeave server m (Err why) next × Stands draws new next)
      → ServesBeside d g draws (Leave m) (Refused why) core new
  leave_refused new why still step =
      subst (λ new. ServesBeside d g draws (Leave m) (Refused why) core new) (sym still)
      (serves_still d g draws (Leave m) core (Refused why) (λ host server.
      let is = ap (λ reason. unless_refused reason Done) (sym (step host.server server.stands).1.0) in
      let plain = subst IsPlain (sym is) (plain_leave host.server.needs_reopen host.server.depth (members_now host.server) host.server.queue m) in
      (plain, record { answers = is; beside = plain_beside d draws core host (Refused why) server plain; now = refl })))

  pub leave_done : (new : View D G R) → new ≡ record core { queue = new.queue }
      → ((server : Server) → Stands draws core server → (next : Server) × IsLeave server m (Ok tt) next × Stands draws new next)
      → ServesBeside d g draws (Leave m) Done core new
  leave_done new rest step rules sessions = record {
    goes_on = goes_on_waiting new rules sessions rest;
    each = λ host server.
        let taken = step host.server server.stands in
        let is = ap (λ reason. unless_refused reason Done) (sym taken.1.0) in
        let on = core_of d draws core rules sessions host server in
        let plain : IsPlain Done = record { no_fault = refl; not_opened = refl } in (
          after_leave host m Done,
          plain_step d g draws (Leave m) core Done host (with_change host.server (Out m)) plain
              (record { answers = is; beside = plain_beside d draws core host Done on plain; now = refl }),
          server_still d draws core new rules sessions host (host.server.queue ++ Out m ∷ []) host.server.needs_reopen server
              (ap (λ (v : View D G R). v.disk) rest) (ap (λ (v : View D G R). v.head) rest)
              (subst (Stands draws new) taken.1.1 taken.2),
        );
  }

  -- a leave is answered
  pub leave_answered : (new : View D G R) (result : Result (Unit {0}) Refusal) → new ≡ record core { queue = new.queue } → OnErr result (new ≡ core)
      → ((server : Server) → Stands draws core server → (next : Server) × IsLeave server m result next × Stands draws new next)
      → ServesBeside d g draws (Leave m) (answer_done result) core new
  leave_answered new (Ok done) rest still step = leave_done new rest step
  leave_answered new (Err why) rest still step = leave_refused new why still step

  -- and what waits then
  pub leave_waits : (new : View D G R) (result : Result (Unit {0}) Refusal) → OnErr result (new ≡ core) → (server : Server) → Stands draws core server
      → (next : Server) × IsLeave server m result next × Stands draws new next
      → new.queue ≡ queue_after_leave core.queue m (answer_done result)
  leave_waits new (Ok done) still server stands taken = queue_more stands new taken.0 (Out m) taken.1.1 taken.2
  leave_waits new (Err why) still server stands taken = ap (λ (v : View D G R). v.queue) still

-- ---- stops

module _ {D G R : Type 0} (d : DiskGhosts D) (g : SignerGhosts G) (draws : DrawGhosts R) where
  pub halts : (core new : View D G R) → new ≡ record core { needs_reopen = true }
      → ((server : Server) → Stands draws core server → Stands draws new (halted server)) → ServesBeside d g draws Halt Done core new
  halts core new rest step rules sessions = record {
    goes_on = record {
      signer = ap (λ (v : View D G R). v.signer) rest;
      blocks = λ k. ap (λ (v : View D G R). draws.block_at v.draws k) rest;
    };
    each = λ host server.
        let on = core_of d draws core rules sessions host server in
        let plain : IsPlain Done = record { no_fault = refl; not_opened = refl } in (
          with_server host (halted host.server),
          plain_step d g draws Halt core Done host (halted host.server) plain
              (record { answers = refl; beside = plain_beside d draws core host Done on plain; now = refl }),
          server_still d draws core new rules sessions host host.server.queue true server
              (ap (λ (v : View D G R). v.disk) rest) (ap (λ (v : View D G R). v.head) rest) (step host.server server.stands),
        );
  }
