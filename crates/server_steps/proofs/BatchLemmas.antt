-- A key server that closes a batch: the answer and the next host, whatever host it was on.
use Rattle.std.proofs.Common.{◌≡◌, ◌∙◌, inl, inr, ⊎_elim, ℕ, ◌≤◌, Bool, true, false, cond, List, [], ◌∷◌, ◌++◌}
use Rattle.std.proofs.Common.{Option, None, Some, Result, Ok, Err, refl, sym, ap, subst, arith}
use Rattle.std.specs.Prelude.{IsErrAnd}
use Rattle.std.specs.List.{All}
use Rattle.std.proofs.lemmas.List.{length-map}
use Rattle.gd_disk.specs.Disks.{Knows}
use Rattle.gd_disk.specs.MomentLaws.{leaves_now, shown_before}
use Rattle.gd_disk.specs.Moments.{shown, Keeps, LeavesOnly}
use Rattle.gd_disk.specs.declared.disks.Disk.{Ghosts as DiskGhosts}
use Rattle.gd_edges.specs.declared.draws.Draws.{Ghosts as DrawGhosts}
use Rattle.gd_edges.specs.declared.signers.Signer.{Ghosts as SignerGhosts}
use Rattle.group_terms.specs.Faults.{Rose}
use Rattle.group_terms.specs.declared.patterns.Rule.{Rule}
use Rattle.group_terms.specs.declared.values.BatchValues.{BatchValues}
use Rattle.group_values.specs.Drawing.{blocks_for}
use Rattle.group_values.specs.Values.{Made, batches_made}
use Rattle.group_model.specs.Answers.{IsOutputOf, disk_failed_by, is_disk_fault}
use Rattle.group_model.specs.Replies.{replies_to, says_of}
use Rattle.group_model.specs.Servers.{IsPreparation, IsStoring, Server, after_draws, blocks_to_draw, coming_batch, coming_positions, coming_values}
use Rattle.group_model.specs.Servers.{drawn_unless, in_doubt, refusal_to_batch, with_batch}
use Rattle.group_model.specs.Stayed.{sequence_at}
use Rattle.group_model.specs.Wraps.{wraps_at}
use Rattle.group_model.specs.declared.entries.Answer.{Answer}
use Rattle.group_model.specs.declared.entries.Answer.TheVariants.{Batched, Refused}
use Rattle.group_model.specs.declared.entries.Asked.TheVariants.{Batch}
use Rattle.group_model.specs.declared.entries.Counter.TheVariants.{Epoch, Sequence}
use Rattle.group_model.specs.declared.entries.Output.{Output}
use Rattle.group_model.specs.declared.entries.Refusal.{Refusal}
use Rattle.group_model.specs.declared.entries.Refusal.TheVariants.{DiskFault, NeedsReopen, NoMemory, Spent}
use Rattle.group_model.specs.declared.entries.SentReply.{SentReply}
use Rattle.group_pushes.specs.Fits.{MadeFits, ValuesFit}
use Rattle.group_pushes.specs.Pairs.{IsPairIfStayed}
use Rattle.tree_store.specs.Groups.{IsGroup}
use Rattle.gcks_core.specs.declared.outputs.CoreOutput.{CoreOutput}
use Rattle.gcks_core.specs.Prepares.{IsCoreOutputOf, IsReadyFor, PreparedBatch}
use Rattle.gcks_core.specs.Stands.{Stands}
use Rattle.gcks_core.specs.Stored.{IsFileOf, IsOnDisk, stored_list}
use Rattle.gcks_core.specs.Views.{View}
use Rattle.pull_sessions.specs.Sessions.{Sessions}
use Rattle.pull_sessions.specs.declared.sas.Sa.{Sa}
use Rattle.server_steps.specs.Batches.{IsBatching, PutsOut}
use Rattle.server_steps.specs.Disks.{Counts, HasJournal}
use Rattle.server_steps.specs.Entries.{beside}
use Rattle.server_steps.specs.Fourths.{IsFourthReply, settled}
use Rattle.server_steps.specs.Hosts.{Host}
use Rattle.server_steps.specs.Joining.{JoinsHaveSessions}
use Rattle.server_steps.specs.Private.Told.{AreRepliesTo}
use Rattle.server_steps.specs.Reflects.{IsServerOf}
use Rattle.server_steps.specs.Serves.{GoesOn, Serves, answer_batch}
use Rattle.server_steps.specs.Views.{View as ServerView, server_of}
use Rattle.server_steps.proofs.ReplyLemmas.{replies_made, replies_say}
use Rattle.server_steps.proofs.StillLemmas.{keeps_still}

-- ---- a reason against a batch is no fault of the disk

abbrev is_fault : Option Refusal → Bool
is_fault None = false
is_fault (Some why) = is_disk_fault why

no_reason_fails : (needs_reopen below within : Bool) (epoch sequence : ℕ)
    → is_fault (cond needs_reopen (Some NeedsReopen) (cond below (cond within None (Some (Spent Sequence sequence))) (Some (Spent Epoch epoch)))) ≡ false
no_reason_fails true below within epoch sequence = refl
no_reason_fails false true true epoch sequence = refl
no_reason_fails false true false epoch sequence = refl
no_reason_fails false false within epoch sequence = refl

no_fault : (server : Server) (why : Refusal) → refusal_to_batch server ≡ Some why → is_disk_fault why ≡ false
no_fault server why reason = sym (ap is_fault reason) ∙ no_reason_fails server.needs_reopen _ _ _ _

-- ---- the output of a batch, with its replies

abbrev pub with_replies : CoreOutput → List SentReply → Output
with_replies output replies = record {
  epoch = output.epoch;
  sequence = output.sequence;
  members = output.members;
  wraps = output.wraps;
  pushes = output.pushes;
  replies = replies;
}

module _ {D G R : Type 0} (d : DiskGhosts D) (g : SignerGhosts G) (draws : DrawGhosts R) where
  -- the host of a key server
  abbrev at_host : ServerView D G R → Server → Host D
  at_host view server = record { disk = view.core.disk; head = view.core.head; server = server; rules = view.rules; sessions = view.sessions }

  -- the answer is that step of a host, and this is the server of the host after it
  record Closes (old : ServerView D G R) (answer : Answer) (new : ServerView D G R) (host next : Host D) : Type 0 where
    answered : IsBatching d g old.core.signer (draws.block_at old.core.draws) host answer (beside answer host.server.place) next
    keeps : Keeps d host.disk next.disk
    counts : Counts d (disk_failed_by answer) host.disk next.disk
    server : IsServerOf d draws new next

  -- it is enough to look at these hosts
  by_core : (old : ServerView D G R) (answer : Answer) (new : ServerView D G R) → GoesOn draws old new
      → ((server : Server) → Stands draws old.core server → HasJournal d (at_host old server)
      → (next : Host D) × Closes old answer new (at_host old server) next)
      → Serves d g draws Batch answer old new
  by_core old answer new goes_on each = record {
    goes_on = goes_on;
    each = λ host is.
        let same : at_host old host.server ≡ host =
        λ i. record { disk = sym is.disk i; head = sym is.head i; server = host.server; rules = sym is.rules i; sessions = sym is.sessions i } in
        let done : (next : Host D) × Closes old answer new host next =
        subst (λ at. (next : Host D) × Closes old answer new at next) same
        (each host.server is.stands (subst (HasJournal d) (sym same) is.journal)) in (
          done.0,
          record {
            answered = subst (λ place. IsBatching d g old.core.signer (draws.block_at old.core.draws) host answer (beside answer place) done.0)
                (sym is.stands.place) done.1.answered;
            keeps = done.1.keeps;
            counts = done.1.counts;
          },
          done.1.server,
        );
  }

  -- how a core was prepared
  abbrev pub Prepares : View D G R → Result BatchValues Refusal → View D G R → Type 0
  Prepares old result mid = (server : Server) → Stands draws old server
      → (next : Server) × IsPreparation (draws.block_at old.draws) server result next × Stands draws mid next

  -- rules and sessions beside a core that closes a batch
  module _ (rules : List Rule) (sessions : Sessions) (old mid : View D G R) (rest : mid ≡ record old { draws = mid.draws })
      (blocks : (k : ℕ) → draws.block_at mid.draws k ≡ draws.block_at old.draws k) where
    -- ---- nothing was stored

    abbrev was : ServerView D G R
    was = server_of old rules sessions

    abbrev is_now : ServerView D G R
    is_now = server_of mid rules sessions

    goes_on_drawn : GoesOn draws was is_now
    goes_on_drawn = record { signer = ap (λ (core : View D G R). core.signer) rest; blocks = blocks }

    is_server : (server : Server) → Stands draws mid server → HasJournal d (at_host was server) → IsServerOf d draws is_now (at_host was server)
    is_server server stands journal = record {
      disk = ap (λ (core : View D G R). core.disk) (sym rest);
      head = ap (λ (core : View D G R). core.head) (sym rest);
      stands = stands;
      journal = journal;
      rules = refl;
      sessions = refl;
    }

    -- out of memory
    memory_ends : (server : Server) → HasJournal d (at_host was server)
        → (n : ℕ) → n ≤ blocks_to_draw server → Stands draws mid (after_draws server n)
        → (next : Host D) × Closes was (Refused NoMemory) is_now (at_host was server) next
    memory_ends server journal n few stands = (
      at_host was (after_draws server n),
      record {
        answered = inr (inr (inr (record { answers = refl; beside = refl; n = n; few = few; now = refl })));
        keeps = keeps_still d old.disk;
        counts = refl;
        server = is_server (after_draws server n) stands (record { file = journal.file; crash = journal.crash });
      },
    )

    pub lacks_memory : (values : BatchValues) → Prepares old (Ok values) mid → Serves d g draws Batch (Refused NoMemory) was is_now
    lacks_memory values prepares = by_core was (Refused NoMemory) is_now goes_on_drawn each
      where
        each : (server : Server) → Stands draws old server → HasJournal d (at_host was server)
            → (next : Host D) × Closes was (Refused NoMemory) is_now (at_host was server) next
        each server stands journal =
            let step = prepares server stands in
            let all = blocks_for (coming_positions server) in
            let few : all ≤ blocks_to_draw server = subst (λ reason. all ≤ drawn_unless reason all) (sym step.1.0) (omega arith) in
            memory_ends server journal all few (subst (Stands draws mid) step.1.2 step.2)

    pub is_refused : (why : Refusal) → Prepares old (Err why) mid → Serves d g draws Batch (Refused why) was is_now
    is_refused why prepares = by_core was (Refused why) is_now goes_on_drawn each
      where
        each : (server : Server) → Stands draws old server → HasJournal d (at_host was server)
            → (next : Host D) × Closes was (Refused why) is_now (at_host was server) next
        each server stands journal =
            let step = prepares server stands in
            let host : Host D = at_host was server in
            ⊎_elim
            (λ (refused : (refusal_to_batch server ≡ Some why) × (step.0 ≡ server)).
            let no = no_fault server why refused.0 in (
              host,
              record {
                answered = inr (inr (inl (record {
                  why = why;
                  reason = refused.0;
                  says = record {
                    answers = refl;
                    beside = ap (λ b. record { disk_failed = b; found = None; place = server.place }) no;
                    stays = refl;
                  };
                })));
                keeps = keeps_still d old.disk;
                counts = subst (λ b. Counts d b old.disk old.disk) (sym no) refl;
                server = is_server server (subst (Stands draws mid) refused.1 step.2) journal;
              },
            ))
            (λ (ran : (why ≡ NoMemory) × ((n : ℕ) × (n ≤ blocks_to_draw server) × (step.0 ≡ after_draws server n))).
            subst (λ at. (next : Host D) × Closes was (Refused at) is_now host next) (sym ran.0)
            (memory_ends server journal ran.1.0 ran.1.1 (subst (Stands draws mid) ran.1.2 step.2)))
            step.1

  -- ---- what a batch that is ready puts out, where it is stored

  -- by a server, with this batch and these replies, where these are the SAs
  record IsOut (mid : View D G R) (sas : List Sa) (ready : PreparedBatch) (replies : List SentReply) (server : Server) (made : Made) : Type 0 where
    output_is : IsCoreOutputOf g mid.signer mid.head.depth mid.head.spi (server.list ++ made ∷ []) ready.output
    says : says_of replies ≡ replies_to mid.head.depth (batches_made (server.list ++ made ∷ [])) server.queue
    sends : All (IsFourthReply mid.head.depth mid.head.spi (server.list ++ made ∷ []) sas) replies

  goes_out : (mid : View D G R) (sas : List Sa) (ready : PreparedBatch) (replies : List SentReply) → AreRepliesTo sas ready.output.told replies
      → JoinsHaveSessions mid.queue sas → (server : Server) → Stands draws mid server
      → IsReadyFor g mid.signer mid.head mid.tree mid.queue server.list ready → IsOut mid sas ready replies server (coming_batch server ready.values)
  goes_out mid sas ready replies are sound server stands is_ready =
      let is = subst (λ queue. IsReadyFor g mid.signer mid.head mid.tree queue server.list ready) stands.queue is_ready in
      let joins = subst (λ queue. JoinsHaveSessions queue sas) stands.queue sound in
      let list : List Made = server.list ++ coming_batch server ready.values ∷ [] in
      record {
        output_is = is.puts_out;
        says = replies_say mid.head.depth mid.head.spi list sas ready.output.told replies server.queue are is.joiners_are is.replies_are;
        sends = replies_made mid.head.depth mid.head.spi list sas ready.output.told replies server.queue are is.joiners_are joins is.replies_are;
      }

  -- what holds of a refusal holds of the answer to a call that handed it on
  pub answered_err : (P : Answer → Type 0) (result : Result Output Refusal) (why : Refusal) → IsErrAnd result (λ reason. reason ≡ why) → P (Refused why)
      → P (answer_batch result)
  answered_err P (Ok output) why is holds = absurd is
  answered_err P (Err reason) why is holds = subst (λ reason. P (Refused reason)) (sym is) holds

  -- ---- it was stored, or that failed

  -- what is stored after these changes waited, with the server once its values were drawn
  abbrev drawn_for : Server → Server
  drawn_for server = after_draws server (blocks_for (coming_positions server))

  module _ (rules : List Rule) (sessions : Sessions) (mid new : View D G R) (before : R) (blocks : (k : ℕ) → draws.block_at mid.draws k ≡ draws.block_at before k) (ready : PreparedBatch)
      (prepares : Prepares (record mid { draws = before }) (Ok ready.values) mid)
      (fit : ValuesFit ready.values)
      (counts_now : (t : ℕ) (c : List ℕ) → t ≤ d.moment new.disk → d.may_leave new.disk c → d.left_since new.disk t c)
      (keeps : Keeps d mid.disk new.disk) (same : (new.signer ≡ mid.signer) × (new.draws ≡ mid.draws) × (new.head ≡ mid.head))
      (any_moment : (server : Server) → Stands draws mid server → Knows (shown d mid.disk) (λ file. IsFileOf mid.head server file
      → LeavesOnly d mid.disk new.disk (IsFileOf mid.head (in_doubt server (coming_batch server ready.values))))) where
    abbrev old : View D G R
    old = record mid { draws = before }

    abbrev was_drawn : ServerView D G R
    was_drawn = server_of old rules sessions

    goes_on_stored : (after : Sessions) → GoesOn draws was_drawn (server_of new rules after)
    goes_on_stored after = record { signer = same.0; blocks = λ k. ap (λ at. draws.block_at at k) same.1 ∙ blocks k }

    -- a host on the disk after it
    abbrev host_on : Sessions → Server → Host D
    host_on after server = record { disk = new.disk; head = mid.head; server = server; rules = rules; sessions = after }

    -- the step of a host that its answer is
    closes : (answer : Answer) (after : Sessions) (server later : Server) → Stands draws new later → HasJournal d (host_on after later)
        → Counts d (disk_failed_by answer) mid.disk new.disk
        → IsBatching d g mid.signer (draws.block_at before) (at_host was_drawn server) answer (beside answer server.place) (host_on after later)
        → (next : Host D) × Closes was_drawn answer (server_of new rules after) (at_host was_drawn server) next
    closes answer after server later stands journal counts answered = (
      host_on after later,
      record {
        answered = answered;
        keeps = keeps;
        counts = counts;
        server = record { disk = refl; head = sym same.2; stands = stands; journal = journal; rules = refl; sessions = refl };
      },
    )

    module _ (server : Server) (stands : Stands draws old server) where
      -- the batch with its values as they are, and as they were drawn
      abbrev made_ready : Made
      made_ready = coming_batch server ready.values

      abbrev made_drawn : Made
      made_drawn = coming_batch server (coming_values server (draws.block_at before))

      granted : refusal_to_batch server ≡ None
      granted = (prepares server stands).1.0

      same_made : made_ready ≡ made_drawn
      same_made = ap (coming_batch server) (prepares server stands).1.1

      fits_drawn : MadeFits made_drawn
      fits_drawn = subst MadeFits same_made fit

      stands_drawn : Stands draws mid (drawn_for server)
      stands_drawn = let step = prepares server stands in subst (Stands draws mid) step.1.2 step.2

      -- what a crash leaves at any moment
      moments_at : IsOnDisk d mid.disk mid.head server
          → Knows (shown d mid.disk) (λ file. LeavesOnly d mid.disk new.disk (IsFileOf mid.head (in_doubt server made_drawn)))
      moments_at on_disk file is =
          subst (λ made. LeavesOnly d mid.disk new.disk (IsFileOf mid.head (in_doubt server made))) same_made
          (any_moment (drawn_for server) stands_drawn file is (on_disk file is))

    -- ---- it was stored

    module _ (replies : List SentReply) (are : AreRepliesTo sessions.sas ready.output.told replies) (joins : JoinsHaveSessions mid.queue sessions.sas)
        (is_ready : (server : Server) → Stands draws mid server → IsReadyFor g mid.signer mid.head mid.tree mid.queue server.list ready)
        (step : (server : Server) → Stands draws mid server
        → (next : Server) × (next ≡ with_batch server (coming_batch server ready.values)) × Stands draws new next)
        (stored : (server : Server) → Stands draws mid server → IsOnDisk d mid.disk mid.head server
        → IsOnDisk d new.disk new.head (with_batch server (coming_batch server ready.values)))
        (durable : (server : Server) → Stands draws mid server → Knows (shown d mid.disk) (λ file. IsFileOf mid.head server file
        → (c : List ℕ) → d.may_leave new.disk c
        → IsGroup c mid.head (stored_list server.depth (server.list ++ coming_batch server ready.values ∷ []))))
        (faults : d.faults new.disk ≡ d.faults mid.disk) where
      -- what is known of a batch that was stored
      record IsKnown (server : Server) (made : Made) : Type 0 where
        out : IsOut mid sessions.sas ready replies server made
        stands_after : Stands draws new (with_batch (drawn_for server) made)
        on_disk : IsOnDisk d mid.disk mid.head server → IsOnDisk d new.disk mid.head (with_batch (drawn_for server) made)
        left : Knows (shown d mid.disk) (λ file. IsFileOf mid.head server file → (c : List ℕ) → d.may_leave new.disk c
            → IsGroup c mid.head (stored_list server.depth (server.list ++ made ∷ [])))

      module _ (server : Server) (stands : Stands draws old server) where
        known : IsKnown server (made_drawn server stands)
        known =
            let now = stands_drawn server stands in
            let taken = step (drawn_for server) now in
            let after = subst (Stands draws new) taken.1 taken.2 in
            let out = goes_out mid sessions.sas ready replies are joins (drawn_for server) now (is_ready (drawn_for server) now) in
            subst (IsKnown server) (same_made server stands) (record {
              out = record { output_is = out.output_is; says = out.says; sends = out.sends };
              stands_after = after;
              on_disk = λ on_disk. subst (λ head. IsOnDisk d new.disk head (with_batch (drawn_for server) (made_ready server stands))) same.2
                  (stored (drawn_for server) now on_disk);
              left = durable (drawn_for server) now;
            })

        abbrev output_after : Output
        output_after = with_replies ready.output replies

        abbrev list_after : List Made
        list_after = server.list ++ made_drawn server stands ∷ []

        puts_out : PutsOut d g mid.signer (draws.block_at before) (at_host was_drawn server) output_after
        puts_out =
            let is = known.out.output_is in
            let length_is = sym (length-map list_after (λ (made : Made). made.changes)) in
            let now = stands_drawn server stands in
            let says : IsOutputOf mid.head.depth (batches_made list_after) server.queue output_after = record {
              epoch = is.epoch ∙ length_is;
              sequence = is.sequence ∙ ap (sequence_at mid.head.depth (batches_made list_after)) length_is;
              members = is.members;
              wraps = is.wraps ∙ ap (wraps_at mid.head.depth (batches_made list_after)) length_is;
              replies = known.out.says;
            } in
            record {
              says = subst (λ depth. IsOutputOf depth (batches_made list_after) server.queue output_after) now.depth says;
              pushes = subst (λ depth. IsPairIfStayed g mid.signer depth mid.head.spi list_after ready.output.pushes) now.depth is.pushes;
              replies = subst (λ depth. All (IsFourthReply depth mid.head.spi list_after sessions.sas) replies) now.depth known.out.sends;
            }

        abbrev host_after : Host D
        host_after = host_on (settled sessions replies) (with_batch (drawn_for server) (made_drawn server stands))

        journal_after : HasJournal d (at_host was_drawn server) → HasJournal d host_after
        journal_after journal = record {
          file = known.on_disk journal.file;
          crash = λ file is c may.
              let was = shown_before d mid.disk new.disk keeps file is in (
                list_after,
                inl refl,
                subst (λ depth. IsGroup c mid.head (stored_list depth list_after)) (sym (stands_drawn server stands).depth)
                    (known.left was.0 was.1 (journal.file was.0 was.1) c may),
              );
        }

      abbrev is_after : ServerView D G R
      is_after = server_of new rules (settled sessions replies)

      pub is_stored : Serves d g draws Batch (Batched (with_replies ready.output replies)) was_drawn is_after
      is_stored = by_core was_drawn (Batched (with_replies ready.output replies)) is_after (goes_on_stored (settled sessions replies)) each
        where
          each : (server : Server) → Stands draws old server → HasJournal d (at_host was_drawn server)
              → (next : Host D) × Closes was_drawn (Batched (with_replies ready.output replies)) is_after (at_host was_drawn server) next
          each server stands journal =
              let after = journal_after server stands journal in
              closes (Batched (with_replies ready.output replies)) (settled sessions replies) server (with_batch (drawn_for server) (made_drawn server stands))
              (known server stands).stands_after after faults (inl (record {
                granted = granted server stands;
                fit = fits_drawn server stands;
                output = with_replies ready.output replies;
                puts_out = puts_out server stands;
                answers = refl;
                beside = refl;
                now = refl;
                journal = after;
                moments = moments_at server stands journal.file;
              }))

    -- ---- that failed, and it is in doubt

    module _ (why : Refusal)
        (step : (server : Server) → Stands draws mid server
        → (next : Server) × IsStoring {A = CoreOutput} server ready.values (Err why) next × Stands draws new next)
        (doubt : (server : Server) → Stands draws mid server → IsOnDisk d mid.disk mid.head server
        → IsOnDisk d new.disk new.head (in_doubt server (coming_batch server ready.values)))
        (rose : Rose (d.faults mid.disk) (d.faults new.disk)) where
      -- what is known of a batch in doubt
      record IsDoubted (server : Server) (made : Made) : Type 0 where
        stands_after : Stands draws new (in_doubt (drawn_for server) made)
        on_disk : IsOnDisk d mid.disk mid.head server → IsOnDisk d new.disk mid.head (in_doubt (drawn_for server) made)

      module _ (server : Server) (stands : Stands draws old server) where
        doubted : IsDoubted server (made_drawn server stands)
        doubted =
            let now = stands_drawn server stands in
            let after = step (drawn_for server) now in
            subst (IsDoubted server) (same_made server stands) (record {
              stands_after = subst (Stands draws new) after.1.1 after.2;
              on_disk = λ on_disk. subst (λ head. IsOnDisk d new.disk head (in_doubt (drawn_for server) (made_ready server stands))) same.2
                  (doubt (drawn_for server) now on_disk);
            })

        abbrev host_in_doubt : Host D
        host_in_doubt = host_on sessions (in_doubt (drawn_for server) (made_drawn server stands))

        journal_in_doubt : HasJournal d (at_host was_drawn server) → HasJournal d host_in_doubt
        journal_in_doubt journal = record {
          file = doubted.on_disk journal.file;
          crash = λ file is c may.
              let was = shown_before d mid.disk new.disk keeps file is in
              leaves_now d mid.disk new.disk (IsFileOf mid.head (in_doubt server (made_drawn server stands))) counts_now
              (moments_at server stands journal.file was.0 was.1) c may;
        }

      abbrev is_doubted : ServerView D G R
      is_doubted = server_of new rules sessions

      pub is_in_doubt : Serves d g draws Batch (Refused why) was_drawn is_doubted
      is_in_doubt = by_core was_drawn (Refused why) is_doubted (goes_on_stored sessions) each
        where
          each : (server : Server) → Stands draws old server → HasJournal d (at_host was_drawn server)
              → (next : Host D) × Closes was_drawn (Refused why) is_doubted (at_host was_drawn server) next
          each server stands journal =
              let after = journal_in_doubt server stands journal in
              let failed : why ≡ DiskFault = (step (drawn_for server) (stands_drawn server stands)).1.0 in
              subst (λ at. (next : Host D) × Closes was_drawn (Refused at) is_doubted (at_host was_drawn server) next) (sym failed)
              (closes (Refused DiskFault) sessions server (in_doubt (drawn_for server) (made_drawn server stands))
              (doubted server stands).stands_after after rose (inr (inl (record {
                granted = granted server stands;
                fit = fits_drawn server stands;
                answers = refl;
                beside = refl;
                now = refl;
                journal = after;
                moments = moments_at server stands journal.file;
              }))))
