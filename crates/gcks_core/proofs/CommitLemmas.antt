-- Servers that a core is after a change waits, after a batch was stored, and where the disk failed.
use Rattle.std.proofs.Common.{◌≡◌, ◌∙◌, inl, inr, ℕ, ◌+◌, ◌^◌, false, List, [], ◌∷◌, ◌++◌}
use Rattle.std.proofs.Common.{Option, None, Some, Result, Ok, Err, refl, sym, ap, subst}
use Rattle.std.specs.Prelude.{OnOk, OnErr}
use Rattle.gd_disk.specs.Disks.{Knows}
use Rattle.gd_disk.specs.MomentLaws.{weaker}
use Rattle.gd_disk.specs.Moments.{shown, LeavesOnly}
use Rattle.gd_disk.specs.declared.disks.Disk.{Ghosts}
use Rattle.gd_edges.specs.declared.draws.Draws.{Ghosts as DrawGhosts}
use Rattle.gd_edges.specs.declared.signers.Signer.{Ghosts as SignerGhosts}
use Rattle.group_terms.specs.Names.{Name}
use Rattle.group_terms.specs.declared.changes.Change.{Change}
use Rattle.group_terms.specs.declared.changes.Change.TheVariants.{In, Out}
use Rattle.group_values.specs.Values.{Made, batches_made}
use Rattle.key_tree.specs.Present.{Present}
use Rattle.group_model.specs.Refusals.{why_no_join, why_no_leave}
use Rattle.group_model.specs.Servers.{GivesRefusal, IsJoin, IsLeave, IsStoring, MayHave, Server}
use Rattle.group_model.specs.Servers.{coming_batch, in_doubt, with_batch, with_change}
use Rattle.group_model.specs.declared.entries.Refusal.{Refusal}
use Rattle.group_records.specs.declared.heads.Head.{Head}
use Rattle.group_records.specs.Records.{IsBatchOf}
use Rattle.tree_store.specs.Groups.{HasGroup, IsGroup, IsGroupBeforeOrAfter}
use Rattle.gcks_core.specs.declared.outputs.CoreOutput.{CoreOutput}
use Rattle.gcks_core.specs.Prepares.{IsCoreOutputOf, IsReadyFor, PreparedBatch}
use Rattle.gcks_core.specs.Private.Cores.{IsGroupOf}
use Rattle.gcks_core.specs.Private.Stores.{IsStorable}
use Rattle.gcks_core.specs.Stands.{Stands}
use Rattle.gcks_core.specs.Stored.{AreDue, IsFileOf, IsOnDisk, stored_after, stored_list}
use Rattle.gcks_core.specs.Views.{View}
use Rattle.gcks_core.proofs.ListLemmas.{stored_more}
use Rattle.gcks_core.proofs.StandLemmas.{group_of, same_no_join, same_no_leave, stands_as, sure_server}

-- ---- what an answer says of the refusal that there is

none_given : (refusal : Option Refusal) (done : Unit {0}) → GivesRefusal refusal (Ok done) → refusal ≡ None
none_given None done is = refl
none_given (Some why) done is = absurd (cc is)

some_given : (refusal : Option Refusal) (why : Refusal) → GivesRefusal refusal (Err why) → refusal ≡ Some why
some_given None why is = absurd (cc is)
some_given (Some other) why is = sym (cc is)

-- ---- a journal that has a batch after those of a server, or not

abbrev IsWithOrWithout : Head → Server → Made → List ℕ → Type 0
IsWithOrWithout head server made =
    IsGroupBeforeOrAfter head (stored_list head.depth server.list) (stored_after head.depth (batches_made server.list) made)

pub file_in_doubt : (head : Head) (server : Server) (made : Made) (file : List ℕ) → IsWithOrWithout head server made file
    → IsFileOf head (in_doubt server made) file
file_in_doubt head server made file (inl before) = (server.list, inl refl, before)
file_in_doubt head server made file (inr after) =
    (server.list ++ made ∷ [], inr (made, refl, refl), subst (IsGroup file head) (sym (stored_more head.depth server.list made)) after)

module _ {D G R : Type 0} (draws : DrawGhosts R) (core : View D G R) (server : Server) (stands : Stands draws core server) where
  -- a change waits
  pub stands_with_change : (change : Change) (queue : List Change) → queue ≡ core.queue ++ change ∷ []
      → Stands draws (record core { queue = queue }) (with_change server change)
  stands_with_change change queue more = record {
    depth = stands.depth;
    limit = stands.limit;
    tree_depth = stands.tree_depth;
    tree = stands.tree;
    room = stands.room;
    kept = stands.kept;
    due = stands.due;
    fit = stands.fit;
    queue = more ∙ ap (λ before. before ++ change ∷ []) stands.queue;
    needs_reopen = stands.needs_reopen;
    sure = stands.sure;
    place = stands.place;
  }

  -- no further change waits
  pub stands_as_before : (queue : List Change) → queue ≡ core.queue → Stands draws (record core { queue = queue }) server
  stands_as_before queue same = record {
    depth = stands.depth;
    limit = stands.limit;
    tree_depth = stands.tree_depth;
    tree = stands.tree;
    room = stands.room;
    kept = stands.kept;
    due = stands.due;
    fit = stands.fit;
    queue = same ∙ stands.queue;
    needs_reopen = stands.needs_reopen;
    sure = stands.sure;
    place = stands.place;
  }

  -- what waited was stored as a batch
  pub stands_with_batch : (disk : D) (tree : Present) (queue : List Change) (made : Made) → queue ≡ []
      → IsGroupOf core.head tree (server.list ++ made ∷ [])
      → Stands draws (record core { disk = disk; tree = tree; queue = queue }) (with_batch server made)
  stands_with_batch disk tree queue made none group = record {
    depth = stands.depth;
    limit = stands.limit;
    tree_depth = group.depth ∙ stands.depth;
    tree = group.tree;
    room = group.room ∙ ap (λ depth. 2 ^ (depth + 1)) (group.depth ∙ stands.depth);
    kept = group.keeps;
    due = subst (λ limit. AreDue server.depth limit (server.list ++ made ∷ [])) stands.limit
        (subst (λ depth. AreDue depth core.head.limit (server.list ++ made ∷ [])) stands.depth group.due);
    fit = group.fit;
    queue = none;
    needs_reopen = stands.needs_reopen;
    sure = stands.sure;
    place = stands.place;
  }

  -- ---- what is in the journal

  module _ (goes : core.needs_reopen ≡ false) where
    -- of a core that is open no batch is in doubt
    has_list : (list : List Made) → MayHave server list → list ≡ server.list
    has_list list (inl same) = same
    has_list list (inr (made, doubt, more)) = absurd (cc (doubt, stands.sure (sym stands.needs_reopen ∙ goes)))

    -- and so its journal has the batches of its server
    pub has_batches : (file : List ℕ) → IsFileOf core.head server file → IsGroup file core.head (stored_list core.head.depth server.list)
    has_batches file (list, may, is) = subst (λ list. IsGroup file core.head (stored_list core.head.depth list)) (has_list list may) is

  -- ---- a batch that is ready

  module _ (g : SignerGhosts G) (ready : PreparedBatch) (is_ready : IsReadyFor g core.signer core.head core.tree core.queue server.list ready) where
    ready_now : IsReadyFor g core.signer core.head core.tree server.queue server.list ready
    ready_now = subst (λ queue. IsReadyFor g core.signer core.head core.tree queue server.list ready) stands.queue is_ready

    pub storable_now : IsStorable core.head core.tree server.queue server.list ready
    storable_now = record { due = ready_now.due; text_is = ready_now.text_is; short = ready_now.short; is_marked = ready_now.is_marked }

    pub puts_out_now : IsCoreOutputOf g core.signer core.head.depth core.head.spi (server.list ++ coming_batch server ready.values ∷ []) ready.output
    puts_out_now = ready_now.puts_out

-- ---- a core whose parts are those of a view, and servers that it is

pub stands_there : {D G R : Type 0} {draws : DrawGhosts R} {core view : View D G R} → core ≡ view → (server : Server)
    → Stands draws view server → Stands draws core server
stands_there {draws = draws} same server stands = subst (λ at. Stands draws at server) (sym same) stands

-- the step that a change takes
module _ {D G R : Type 0} {draws : DrawGhosts R} {core view : View D G R} (same : core ≡ view)
    (server : Server) (stands : Stands draws view server) where
  -- it waits where there is no reason against it
  granted : (change : Change) (done : Unit {0}) (queue : List Change) {given due : Option Refusal} → given ≡ due → GivesRefusal given (Ok done)
      → queue ≡ core.queue ++ change ∷ []
      → (next : Server) × ((due ≡ None) × (next ≡ with_change server change)) × Stands draws (record core { queue = queue }) next
  granted change done queue {due = due} is gives more = (
    with_change server change,
    (none_given due done (subst (λ refusal. GivesRefusal refusal (Ok done)) is gives), refl),
    stands_with_change draws core server (stands_there same server stands) change queue more,
  )

  -- and else is refused for that reason
  refused : (why : Refusal) (queue : List Change) {given due : Option Refusal} → given ≡ due → GivesRefusal given (Err why) → queue ≡ core.queue
      → (next : Server) × ((due ≡ Some why) × (next ≡ server)) × Stands draws (record core { queue = queue }) next
  refused why queue {due = due} is gives unchanged = (
    server,
    (some_given due why (subst (λ refusal. GivesRefusal refusal (Err why)) is gives), refl),
    stands_as_before draws core server (stands_there same server stands) queue unchanged,
  )

  pub join_step : (m : Name) (result : Result (Unit {0}) Refusal) (queue : List Change)
      → GivesRefusal (why_no_join core.needs_reopen core.tree.depth core.tree.holders core.queue m) result
      → OnOk result (queue ≡ core.queue ++ In m ∷ []) → OnErr result (queue ≡ core.queue)
      → (next : Server) × IsJoin server m result next × Stands draws (record core { queue = queue }) next
  join_step m (Ok done) queue gives more unchanged =
      granted (In m) done queue (same_no_join draws core server (stands_there same server stands) m) gives more
  join_step m (Err why) queue gives more unchanged =
      refused why queue (same_no_join draws core server (stands_there same server stands) m) gives unchanged

  pub leave_step : (m : Name) (result : Result (Unit {0}) Refusal) (queue : List Change)
      → GivesRefusal (why_no_leave core.needs_reopen core.tree.depth core.tree.holders core.queue m) result
      → OnOk result (queue ≡ core.queue ++ Out m ∷ []) → OnErr result (queue ≡ core.queue)
      → (next : Server) × IsLeave server m result next × Stands draws (record core { queue = queue }) next
  leave_step m (Ok done) queue gives more unchanged =
      granted (Out m) done queue (same_no_leave draws core server (stands_there same server stands) m) gives more
  leave_step m (Err why) queue gives more unchanged =
      refused why queue (same_no_leave draws core server (stands_there same server stands) m) gives unchanged

-- ---- what is stored: the record that is written is read as the batch

pub read_inside : {head : Head} {present : Present} {changes : List Change} {list : List Made} {inside ready : PreparedBatch} → inside ≡ ready
    → IsStorable head present changes list ready
    → IsBatchOf inside.text (stored_after head.depth (batches_made list) (record { changes = changes; values = ready.values }))
read_inside {head = head} {changes = changes} {list = list} {ready = ready} same storable =
    let stored = stored_after head.depth (batches_made list) (record { changes = changes; values = ready.values }) in
    subst (λ (at : PreparedBatch). IsBatchOf at.text stored) (sym same) storable.text_is

-- ---- storing a batch that is ready

module _ {D G R : Type 0} {draws : DrawGhosts R} {g : SignerGhosts G} {core view : View D G R} (same : core ≡ view) {ready : PreparedBatch}
    (all_ready : (server : Server) → Stands draws view server → IsReadyFor g view.signer view.head view.tree view.queue server.list ready) where
  module _ (server : Server) (stands : Stands draws view server) where
    pub storable_there : IsStorable core.head core.tree server.queue server.list ready
    storable_there = subst (λ (at : View D G R). IsStorable at.head at.tree server.queue server.list ready) (sym same)
        (storable_now draws view server stands g ready (all_ready server stands))

    -- the step of the server
    pub storing_step : {A : Type 0} (output : A) (disk : D) (tree : Present) (queue : List Change) → queue ≡ []
        → ((head : Head) (list : List Made) (changes : List Change) → IsGroupOf head core.tree list
        → IsStorable head core.tree changes list ready
        → IsGroupOf head tree (list ++ record { changes = changes; values = ready.values } ∷ []))
        → (next : Server) × IsStoring server ready.values (Ok output) next
        × Stands draws (record core { disk = disk; tree = tree; queue = queue }) next
    storing_step output disk tree queue none takes_in =
        let made = coming_batch server ready.values in
        let was = stands_there same server stands in
        let group = takes_in core.head server.list server.queue (group_of draws core server was) storable_there in
        (with_batch server made, refl, stands_with_batch draws core server was disk tree queue made none group)

    -- what it puts out
    pub puts_out_there : (output : CoreOutput) → output ≡ ready.output
        → IsCoreOutputOf g view.signer view.head.depth view.head.spi (server.list ++ coming_batch server ready.values ∷ []) output
    puts_out_there output is =
        subst (IsCoreOutputOf g view.signer view.head.depth view.head.spi (server.list ++ coming_batch server ready.values ∷ [])) (sym is)
        (puts_out_now draws view server stands g ready (all_ready server stands))

    module _ (disks : Ghosts D) (goes : view.needs_reopen ≡ false) where
      -- the journal before it
      pub knows_there : IsOnDisk disks view.disk view.head server
          → Knows (shown disks core.disk) (λ file. IsGroup file core.head (stored_list core.head.depth server.list))
      knows_there on_disk =
          subst (λ (at : View D G R). Knows (shown disks at.disk) (λ file. IsGroup file at.head (stored_list at.head.depth server.list))) (sym same)
          (λ file is. has_batches draws view server stands goes file (on_disk file is))

      pub has_there : (file : List ℕ) → shown disks view.disk ≡ Some file → IsFileOf view.head server file
          → HasGroup (shown disks core.disk) core.head (stored_list core.head.depth server.list)
      has_there file is is_file =
          subst (λ (at : View D G R). HasGroup (shown disks at.disk) at.head (stored_list at.head.depth server.list)) (sym same)
          (file, is, has_batches draws view server stands goes file is_file)

    -- the journal after it
    pub is_group_outside : (made : Made) (file : List ℕ) → IsGroup file core.head (stored_list core.head.depth (server.list ++ made ∷ []))
        → IsGroup file view.head (stored_list server.depth (server.list ++ made ∷ []))
    is_group_outside made file is =
        subst (λ depth. IsGroup file view.head (stored_list depth (server.list ++ made ∷ []))) stands.depth
        (subst (λ (at : View D G R). IsGroup file at.head (stored_list at.head.depth (server.list ++ made ∷ []))) same is)

    pub moments_outside : (disks : Ghosts D) (new : D) (made : Made)
        → LeavesOnly disks core.disk new (IsWithOrWithout core.head server made)
        → LeavesOnly disks view.disk new (IsFileOf view.head (in_doubt server made))
    moments_outside disks new made only =
        subst (λ (at : View D G R). LeavesOnly disks at.disk new (IsFileOf at.head (in_doubt server made))) same
        (weaker disks core.disk new (IsWithOrWithout core.head server made) (IsFileOf core.head (in_doubt server made))
        (file_in_doubt core.head server made) only)

  -- it is storable after the batches that made its tree
  pub storable_now_there : (list : List Made) → IsGroupOf core.head core.tree list → IsStorable core.head core.tree core.queue list ready
  storable_now_there list group =
      let server = sure_server draws core list in
      storable_there server (subst (λ at. Stands draws at server) same (stands_as draws core list group))
