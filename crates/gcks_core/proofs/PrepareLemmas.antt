-- What is drawn for a batch, and why none is made.
use Rattle.std.specs.Prelude.{IfErr, IfOk, OnErr, OnOk, nat_le, nat_lt}
use Rattle.std.proofs.Common.{◌≡◌, ◌∙◌, ◌⊎◌, inl, inr, ℕ, ◌+◌, ◌≤◌, Bool, true, false, cond, List, [], ◌∷◌, ◌++◌, length, Option, None, Some, Result, Ok, Err, refl, sym, ap, subst, arith}
use Rattle.std.proofs.lemmas.Nat.{le_or_r}
use Rattle.std.proofs.lemmas.Option.{none-some}
use Rattle.gd_edges.specs.declared.draws.Draws.{Ghosts as DrawGhosts}
use Rattle.gd_wire.specs.Readings.{octet_at}
use Rattle.group_terms.specs.declared.changes.Change.{Change}
use Rattle.group_terms.specs.declared.values.BatchValues.{BatchValues}
use Rattle.group_values.specs.Drawing.{blocks_for, nodes_drawn, place_after, values_drawn, with_high_bit}
use Rattle.group_values.specs.Values.{Made, batches_made, ids_of}
use Rattle.group_model.specs.Drawn.{drawn_at}
use Rattle.key_tree.specs.Present.{Present}
use Rattle.group_model.specs.Refusals.{why_no_batch}
use Rattle.group_model.specs.Servers.{IsPreparation, Server, after_draws, blocks_to_draw, coming_positions, drawn_unless, refusal_to_batch}
use Rattle.group_model.specs.Stayed.{sequence_at}
use Rattle.key_tree.specs.Marks.{IsMarkedFor}
use Rattle.group_model.specs.declared.entries.Counter.TheVariants.{Epoch, Sequence}
use Rattle.group_model.specs.declared.entries.Refusal.{Refusal}
use Rattle.group_model.specs.declared.entries.Refusal.TheVariants.{NoMemory, Spent}
use Rattle.key_tree.specs.declared.marks.Marked.{Marked}
use Rattle.group_records.specs.declared.heads.Head.{Head}
use Rattle.gcks_core.specs.Prepares.{PreparedBatch, values_in}
use Rattle.gcks_core.specs.Private.Cores.{IsGroupOf}
use Rattle.gcks_core.specs.Stands.{Stands}
use Rattle.gcks_core.specs.Views.{View}
use Rattle.gcks_core.proofs.ListLemmas.{length_batches}

-- what holds whatever the answer is, holds of an error
pub on_err : {A E : Type 0} {P : Type 0} (result : Result A E) → P → OnErr result P
on_err (Ok done) holds = tt
on_err (Err why) holds = holds

-- ---- values that were drawn

-- they are those of the positions
ids_drawn : (block : ℕ → List ℕ) (place : ℕ) (ids : List ℕ) → ids_of (nodes_drawn block place ids) ≡ ids
ids_drawn block place [] = refl
ids_drawn block place (id ∷ ids) = λ i. id ∷ ids_drawn block (place_after 2 place) ids i

-- with its highest bit set an octet is 128 or more
high_bit : (text octets : List ℕ) → text ≡ with_high_bit octets → length text ≡ 4 → 128 ≤ octet_at text 0
high_bit text [] is long = absurd (omega (arith, ap length is, long))
high_bit text (octet ∷ octets) is long = subst (λ t. 128 ≤ octet_at t 0) (sym is) (le_or_r octet 128)

module _ (block : ℕ → List ℕ) (place : ℕ) (values : BatchValues) (positions drawn : List ℕ) (are : values ≡ values_drawn block place positions)
    (same : positions ≡ drawn) where
  pub ids_are : ids_of values.nodes ≡ drawn
  ids_are = ap (λ (v : BatchValues). ids_of v.nodes) are ∙ ids_drawn block place positions ∙ same

  -- an SPI of traffic is no reserved one
  pub high_there : length values.traffic.spi ≡ 4 → 128 ≤ octet_at values.traffic.spi 0
  high_there long = high_bit values.traffic.spi _ (ap (λ (v : BatchValues). v.traffic.spi) are) long

-- once all was drawn that these positions take
module _ (place now : ℕ) (ids others : List ℕ) (after : now ≡ place_after (blocks_for ids) place) (same : ids ≡ others) where
  pub place_there : now ≡ place_after (blocks_for others) place
  place_there = after ∙ ap (λ (l : List ℕ). place_after (blocks_for l) place) same

  pub moved_there : (refusal : Option Refusal) → refusal ≡ None → (n : ℕ) × (n ≤ drawn_unless refusal (blocks_for others)) × (now ≡ place_after n place)
  moved_there refusal none =
      (blocks_for others, subst (λ (why : Option Refusal). blocks_for others ≤ drawn_unless why (blocks_for others)) (sym none) (omega arith), place_there)

-- values that are those, of positions that are these
pub values_there : (block : ℕ → List ℕ) (place : ℕ) (ids others : List ℕ) (values had : BatchValues) → had ≡ values
    → values ≡ values_drawn block place ids → ids ≡ others → had ≡ values_drawn block place others
values_there block place ids others values had same are equal = same ∙ are ∙ ap (values_drawn block place) equal

-- ---- the positions of a batch

module _ (head : Head) (tree : Present) (list : List Made) (group : IsGroupOf head tree list) (batch : List Change) where
  positions_are : (limit : ℕ) (marked : Marked) → IsMarkedFor tree batch limit marked
      → marked.drawn ≡ drawn_at tree.depth (batches_made list ++ batch ∷ []) (length list + 1)
  positions_are limit marked marked_for =
      marked_for.drawn (batches_made list) group.tree
      ∙ ap (drawn_at tree.depth (batches_made list ++ batch ∷ [])) (marked_for.ready.epoch ∙ ap (λ n. n + 1) (group.tree.epoch ∙ length_batches list))

  pub positions_there : (limit : ℕ) (marked : Marked) → IsMarkedFor tree batch limit marked → (positions : List ℕ) → positions ≡ marked.drawn
      → positions ≡ drawn_at tree.depth (batches_made list ++ batch ∷ []) (length list + 1)
  positions_there limit marked marked_for positions same = same ∙ positions_are limit marked marked_for

  -- why there is none, by the number of batches
  abbrev why_none : ℕ → Option Refusal
  why_none epoch =
      why_no_batch false head.limit epoch (sequence_at tree.depth (batches_made list) epoch)
      (sequence_at tree.depth (batches_made list ++ batch ∷ []) (epoch + 1))

  pub allowed_there : why_none (length (batches_made list)) ≡ None → why_none (length list) ≡ None
  allowed_there allowed = subst (λ epoch. why_none epoch ≡ None) (length_batches list) allowed

-- ---- the core after that is the server after that

-- what is refused is refused for another reason than memory
no_memory : (limit epoch sequence coming : ℕ) (why : Refusal) → why_no_batch false limit epoch sequence coming ≡ Some why → why ≡ NoMemory → ⊥
no_memory limit epoch sequence coming why is none = by (nat_lt epoch limit) (nat_le coming limit) is
  where
    by : (early numbered : Bool) → cond early (cond numbered None (Some (Spent Sequence sequence))) (Some (Spent Epoch epoch)) ≡ Some why → ⊥
    by true true is = none-some why is
    by true false is = absurd (cc (is, none))
    by false numbered is = absurd (cc (is, none))

module _ {D G R : Type 0} (draws : DrawGhosts R) (core : View D G R) (server : Server) (stands : Stands draws core server) (next : R) where
  -- its draws are at another place
  stands_drawn : (place : ℕ) → draws.place_of next ≡ place → Stands draws (record core { draws = next }) (record server { place = place })
  stands_drawn place there = record {
    depth = stands.depth;
    limit = stands.limit;
    tree_depth = stands.tree_depth;
    tree = stands.tree;
    room = stands.room;
    kept = stands.kept;
    due = stands.due;
    fit = stands.fit;
    queue = stands.queue;
    needs_reopen = stands.needs_reopen;
    sure = stands.sure;
    place = there;
  }

  module _ (going : core.needs_reopen ≡ false) (changes : List Change) (same : changes ≡ core.queue) where
    abbrev batches : List (List Change)
    batches = batches_made server.list

    abbrev epoch : ℕ
    epoch = length server.list

    abbrev pub why_not : Option Refusal
    why_not =
        why_no_batch false core.head.limit epoch (sequence_at core.tree.depth batches epoch)
        (sequence_at core.tree.depth (batches ++ changes ∷ []) (epoch + 1))

    abbrev pub positions : List ℕ
    positions = drawn_at core.tree.depth (batches ++ changes ∷ []) (epoch + 1)

    queued : changes ≡ server.queue
    queued = same ∙ stands.queue

    needs : false ≡ server.needs_reopen
    needs = sym going ∙ stands.needs_reopen

    same_refusal : why_not ≡ refusal_to_batch server
    same_refusal i =
        why_no_batch (needs i) (stands.limit i) epoch (sequence_at (stands.tree_depth i) batches epoch)
        (sequence_at (stands.tree_depth i) (batches ++ queued i ∷ []) (epoch + 1))

    same_positions : positions ≡ coming_positions server
    same_positions i = drawn_at (stands.tree_depth i) (batches ++ queued i ∷ []) (epoch + 1)

    same_blocks : drawn_unless why_not (blocks_for positions) ≡ blocks_to_draw server
    same_blocks i = drawn_unless (same_refusal i) (blocks_for (same_positions i))

    same_after : (n : ℕ) → draws.place_of next ≡ place_after n (draws.place_of core.draws) → draws.place_of next ≡ place_after n server.place
    same_after n there = there ∙ ap (place_after n) stands.place

    abbrev IsPrepared : Result PreparedBatch Refusal → Type 0
    IsPrepared result = (x : Server) × IsPreparation (draws.block_at core.draws) server (values_in result) x × Stands draws (record core { draws = next }) x

    -- what was found out before it is stored is the step of the server
    pub prepared : (result : Result PreparedBatch Refusal) → IfErr result (λ why. (why ≡ NoMemory) ⊎ (why_not ≡ Some why)) → OnOk result (why_not ≡ None)
        → IfOk result (λ ready. ready.values ≡ values_drawn (draws.block_at core.draws) (draws.place_of core.draws) positions)
        → OnOk result (draws.place_of next ≡ place_after (blocks_for positions) (draws.place_of core.draws))
        → OnErr result ((n : ℕ) × (n ≤ drawn_unless why_not (blocks_for positions)) × (draws.place_of next ≡ place_after n (draws.place_of core.draws)))
        → IfErr result (λ why. (why ≡ NoMemory → ⊥) → next ≡ core.draws) → IsPrepared result
    prepared (Ok ready) answer allowed values place moved refused = (
      after_draws server (blocks_for (coming_positions server)),
      (
        sym same_refusal ∙ allowed,
        values ∙ (λ i. values_drawn (draws.block_at core.draws) (stands.place i) (same_positions i)),
        refl,
      ),
      stands_drawn (place_after (blocks_for (coming_positions server)) server.place)
          (same_after (blocks_for (coming_positions server))
          (place ∙ ap (λ (ids : List ℕ). place_after (blocks_for ids) (draws.place_of core.draws)) same_positions)),
    )
    prepared (Err why) (inl none) allowed values place (n, few, there) refused = (
      after_draws server n,
      inr (none, (n, subst (λ most. n ≤ most) same_blocks few, refl)),
      stands_drawn (place_after n server.place) (same_after n there),
    )
    prepared (Err why) (inr not) allowed values place moved refused =
        let as_before : next ≡ core.draws = refused (no_memory core.head.limit epoch _ _ why not) in (
          server,
          inl (sym same_refusal ∙ not, refl),
          stands_drawn server.place (ap draws.place_of as_before ∙ stands.place),
        )
