-- The key server of a group between two requests, and the step that each request takes. What a step does not name stays as it is.
use Rattle.std.specs.Prelude.{◌≡◌, ◌⊎◌, ℕ, ◌+◌, ◌≤◌, Bool, true, false, List, [], ◌∷◌, ◌++◌, length, Option, None, Some, Result, Ok, Err}
use Rattle.group_terms.specs.Names.{Name}
use Rattle.group_terms.specs.declared.changes.Change.{Change}
use Rattle.group_terms.specs.declared.changes.Change.TheVariants.{In, Out}
use Rattle.group_terms.specs.declared.values.BatchValues.{BatchValues}
use Rattle.group_values.specs.Drawing.{blocks_for, place_after, values_drawn}
use Rattle.group_values.specs.Values.{Made, batches_made}
use Rattle.group_model.specs.declared.entries.Refusal.{Refusal}
use Rattle.group_model.specs.declared.entries.Refusal.TheVariants.{DiskFault, NoMemory}
use Rattle.group_model.specs.Drawn.{drawn_at}
use Rattle.group_model.specs.Places.{Holders, holders_of}
use Rattle.group_model.specs.Refusals.{why_no_join, why_no_leave, why_no_batch}
use Rattle.group_model.specs.Stayed.{sequence_at}

-- how deep its tree is, and how far epochs and sequence numbers may go; the batches that made its epochs, with the values of their keys; one that the
-- journal may have or not, since the disk failed; whether it has to be opened again; the changes that wait; and the place of the next block it draws
pub record Server : Type 0 where
  pub depth : ℕ
  pub limit : ℕ
  pub list : List Made
  pub doubt : Option Made
  pub needs_reopen : Bool
  pub queue : List Change
  pub place : ℕ

-- so many blocks are drawn for a batch, and none where there is a reason to refuse it
abbrev pub drawn_unless : Option Refusal → ℕ → ℕ
drawn_unless None n = n
drawn_unless (Some why) n = 0

-- one that was just opened, with these batches
abbrev pub opened_server : ℕ → ℕ → List Made → ℕ → Server
opened_server depth limit list place = record { depth = depth; limit = limit; list = list; doubt = None; needs_reopen = false; queue = []; place = place }

module _ (server : Server) where
  -- the changes of the batches that made its epochs
  abbrev pub present_batches : List (List Change)
  present_batches = batches_made server.list

  -- the present epoch: each batch made one
  abbrev pub present_epoch : ℕ
  present_epoch = length server.list

  -- the number of the last push up to the present epoch (RFC 6407 section 5.7)
  abbrev pub present_sequence : ℕ
  present_sequence = sequence_at server.depth present_batches present_epoch

  -- who has which leaf at the present epoch
  abbrev pub members_now : Holders
  members_now = holders_of server.depth present_batches

  -- with the changes that wait as the next batch
  abbrev pub coming_batches : List (List Change)
  coming_batches = present_batches ++ server.queue ∷ []

  -- the epoch that the next batch would make
  abbrev pub coming_epoch : ℕ
  coming_epoch = present_epoch + 1

  -- the number that the last push would have after the next batch
  abbrev pub coming_sequence : ℕ
  coming_sequence = sequence_at server.depth coming_batches coming_epoch

  -- the positions for which the next batch would draw values
  abbrev pub coming_positions : List ℕ
  coming_positions = drawn_at server.depth coming_batches coming_epoch

  -- why the join of a name may not wait for the next batch, if there is a reason
  abbrev pub refusal_to_join : Name → Option Refusal
  refusal_to_join m = why_no_join server.needs_reopen server.depth members_now server.queue m

  -- why the leave of a name may not wait for the next batch, if there is a reason
  abbrev pub refusal_to_leave : Name → Option Refusal
  refusal_to_leave m = why_no_leave server.needs_reopen server.depth members_now server.queue m

  -- why no batch is made of the changes that wait, if there is a reason
  abbrev pub refusal_to_batch : Option Refusal
  refusal_to_batch = why_no_batch server.needs_reopen server.limit present_epoch present_sequence coming_sequence

  -- how many blocks are drawn for it
  abbrev pub blocks_to_draw : ℕ
  blocks_to_draw = drawn_unless refusal_to_batch (blocks_for coming_positions)

  -- a change waits
  abbrev pub with_change : Change → Server
  with_change change = record server { queue = server.queue ++ change ∷ [] }

  -- the changes that wait as a batch, with values for the keys that it makes
  abbrev pub coming_batch : BatchValues → Made
  coming_batch values = record { changes = server.queue; values = values }

  -- the values that are drawn for it where draws have these blocks
  abbrev pub coming_values : (ℕ → List ℕ) → BatchValues
  coming_values block = values_drawn block server.place coming_positions

  -- once so many blocks were drawn
  abbrev pub after_draws : ℕ → Server
  after_draws n = record server { place = place_after n server.place }

  -- the batch is stored
  abbrev pub with_batch : Made → Server
  with_batch made = record server { list = server.list ++ made ∷ []; queue = [] }

  -- the disk failed while the batch was stored
  abbrev pub in_doubt : Made → Server
  in_doubt made = record server { doubt = Some made; needs_reopen = true }

  -- it has to be opened again
  abbrev pub halted : Server
  halted = record server { needs_reopen = true }

  -- the batches that its journal may have
  abbrev pub MayHave : List Made → Type 0
  MayHave list = (list ≡ server.list) ⊎ ((made : Made) × (server.doubt ≡ Some made) × (list ≡ server.list ++ made ∷ []))

  -- it was opened again, and its journal had these
  abbrev pub reopened : List Made → Server
  reopened list = record server { list = list; doubt = None; needs_reopen = false; queue = [] }

-- a request is answered by its refusal, if it has one
abbrev pub GivesRefusal : Option Refusal → Result (Unit {0}) Refusal → Type 0
GivesRefusal None result = result ≡ Ok tt
GivesRefusal (Some why) result = result ≡ Err why

-- ---- The step of each request: the server before it, its answer, and the server after it.

-- somebody who is no member asks to come in
abbrev pub IsJoin : Server → Name → Result (Unit {0}) Refusal → Server → Type 0
IsJoin server m (Ok done) next = (refusal_to_join server m ≡ None) × (next ≡ with_change server (In m))
IsJoin server m (Err why) next = (refusal_to_join server m ≡ Some why) × (next ≡ server)

-- somebody is to go out
abbrev pub IsLeave : Server → Name → Result (Unit {0}) Refusal → Server → Type 0
IsLeave server m (Ok done) next = (refusal_to_leave server m ≡ None) × (next ≡ with_change server (Out m))
IsLeave server m (Err why) next = (refusal_to_leave server m ≡ Some why) × (next ≡ server)

-- What waits is to be the next batch, and draws have these blocks. Out of memory, some blocks may be drawn, but none where the batch would be
-- refused.
abbrev pub IsPreparation : (ℕ → List ℕ) → Server → Result BatchValues Refusal → Server → Type 0
IsPreparation block server (Ok values) next =
    (refusal_to_batch server ≡ None) × (values ≡ coming_values server block) × (next ≡ after_draws server (blocks_for (coming_positions server)))
IsPreparation block server (Err why) next =
    ((refusal_to_batch server ≡ Some why) × (next ≡ server))
    ⊎ ((why ≡ NoMemory) × ((n : ℕ) × (n ≤ blocks_to_draw server) × (next ≡ after_draws server n)))

-- a batch with these values, which is ready, is to be stored
abbrev pub IsStoring : {A : Type 0} → Server → BatchValues → Result A Refusal → Server → Type 0
IsStoring server values (Ok output) next = next ≡ with_batch server (coming_batch server values)
IsStoring server values (Err why) next = (why ≡ DiskFault) × (next ≡ in_doubt server (coming_batch server values))

-- its journal, which had these batches, is to be opened again
abbrev pub IsReopening : {A : Type 0} → Server → List Made → Result A Refusal → Server → Type 0
IsReopening server list (Ok resent) next = MayHave server list × (next ≡ reopened server list)
IsReopening server list (Err why) next = next ≡ halted server
