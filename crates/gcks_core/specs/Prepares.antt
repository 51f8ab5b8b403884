-- A batch that is ready to be stored.
use Rattle.std.specs.Prelude.{◌≡◌, ℕ, ◌≤◌, List, [], ◌∷◌, ◌++◌, length, map, All, Result, Ok, Err}
use Rattle.gd_edges.specs.declared.signers.Signer.{Ghosts as SignerGhosts}
use Rattle.group_terms.specs.Changes.{joiners}
use Rattle.group_terms.specs.declared.changes.Change.{Change}
use Rattle.group_terms.specs.declared.values.BatchValues.{BatchValues}
use Rattle.group_values.specs.Values.{Made, batches_made}
use Rattle.group_model.specs.Places.{holders_of, member_count}
use Rattle.key_tree.specs.Present.{Present}
use Rattle.group_model.specs.Stayed.{sequence_at}
use Rattle.key_tree.specs.Marks.{IsMarkedFor}
use Rattle.group_model.specs.Wraps.{wraps_at}
use Rattle.group_model.specs.declared.entries.Refusal.{Refusal}
use Rattle.key_tree.specs.declared.marks.Marked.{Marked}
use Rattle.group_records.specs.declared.heads.Head.{Head}
use Rattle.group_keys.specs.Replies.{IsKeyedOf}
use Rattle.group_pushes.specs.Pairs.{IsPairIfStayed}
use Rattle.group_records.specs.Records.{IsBatchOf}
use Rattle.tree_store.specs.Groups.{IsDueAfter}
use Rattle.gcks_core.specs.declared.outputs.CoreOutput.{CoreOutput}
use Rattle.gcks_core.specs.Stored.{stored_after}

-- what the last of these batches puts out: its epoch, the number of the last push, how many members there are, what is encrypted, and the pair if
-- somebody stayed
pub record IsCoreOutputOf {G : Type 0} (g : SignerGhosts G) (signer : G) (depth : ℕ) (spi : List ℕ) (list : List Made) (output : CoreOutput) : Type 0 where
  pub epoch : output.epoch ≡ length list
  pub sequence : output.sequence ≡ sequence_at depth (batches_made list) (length list)
  pub members : output.members ≡ member_count (holders_of depth (batches_made list))
  pub wraps : output.wraps ≡ wraps_at depth (batches_made list) (length list)
  pub pushes : IsPairIfStayed g signer depth spi list output.pushes

-- what contracts see of it: the values of its keys, its record, what it puts out, and what it makes of the tree
pub record PreparedBatch : Type 0 where
  pub values : BatchValues
  pub text : List ℕ
  pub output : CoreOutput
  pub marked : Marked

-- the values of the batch that an answer has
abbrev pub values_in : Result PreparedBatch Refusal → Result BatchValues Refusal
values_in (Ok ready) = Ok ready.values
values_in (Err why) = Err why

-- After these batches it is the batch of these changes, which is due, with its record; what it puts out is what that batch does, with the
-- keys of those who come in, in their order.
pub record IsReadyFor {G : Type 0} (g : SignerGhosts G) (signer : G) (head : Head) (present : Present) (queue : List Change) (list : List Made) (ready : PreparedBatch) : Type 0 where
  pub due : IsDueAfter head.depth head.limit (batches_made list) (stored_after head.depth (batches_made list) (record { changes = queue; values = ready.values }))
  pub text_is : IsBatchOf ready.text (stored_after head.depth (batches_made list) (record { changes = queue; values = ready.values }))
  pub short : length ready.text ≤ 65536
  pub puts_out : IsCoreOutputOf g signer head.depth head.spi (list ++ record { changes = queue; values = ready.values } ∷ []) ready.output
  pub is_marked : IsMarkedFor present queue head.limit ready.marked
  pub joiners_are : map (λ reply. reply.0) ready.output.told ≡ joiners queue
  pub replies_are : All (λ reply. IsKeyedOf head.depth head.spi (list ++ record { changes = queue; values = ready.values } ∷ []) reply.0 reply.1) ready.output.told
