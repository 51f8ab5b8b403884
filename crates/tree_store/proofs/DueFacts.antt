-- After the same batches only one record is due: a definition that let another epoch, number or position in does not check here.
use Rattle.std.proofs.Common.{◌≡◌, ◌∙◌, ◌+◌, ◌++◌, ◌∷◌, [], List, length, ap, sym}
use Rattle.group_values.specs.Values.{ids_of}
use Rattle.group_model.specs.Drawn.{drawn_at}
use Rattle.group_model.specs.Stayed.{sequence_at}
use Rattle.group_records.specs.declared.batches.Stored.{Stored}
use Rattle.group_records.specs.declared.heads.Head.{Head}
use Rattle.tree_store.specs.Groups.{IsDue, batches_of}

module _ (head : Head) (before : List Stored) (one other : Stored) (is : IsDue head before one) (was : IsDue head before other) where
  one_epoch : one.epoch ≡ other.epoch
  one_epoch = is.epoch ∙ sym was.epoch

  one_number : one.batch ≡ other.batch → one.sequence ≡ other.sequence
  one_number same =
      is.sequence ∙ ap (λ batch. sequence_at head.depth (batches_of before ++ batch ∷ []) one.epoch) same
      ∙ ap (λ epoch. sequence_at head.depth (batches_of before ++ other.batch ∷ []) epoch) one_epoch ∙ sym was.sequence

  same_positions : one.batch ≡ other.batch → ids_of one.values.nodes ≡ ids_of other.values.nodes
  same_positions same =
      is.carried.drawn ∙ ap (λ batch. drawn_at head.depth (batches_of before ++ batch ∷ []) (length (batches_of before) + 1)) same ∙ sym was.carried.drawn
