-- What an epoch board shows of a history.
use Rattle.std.specs.Prelude.{List, Option, None, Some}
use Rattle.std.specs.List.{filter_map}
use Rattle.epoch_board.specs.declared.pairs.Seen.{Seen}
use Rattle.group_model.specs.declared.entries.Answer.{Answer}
use Rattle.group_model.specs.declared.entries.Answer.TheVariants.{Batched, Opened}
use Rattle.group_model.specs.declared.entries.Entry.{Entry}

-- the pair of an answer: that of a batch that was made, or of a group that was opened
abbrev pub pair_shown : Answer → Option Seen
pair_shown (Batched output) = Some (record { epoch = output.epoch; sequence = output.sequence })
pair_shown (Opened seen resent) = Some (record { epoch = seen.epoch; sequence = seen.sequence })
pair_shown answer = None

-- the pairs of a history, each of which is published
abbrev pub pairs_shown : List Entry → List Seen
pairs_shown entries = filter_map (λ (entry : Entry). pair_shown entry.answer) entries
