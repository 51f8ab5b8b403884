use Rattle.std.proofs.Common.{◌≡◌, ◌++◌, take}
use Rattle.std.specs.List.{flat_map}
use Rattle.journal_listing.specs.Texts.{batch_line}
use Rattle.journal_listing.proofs.texts.append_batches.Given as goal

abbrev pub invariant-loop-batch : goal.invariant-loop-batch
invariant-loop-batch l = l.out ≡ l.initial.out ++ flat_map batch_line (take l.batch-index l.batches)
