use Rattle.std.proofs.Common.{rules, ap, sym, not, ltb, arith}
use Rattle.std.proofs.lemmas.List.Sorted.{IsPartitionPoint-from_clause, IsPartitionedBy-ltb}
use Rattle.std.proofs.lemmas.List.Sums.{position_or_len_is}
use Rattle.sent_pushes.specs.declared.notes.Note.{Note}
use Rattle.sent_pushes.specs.Private.Searches.{is_from, no_note}
use Rattle.sent_pushes.proofs.NoteLemmas.{rises_by}
use Rattle.sent_pushes.proofs.notes.first_from.Goals as goal

pub returns-clause-at : goal.returns-clause-at
returns-clause-at c =
    let notes = c.args.notes.now in
    let number = c.args.number in
    let at = c.partition_point.result in
    let parted = IsPartitionPoint-from_clause (λ (note : Note). ltb note.number number) notes at c.partition_point.ensures.partitioned
    (IsPartitionedBy-ltb (λ (note : Note). note.number) notes number (rises_by notes c.requires)) (λ a r f called. search rules) in
    sym (position_or_len_is (is_from number) notes at no_note c.partition_point.ensures.bound
    (λ k before. ap not (parted.0 k no_note (omega arith) before)) (λ low. ap not (parted.1 at no_note (omega arith) low)))
