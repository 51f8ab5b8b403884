use Rattle.std.proofs.Common.{rules, sym, leb, arith}
use Rattle.std.proofs.lemmas.Bool.{leb-true, leb-false, le-ltb, lt-ltb}
use Rattle.std.proofs.lemmas.List.Sorted.{IsPartitionPoint-from_clause, IsPartitionedBy-leb}
use Rattle.std.proofs.lemmas.List.Sums.{position_or_len_is}
use Rattle.sent_pushes.specs.declared.notes.Note.{Note}
use Rattle.sent_pushes.specs.Notes.{is_after}
use Rattle.sent_pushes.specs.Private.Searches.{no_note, number_at}
use Rattle.sent_pushes.proofs.NoteLemmas.{rises_by}
use Rattle.sent_pushes.proofs.notes.first_after.Goals as goal

pub returns : goal.returns
returns c =
    let notes = c.args.notes.now in
    let number = c.args.number in
    let at = c.partition_point.result in
    let parted = IsPartitionPoint-from_clause (λ (note : Note). leb note.number number) notes at c.partition_point.ensures.partitioned
    (IsPartitionedBy-leb (λ (note : Note). note.number) notes number (rises_by notes c.requires)) (λ a r f called. search rules) in
    sym (position_or_len_is (is_after number) notes at no_note c.partition_point.ensures.bound
    (λ k before. le-ltb number (number_at notes k) (leb-true (number_at notes k) number (parted.0 k no_note (omega arith) before)))
    (λ low. lt-ltb number (number_at notes at) (leb-false (number_at notes at) number (parted.1 at no_note (omega arith) low))))
