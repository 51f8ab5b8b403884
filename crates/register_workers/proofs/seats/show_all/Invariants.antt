use Rattle.std.proofs.Common.{◌≡◌, length, All}
use Rattle.epoch_board.specs.Pairs.{StartsWith}
use Rattle.epoch_board.specs.Passes.{PassState}
use Rattle.group_steps.specs.Shows.{pairs_shown}
use Rattle.register_workers.proofs.seats.show_all.Given as goal

-- all of them had seen a first part, if those had that are left
abbrev pub invariant-loop-reader : goal.invariant-loop-reader
invariant-loop-reader g l = record {
  same : l.book ≡ l.fn.book;
  readers : All (λ (reader : PassState). reader.board ≡ l.board) l.readers.items;
  seen : All (λ (reader : PassState). StartsWith (pairs_shown l.fn.book.entries) reader.seen) l.readers.items
      → All (λ (reader : PassState). StartsWith (pairs_shown l.fn.book.entries) reader.seen) l.fn.readers.items;
}

abbrev pub decreases-loop-reader : goal.decreases-loop-reader
decreases-loop-reader g l = length l.readers.items
