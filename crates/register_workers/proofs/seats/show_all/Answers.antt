use Rattle.std.proofs.Common.{◌≡◌, ◌∙◌, [], ◌∷◌, ◌++◌, Some, arith, length, refl, ap, subst}
use Rattle.std.proofs.lemmas.List.{length-append, nil_from_length}
use Rattle.std.proofs.lemmas.List.Elements.{All-nil, All-pop, All-push, All-same}
use Rattle.epoch_board.specs.Pairs.{StartsWith}
use Rattle.epoch_board.specs.Passes.{PassState}
use Rattle.group_steps.specs.Shows.{pairs_shown}
use Rattle.register_workers.proofs.seats.show_all.Goals as goal

pub loop-reader-init : goal.loop-reader-init
loop-reader-init g c = record { same = refl; readers = c.requires.readers; seen = λ all. all }

pub loop-reader-smaller : goal.loop-reader-smaller
loop-reader-smaller g c = omega (arith, ap length c.in-Some.ensures.items, length-append c.pop.new.self.items (c.in-Some.reader ∷ []))

pub show-requires : goal.show-requires
show-requires g c = record {
  book = ap (λ b. b.board) c.loop-reader.invariant.same ∙ c.requires.book;
  reader = (All-pop (λ (reader : PassState). reader.board ≡ c.args.board.now) c.loop-reader.readers.items c.pop.new.self.items (Some c.in-Some.reader)
      c.in-Some.ensures.items c.loop-reader.invariant.readers).1;
}

pub loop-reader-preserved : goal.loop-reader-preserved
loop-reader-preserved g c =
    let inv = c.loop-reader.invariant in
    let front = c.pop.new.self.items in
    let entries = c.args.book.now.entries in
    let show = c.show.ensures in
    record {
      same = show.same ∙ inv.same;
      readers = (All-pop (λ (reader : PassState). reader.board ≡ c.args.board.now) c.loop-reader.readers.items front (Some c.in-Some.reader)
          c.in-Some.ensures.items inv.readers).0;
      seen = λ all.
          inv.seen (All-same (λ (reader : PassState). StartsWith (pairs_shown entries) reader.seen) c.loop-reader.readers.items (front ++ c.in-Some.reader ∷ [])
          c.in-Some.ensures.items (All-push (λ (reader : PassState). StartsWith (pairs_shown entries) reader.seen) front c.in-Some.reader all
          (subst (λ pairs. StartsWith pairs c.in-Some.reader.seen) (show.seen ∙ show.shown ∙ ap (λ b. pairs_shown b.entries) inv.same) show.before)));
    }

pub returns-clause-same : goal.returns-clause-same
returns-clause-same g c = c.loop-reader.invariant.same

pub returns-clause-seen : goal.returns-clause-seen
returns-clause-seen g c =
    let entries = c.args.book.now.entries in
    c.loop-reader.invariant.seen (All-same (λ (reader : PassState). StartsWith (pairs_shown entries) reader.seen) c.loop-reader.readers.items []
    (nil_from_length c.loop-reader.readers.items (omega (arith, c.in_default.ensures.cases.0, c.loop-reader.readers.ok.0)))
    (All-nil (λ (reader : PassState). StartsWith (pairs_shown entries) reader.seen)))
