use Rattle.std.proofs.Common.{◌≡◌, ◌∙◌, ◌<◌, List, length, map, All, Global, Vec, arith, refl, sym, ap, subst}
use Rattle.std.proofs.lemmas.List.{length-map}
use Rattle.std.proofs.lemmas.List.Elements.{All-map, All-same}
use Rattle.desk.specs.Turned.{IsWhole}
use Rattle.desk.specs.Views.{Holder}
use Rattle.epoch_board.specs.Pairs.{StartsWith}
use Rattle.epoch_board.specs.Passes.{PassState}
use Rattle.group_model.specs.declared.entries.Entry.{Entry}
use Rattle.work_shares.specs.Shares.{share}
use Rattle.register_workers.specs.Private.Running.{Worker}
use Rattle.register_workers.specs.Private.Seats.{IsSinceIf}
use Rattle.group_steps.specs.Shows.{pairs_shown}
use Rattle.register_workers.specs.Views.{View}
use Rattle.register_workers.specs.declared.desk_books.OnBoard.{OnBoard}
use Rattle.register_workers.specs.declared.lines.BlockLine.{BlockLine}
use Rattle.register_workers.proofs.SeatingLemmas.{are_shares, ended}
use Rattle.register_workers.proofs.sittings.leave.Goals as goal

abbrev items_of : Vec BlockLine Global → List BlockLine
items_of hand = hand.items

abbrev pass_of : Worker → Holder Entry OnBoard
pass_of worker = worker.pass

abbrev reader_of : Worker → PassState
reader_of worker = worker.reader

abbrev done_of : Worker → List BlockLine
done_of worker = worker.done

pub rise-memory-requires : goal.rise-memory-requires
rise-memory-requires g c = record { passes = c.requires.passes; readers = c.requires.readers; ran = c.requires.left }

pub closed-kept-requires : goal.closed-kept-requires
closed-kept-requires g c =
    let seated = c.args.seated.items in
    let are = c.from_vec.ensures ∙ c.rise-memory.ensures.passes in
    record {
      own = All-same (λ (pass : Holder Entry OnBoard). pass.desk ≡ c.args.desk.id) c.from_vec.result (map pass_of seated) are
          (All-map (λ (pass : Holder Entry OnBoard). pass.desk ≡ c.args.desk.id) pass_of seated c.requires.ran.2.own);
      all = omega (arith, c.requires.all.1, ap length are, length-map seated pass_of);
    }

pub show_all-requires : goal.show_all-requires
show_all-requires g c =
    let seated = c.args.seated.items in
    record {
      book = c.into_book-book.ensures.board ∙ ap (λ (tag : OnBoard). tag.board) c.closed-kept.ensures.tag ∙ sym c.requires.board;
      readers = All-same (λ (reader : PassState). reader.board ≡ c.args.board.now) _ (map reader_of seated) c.rise-memory.ensures.readers
          (All-map (λ (reader : PassState). reader.board ≡ c.args.board.now) reader_of seated
          (λ k d less. c.requires.ran.2.reads k d less ∙ sym c.requires.board));
    }

pub gathered-requires : goal.gathered-requires
gathered-requires g c =
    let seated = c.args.seated.items in
    let ran = c.rise-memory.new.left.ran.items in
    record {
      some = omega (arith, c.requires.all.0, ap length c.rise-memory.ensures.ran, length-map ran items_of, length-map seated done_of);
      room = c.requires.room;
      shares = are_shares c.args.desk c.requires.ran.0 seated c.requires.ran.2 (map items_of ran) c.args.count c.rise-memory.ensures.ran c.requires.ran.1;
    }

pub returns-clause-ended : goal.returns-clause-ended
returns-clause-ended g c lines counted run =
    let seated = c.args.seated.items in
    let ran = c.rise-memory.new.left.ran.items in
    let passes = c.from_vec.result in
    let rise = c.rise-memory.ensures in
    let closed = c.closed-kept.ensures in
    let news = c.gathered.result in
    let entries : c.show_all.new.book.entries ≡ c.into_book-book.result.entries
    = ap (λ (b : View g.row.D.Denot g.row.G.Denot g.row.R.Denot). b.entries) c.show_all.ensures.same in (
      c.closed-kept.result.calls,
      refl,
      ended c.args.desk lines seated run c.show_all.new.book.entries passes c.rise-memory.new.left.readers.items (map items_of ran) c.rise-memory.result news
          c.closed-kept.result.calls (c.from_vec.ensures ∙ rise.passes) rise.readers rise.ran rise.memory
          (subst (IsWhole c.args.desk.terms passes) (sym (entries ∙ c.into_book-book.ensures.entries)) closed.whole) closed.calls
          (subst (λ list. All (λ (reader : PassState). StartsWith (pairs_shown list) reader.seen) c.rise-memory.new.left.readers.items) (sym entries)
          c.show_all.ensures.seen)
          (λ w less. ap (λ n. share n w news) (length-map ran items_of) ∙ c.gathered.ensures.shares w (subst (λ n. w < n) (length-map ran items_of) less))
          (c.gathered.ensures.count ∙ sym counted),
    )

pub returns-clause-board : goal.returns-clause-board
returns-clause-board g c =
    ap (λ (b : View g.row.D.Denot g.row.G.Denot g.row.R.Denot). b.board) c.show_all.ensures.same ∙ c.into_book-book.ensures.board
    ∙ ap (λ (tag : OnBoard). tag.board) c.closed-kept.ensures.tag

pub returns-clause-since : goal.returns-clause-since
returns-clause-since g c =
    subst (λ (b : View g.row.D.Denot g.row.G.Denot g.row.R.Denot). IsSinceIf g.D.Disk g.G.Signer g.R.Draws g.M.Began.start b.server b.entries)
    (sym c.show_all.ensures.same) c.into_book-book.ensures.since
