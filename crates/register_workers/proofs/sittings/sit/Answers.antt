use Rattle.std.proofs.Common.{◌∙◌, ◌≤◌, vec_capacity, rules, sym, subst}
use Rattle.register_workers.specs.Private.Seating.{IsEnded, IsRoomFor}
use Rattle.register_workers.proofs.sittings.sit.Goals as goal

pub invariant_of-floor : goal.invariant_of-floor
invariant_of-floor g c = record { one_board = c.requires.board }

pub run_all-seated-requires-clause-passes : goal.run_all-seated-requires-clause-passes
run_all-seated-requires-clause-passes g c =
    let fact = c.requires.passes in
    search (rules, fact)

pub run_all-seated-requires-clause-some : goal.run_all-seated-requires-clause-some
run_all-seated-requires-clause-some g c =
    let fact = c.requires.many.0 in
    search (rules, fact)

pub run_all-seated-requires-clause-turns : goal.run_all-seated-requires-clause-turns
run_all-seated-requires-clause-turns g c =
    let fact = c.requires.turns in
    search (rules, fact)

pub run_all-seated-requires-clause-reader : goal.run_all-seated-requires-clause-reader
run_all-seated-requires-clause-reader g c =
    let fact = c.requires.reader in
    search (rules, fact)

pub run_all-seated-requires-clause-ready : goal.run_all-seated-requires-clause-ready
run_all-seated-requires-clause-ready g c =
    let fact = c.requires.ready in
    search (rules, fact)

pub run_all-seated-requires-clause-due : goal.run_all-seated-requires-clause-due
run_all-seated-requires-clause-due g c =
    let fact = c.requires.due in
    search (rules, fact)

pub run_all-seated-requires-clause-done : goal.run_all-seated-requires-clause-done
run_all-seated-requires-clause-done g c =
    let fact = c.requires.done in
    search (rules, fact)

pub run_all-seated-requires-clause-room : goal.run_all-seated-requires-clause-room
run_all-seated-requires-clause-room g c =
    let fact = c.requires.workers in
    search (rules, fact)

pub leave-requires : goal.leave-requires
leave-requires g c =
    let many = sym c.run_all-seated.ensures.many in
    let left = c.args.rooms.left in
    record {
      board = c.requires.board;
      all = (subst (λ n. 1 ≤ n) many c.requires.many.0, c.requires.many.1 ∙ many);
      ran = (c.args.lines, sym c.len-count.ensures, c.run_all-seated.ensures.ran);
      passes = subst (λ n. IsRoomFor n left.passes.items (vec_capacity left.passes)) many c.requires.left_passes;
      readers = subst (λ n. IsRoomFor n left.readers.items (vec_capacity left.readers)) many c.requires.left_readers;
      left = subst (λ n. IsRoomFor n left.ran.items (vec_capacity left.ran)) many c.requires.left_ran;
      room = subst (λ n. IsRoomFor n c.args.rooms.lines.items (vec_capacity c.args.rooms.lines)) (sym c.len-count.ensures) c.requires.lines;
    }

pub returns-clause-ended : goal.returns-clause-ended
returns-clause-ended g c =
    let ended = c.leave.ensures.ended c.args.lines (sym c.len-count.ensures) c.run_all-seated.ensures.ran in (
      ended.0,
      ended.1,
      subst (λ n. IsEnded c.leave.result.memory n c.args.lines c.leave.result.lines c.args.made.desk.terms.start c.leave.result.book.entries ended.0)
          c.run_all-seated.ensures.many ended.2,
    )

pub returns-clause-board : goal.returns-clause-board
returns-clause-board g c = c.leave.ensures.board

pub returns-clause-since : goal.returns-clause-since
returns-clause-since g c = c.leave.ensures.since

pub returns-clause-reader : goal.returns-clause-reader
returns-clause-reader g c = c.run_all-seated.ensures.reader
