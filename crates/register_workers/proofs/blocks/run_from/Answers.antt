use Rattle.std.proofs.Common.{◌≡◌, ◌∙◌, ◌≤◌, rules, sym, ap, subst}
use Rattle.epoch_board.specs.Pairs.{StartsWith}
use Rattle.epoch_board.specs.Passes.{PassState}
use Rattle.register_workers.specs.Private.Seating.{LeavesDesk}
use Rattle.register_workers.specs.Private.Seats.{IsSinceIf}
use Rattle.group_steps.specs.Shows.{pairs_shown}
use Rattle.register_workers.specs.Views.{View}
use Rattle.register_workers.proofs.BlockLemmas.{begins_now, leaves}
use Rattle.register_workers.proofs.CrashLemmas.{survives}
use Rattle.register_workers.proofs.RunLemmas.{starts_twice}
use Rattle.register_workers.proofs.blocks.run_from.Goals as goal

pub of-kept-requires : goal.of-kept-requires
of-kept-requires g c = record {
  board = ap (λ (b : View g.row.D.Denot g.row.G.Denot g.row.R.Denot). b.board) c.show.ensures.same ∙ c.requires.board.0;
  since = begins_now g.D.Disk g.G.Signer g.R.Draws g.M.Began.start c.args.book c.requires.start c.nothing_was_served_yet.ensures c.show.new.self
      c.show.ensures.same;
}

pub at_desk-blocked-requires-clause-begun : goal.at_desk-blocked-requires-clause-begun
at_desk-blocked-requires-clause-begun g c =
    let fact = c.of-kept.ensures.begun in
    search (rules, fact)

pub at_desk-blocked-requires-clause-board : goal.at_desk-blocked-requires-clause-board
at_desk-blocked-requires-clause-board g c =
    let fact : (c.of-kept.result.board ≡ c.args.board.now) × (c.show.new.reader.board ≡ c.args.board.now)
    = (c.of-kept.ensures.board, c.show.ensures.board) in
    search (rules, fact)

pub at_desk-blocked-requires-clause-lines : goal.at_desk-blocked-requires-clause-lines
at_desk-blocked-requires-clause-lines g c =
    let fact = c.requires.lines in
    search (rules, fact)

pub at_desk-blocked-requires-clause-workers : goal.at_desk-blocked-requires-clause-workers
at_desk-blocked-requires-clause-workers g c =
    let fact : (1 ≤ c.from.result) × (c.from.result ≤ 16)
    = (subst (λ n. 1 ≤ n) (sym c.from.ensures) c.requires.workers.0, subst (λ n. n ≤ 16) (sym c.from.ensures) c.requires.workers.1) in
    search (rules, fact)

pub at_desk-blocked-requires-clause-ready : goal.at_desk-blocked-requires-clause-ready
at_desk-blocked-requires-clause-ready g c =
    let fact = c.requires.ready in
    search (rules, fact)

pub at_desk-blocked-requires-clause-shown : goal.at_desk-blocked-requires-clause-shown
at_desk-blocked-requires-clause-shown g c =
    let show = c.show.ensures in
    let fact = show.seen ∙ show.shown
    ∙ ap pairs_shown (sym (c.of-kept.ensures.entries ∙ ap (λ (b : View g.row.D.Denot g.row.G.Denot g.row.R.Denot). b.entries) show.same)) in
    search (rules, fact)

pub show-requires-2 : goal.show-requires-2
show-requires-2 g c = record {
  book = c.at_desk-blocked.ensures.board;
  reader = ap (λ (p : PassState). p.board) c.at_desk-blocked.ensures.reader ∙ c.show.ensures.board;
}

pub returns-clause-block : goal.returns-clause-block
returns-clause-block g c =
    let show = c.show.ensures in
    let kept = c.of-kept.ensures in
    let blocked = c.at_desk-blocked.result in
    let last = c.show-2.ensures in
    let book = c.show-2.new.self in
    let lines = c.args.lines in
    leaves g.D.Disk g.G.Signer g.R.Draws g.M.Began.start c.args.book c.requires.start blocked.memory c.args.workers lines blocked.lines
    c.of-kept.result.server c.of-kept.result.entries book
    (kept.server ∙ ap (λ (b : View g.row.D.Denot g.row.G.Denot g.row.R.Denot). b.server) show.same)
    (kept.entries ∙ ap (λ (b : View g.row.D.Denot g.row.G.Denot g.row.R.Denot). b.entries) show.same)
    (subst (λ (b : View g.row.D.Denot g.row.G.Denot g.row.R.Denot). IsSinceIf g.D.Disk g.G.Signer g.R.Draws g.M.Began.start b.server b.entries)
    (sym last.same) c.at_desk-blocked.ensures.since)
    blocked.calls
    (ap (λ (b : View g.row.D.Denot g.row.G.Denot g.row.R.Denot). b.board) last.same ∙ c.at_desk-blocked.ensures.board ∙ sym c.requires.board.0)
    show.shown
    (subst (λ (b : View g.row.D.Denot g.row.G.Denot g.row.R.Denot). b.published ≡ pairs_shown b.entries) (sym last.same) last.shown)
    (subst (λ (b : View g.row.D.Denot g.row.G.Denot g.row.R.Denot).
    LeavesDesk blocked.calls blocked.memory c.args.workers lines blocked.lines c.of-kept.result.server c.of-kept.result.entries b) (sym last.same)
    (subst (λ n. LeavesDesk blocked.calls blocked.memory n lines blocked.lines c.of-kept.result.server c.of-kept.result.entries blocked.book)
    c.from.ensures c.at_desk-blocked.ensures.ended))

pub returns-clause-crash : goal.returns-clause-crash
returns-clause-crash g c =
    let core = c.args.book.server.core in
    survives g.D.Disk g.G.Signer g.R.Draws g.M.Began.start c.args.book c.show-2.new.self c.requires.start
    (c.a_crash_leaves_a_moment_of_what_was_served.ensures core.signer (g.R.Draws.block_at core.draws))
    (subst (λ (b : View g.row.D.Denot g.row.G.Denot g.row.R.Denot). IsSinceIf g.D.Disk g.G.Signer g.R.Draws g.M.Began.start b.server b.entries)
    (sym c.show-2.ensures.same) c.at_desk-blocked.ensures.since)

pub returns-clause-board : goal.returns-clause-board
returns-clause-board g c =
    ap (λ (b : View g.row.D.Denot g.row.G.Denot g.row.R.Denot). b.board) c.show-2.ensures.same ∙ c.at_desk-blocked.ensures.board

pub returns-clause-reader : goal.returns-clause-reader
returns-clause-reader g c = (
  c.show-2.ensures.board,
  starts_twice c.show-2.new.reader.seen c.at_desk-blocked.new.reader.seen c.args.reader.now.seen c.show-2.ensures.before
      (subst (λ (p : PassState). StartsWith p.seen c.args.reader.now.seen) (sym c.at_desk-blocked.ensures.reader) c.show.ensures.before),
)

pub returns-clause-shown : goal.returns-clause-shown
returns-clause-shown g c =
    c.show-2.ensures.seen ∙ ap (λ (b : View g.row.D.Denot g.row.G.Denot g.row.R.Denot). b.published) (sym c.show-2.ensures.same)
