use Rattle.std.proofs.Common.{rules}
use Rattle.case_blocks.proofs.sites.Site.serve.Goals as goal

pub run_block-blocked-requires-clause-board : goal.run_block-blocked-requires-clause-board
run_block-blocked-requires-clause-board g c =
    let fact = c.args.self.one_board in
    search (rules, fact)

pub run_block-blocked-requires-clause-lines : goal.run_block-blocked-requires-clause-lines
run_block-blocked-requires-clause-lines g c =
    let fact = c.requires.lines in
    search (rules, fact)

pub run_block-blocked-requires-clause-workers : goal.run_block-blocked-requires-clause-workers
run_block-blocked-requires-clause-workers g c =
    let fact = c.requires.workers in
    search (rules, fact)

pub run_block-blocked-requires-clause-ready : goal.run_block-blocked-requires-clause-ready
run_block-blocked-requires-clause-ready g c =
    let fact = c.requires.ready in
    search (rules, fact)

pub invariant_of-site : goal.invariant_of-site
invariant_of-site g c = record { one_board = (c.run_block-blocked.ensures.board, c.run_block-blocked.ensures.reader.0) }
