use Rattle.std.proofs.Common.{◌-◌, arith}
use Rattle.tree_journal.proofs.HeadLemmas.{further_on}
use Rattle.tree_journal.proofs.reads.found_ahead.Goals as goal

pub returns-clause-seen : goal.returns-clause-seen
returns-clause-seen c file is =
    let ahead = c.args.ahead in
    c.found_in.ensures.seen file c.args.at (ahead.count - (c.args.at - ahead.at))
    (further_on file c.args.room.now ahead.count ahead.at c.args.at is (omega (arith, c.if-at-ahead.false)) (omega (arith, c.if-from-ahead.false)))

pub returns-clause-memory : goal.returns-clause-memory
returns-clause-memory c file is =
    let ahead = c.args.ahead in
    c.found_in.ensures.memory file c.args.at (ahead.count - (c.args.at - ahead.at))
    (further_on file c.args.room.now ahead.count ahead.at c.args.at is (omega (arith, c.if-at-ahead.false)) (omega (arith, c.if-from-ahead.false)))
