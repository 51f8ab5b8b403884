use Rattle.tree_journal.proofs.HeadLemmas.{kept_few}
use Rattle.tree_journal.proofs.reads.read_ahead.Goals as goal

pub returns-clause-ahead : goal.returns-clause-ahead
returns-clause-ahead g c file is =
    kept_few file c.read_front.new.room c.in_ok-count.count 65541 c.args.at (c.in_ok-count.ensures.octets file is) c.in_ok-count.ensures.count
