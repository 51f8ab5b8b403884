use Rattle.std.proofs.Common.{subst}
use Rattle.tree_journal.specs.Private.Found.{IsSeen}
use Rattle.tree_journal.proofs.reads.found_at.Goals as goal

pub returns-in_err-found_ahead-clause-memory : goal.returns-in_err-found_ahead-clause-memory
returns-in_err-found_ahead-clause-memory g c why file is = c.in_err-found_ahead.ensures.memory file (c.requires.ahead file is)

pub returns-in-Record-clause-found : goal.returns-in-Record-clause-found
returns-in-Record-clause-found g c file is = subst (IsSeen file c.args.at c.found_ahead.new.body) c.in-Record.is (c.in_ok-found_ahead.ensures.seen file (c.requires.ahead file is))

pub returns-in-End-clause-found : goal.returns-in-End-clause-found
returns-in-End-clause-found g c file is = subst (IsSeen file c.args.at c.found_ahead.new.body) c.in-End.is (c.in_ok-found_ahead.ensures.seen file (c.requires.ahead file is))
