use Rattle.tree_journal.proofs.reads.found_further.Goals as goal

pub returns-in_err-found_in-clause-memory : goal.returns-in_err-found_in-clause-memory
returns-in_err-found_in-clause-memory g c why file is = c.in_err-found_in.ensures.memory file c.args.at 65541 (c.in_ok-count.ensures.octets file is)

pub returns-clause-found : goal.returns-clause-found
returns-clause-found g c file is = c.in_ok-found_in.ensures.found file c.args.at (c.in_ok-count.ensures.octets file is)
