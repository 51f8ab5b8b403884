use Rattle.gd_disk.proofs.TornLemmas.{Torn-same, Torn-written, Cut-same, Cut-taken}
use Rattle.gd_disk.proofs.laws.a_crash_may_leave_nothing_or_all.Goals as goal

pub returns-clause-nothing_written : goal.returns-clause-nothing_written
returns-clause-nothing_written c = Torn-same

pub returns-clause-all_written : goal.returns-clause-all_written
returns-clause-all_written c = Torn-written

pub returns-clause-nothing_cut : goal.returns-clause-nothing_cut
returns-clause-nothing_cut c = Cut-same

pub returns-clause-all_cut : goal.returns-clause-all_cut
returns-clause-all_cut c = Cut-taken
