use Rattle.pull_sessions.proofs.LookLemmas.{again_found, first_found, third_found}
use Rattle.pull_sessions.proofs.laws.what_is_found_can_be_held.Goals as goal

pub returns-clause-first : goal.returns-clause-first
returns-clause-first c sas m datagram first apart look = first_found sas m datagram apart first look

pub returns-clause-third : goal.returns-clause-third
returns-clause-third c sas m datagram third apart look = third_found sas m datagram apart third look

pub returns-clause-again : goal.returns-clause-again
returns-clause-again c sas m datagram kept apart look = again_found sas m datagram apart kept look
