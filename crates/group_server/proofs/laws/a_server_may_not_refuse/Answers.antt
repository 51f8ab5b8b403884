use Rattle.group_server.proofs.LawLemmas.{batch_made, first_answered, leave_granted, reopening_made, third_answered}
use Rattle.group_server.proofs.laws.a_server_may_not_refuse.Goals as goal

pub returns-clause-first : goal.returns-clause-first
returns-clause-first g c signer block = first_answered g.D.Disk g.G.Signer signer block

pub returns-clause-third : goal.returns-clause-third
returns-clause-third g c signer block = third_answered g.D.Disk g.G.Signer signer block

pub returns-clause-leave : goal.returns-clause-leave
returns-clause-leave g c signer block = leave_granted g.D.Disk g.G.Signer signer block

pub returns-clause-batch : goal.returns-clause-batch
returns-clause-batch g c signer block = batch_made g.D.Disk g.G.Signer signer block

pub returns-clause-reopening : goal.returns-clause-reopening
returns-clause-reopening g c signer block = reopening_made g.D.Disk g.G.Signer signer block
