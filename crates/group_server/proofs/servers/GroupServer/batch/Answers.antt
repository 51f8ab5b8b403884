use Rattle.std.proofs.Common.{subst}
use Rattle.group_model.specs.declared.entries.Asked.TheVariants.{Batch}
use Rattle.server_steps.specs.Serves.{Serves, answer_batch}
use Rattle.server_steps.specs.Views.{View, server_of}
use Rattle.group_server.proofs.servers.GroupServer.batch.Goals as goal

pub close_batch-requires : goal.close_batch-requires
close_batch-requires g c = c.self.invariant

pub invariant_of-self : goal.invariant_of-self
invariant_of-self g c = c.close_batch.ensures.sound

pub returns-clause-serves : goal.returns-clause-serves
returns-clause-serves g c =
    subst (λ (view : View g.row.D.Denot g.row.G.Denot g.row.R.Denot). Serves g.D.Disk g.G.Signer g.R.Draws Batch (answer_batch c.close_batch.result) view
    (server_of c.close_batch.new.core c.self.inside.rules c.close_batch.new.sessions)) c.self.view_is (c.close_batch.ensures.serves c.self.inside.rules)
