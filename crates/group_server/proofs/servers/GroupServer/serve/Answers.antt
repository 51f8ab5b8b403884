use Rattle.std.proofs.Common.{subst}
use Rattle.group_model.specs.declared.entries.Asked.TheVariants.{Serve}
use Rattle.server_steps.specs.Serves.{Serves}
use Rattle.server_steps.specs.Views.{View, server_of}
use Rattle.group_server.specs.Answers.{answer_served}
use Rattle.group_server.proofs.servers.GroupServer.serve.Goals as goal

pub invariant_of-self : goal.invariant_of-self
invariant_of-self g c = c.answer.ensures.sound c.self.invariant

pub returns : goal.returns
returns g c asker =
    subst (λ (view : View g.row.D.Denot g.row.G.Denot g.row.R.Denot). Serves g.D.Disk g.G.Signer g.R.Draws (Serve asker c.args.datagram.now)
    (answer_served c.answer.result) view (server_of c.answer.new.core c.self.inside.rules c.answer.new.sessions)) c.self.view_is (c.answer.ensures.serves asker)
