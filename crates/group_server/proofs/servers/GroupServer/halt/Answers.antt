use Rattle.std.proofs.Common.{subst}
use Rattle.group_model.specs.declared.entries.Answer.TheVariants.{Done}
use Rattle.group_model.specs.declared.entries.Asked.TheVariants.{Halt}
use Rattle.server_steps.specs.Serves.{Serves}
use Rattle.server_steps.specs.Views.{View, server_of}
use Rattle.group_server.proofs.SoundLemmas.{sound_beside}
use Rattle.group_server.proofs.servers.GroupServer.halt.Goals as goal

pub invariant_of-self : goal.invariant_of-self
invariant_of-self g c = sound_beside c.self.inside.core.queue c.halt.new.core.queue c.self.inside.sessions.sas c.halt.ensures.waits c.self.invariant

pub returns : goal.returns
returns g c =
    subst (λ (view : View g.row.D.Denot g.row.G.Denot g.row.R.Denot). Serves g.D.Disk g.G.Signer g.R.Draws Halt Done view
    (server_of c.halt.new.core c.self.inside.rules c.self.inside.sessions)) c.self.view_is (c.halt.ensures.serves c.self.inside.rules c.self.inside.sessions)
