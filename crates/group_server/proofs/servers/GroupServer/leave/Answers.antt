use Rattle.std.proofs.Common.{subst}
use Rattle.group_model.specs.declared.entries.Asked.TheVariants.{Leave}
use Rattle.server_steps.specs.Serves.{Serves, answer_done}
use Rattle.server_steps.specs.Views.{View, server_of}
use Rattle.group_server.proofs.SessionLemmas.{left_sound}
use Rattle.group_server.proofs.SoundLemmas.{sound_beside}
use Rattle.group_server.proofs.servers.GroupServer.leave.Goals as goal

pub invariant_of-self : goal.invariant_of-self
invariant_of-self g c =
    sound_beside _ c.leave.new.core.queue c.self.inside.sessions.sas c.leave.ensures.waits
    (left_sound c.self.inside.core.queue c.args.member.now c.self.inside.sessions.sas c.leave.result c.self.invariant)

pub returns : goal.returns
returns g c =
    subst (λ (view : View g.row.D.Denot g.row.G.Denot g.row.R.Denot). Serves g.D.Disk g.G.Signer g.R.Draws (Leave c.args.member.now) (answer_done c.leave.result) view
    (server_of c.leave.new.core c.self.inside.rules c.self.inside.sessions)) c.self.view_is (c.leave.ensures.serves c.self.inside.rules c.self.inside.sessions)
