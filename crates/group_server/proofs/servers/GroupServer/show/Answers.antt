use Rattle.std.proofs.Common.{subst}
use Rattle.std.proofs.lemmas.Result.{IfOk-weaker}
use Rattle.group_model.specs.declared.entries.Asked.TheVariants.{Show}
use Rattle.server_steps.specs.Serves.{Serves}
use Rattle.server_steps.specs.Views.{View}
use Rattle.group_server.proofs.servers.GroupServer.show.Goals as goal

pub returns : goal.returns
returns g c =
    IfOk-weaker c.show.result _ _
    (λ answer serves. subst (λ (view : View g.row.D.Denot g.row.G.Denot g.row.R.Denot). Serves g.D.Disk g.G.Signer g.R.Draws Show answer view view)
    c.self.view_is (serves c.self.inside.rules c.self.inside.sessions)) c.show.ensures.serves
