use Rattle.std.proofs.Common.{◌≡◌, true, sym, subst}
use Rattle.group_model.specs.declared.entries.Asked.TheVariants.{DeliverAll}
use Rattle.server_steps.specs.Serves.{Serves}
use Rattle.server_steps.specs.Views.{View}
use Rattle.group_server.proofs.servers.GroupServer.refuse_deliveries.Goals as goal

pub refuse_deliveries-requires : goal.refuse_deliveries-requires
refuse_deliveries-requires g c =
    subst (λ (view : View g.row.D.Denot g.row.G.Denot g.row.R.Denot). view.core.needs_reopen ≡ true) (sym c.self.view_is) c.requires

pub returns : goal.returns
returns g c =
    subst (λ (view : View g.row.D.Denot g.row.G.Denot g.row.R.Denot). Serves g.D.Disk g.G.Signer g.R.Draws DeliverAll c.refuse_deliveries.result view view)
    c.self.view_is (c.refuse_deliveries.ensures.serves c.self.inside.rules c.self.inside.sessions)
