use Rattle.std.proofs.Common.{sym, subst}
use Rattle.gcks_core.specs.Stands.{Stands}
use Rattle.server_steps.specs.Views.{View}
use Rattle.group_server.proofs.servers.GroupServer.show_opened.Goals as goal

pub returns : goal.returns
returns g c server stands =
    c.show_opened.ensures.shows server
    (subst (λ (view : View g.row.D.Denot g.row.G.Denot g.row.R.Denot). Stands g.R.Draws view.core server) (sym c.self.view_is) stands)
