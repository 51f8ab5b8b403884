use Rattle.std.proofs.Common.{subst}
use Rattle.pull_sessions.specs.Fits.{AllFit}
use Rattle.pull_sessions.specs.Sessions.{AreApart}
use Rattle.server_steps.specs.Openings.{IsHead}
use Rattle.server_steps.specs.Views.{View}
use Rattle.server_steps.specs.Joining.{JoinsHaveSessions}
use Rattle.group_server.proofs.servers.GroupServer.prove_sound.Goals as goal

pub returns-clause-joins : goal.returns-clause-joins
returns-clause-joins g c = subst (λ (view : View g.row.D.Denot g.row.G.Denot g.row.R.Denot). JoinsHaveSessions view.core.queue view.sessions.sas) c.self.view_is c.self.invariant

pub returns-clause-apart : goal.returns-clause-apart
returns-clause-apart g c = subst (λ (view : View g.row.D.Denot g.row.G.Denot g.row.R.Denot). AreApart view.sessions.sas) c.self.view_is c.prove_sound.ensures.apart

pub returns-clause-fits : goal.returns-clause-fits
returns-clause-fits g c = subst (λ (view : View g.row.D.Denot g.row.G.Denot g.row.R.Denot). AllFit view.sessions.sas) c.self.view_is c.prove_sound.ensures.fits

pub returns-clause-head : goal.returns-clause-head
returns-clause-head g c =
    subst (λ (view : View g.row.D.Denot g.row.G.Denot g.row.R.Denot). IsHead view.core.head) c.self.view_is
    (record { fits = c.prove_head_fits.ensures.fits; octets = c.prove_head_fits.ensures.octets })
