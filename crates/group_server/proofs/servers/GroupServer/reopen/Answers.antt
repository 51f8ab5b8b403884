use Rattle.std.proofs.Common.{Ok, Err, sym, subst}
use Rattle.pull_sessions.specs.Sessions.{without_sessions}
use Rattle.server_steps.specs.Serves.{ServesReopening}
use Rattle.server_steps.specs.Views.{View, server_of}
use Rattle.group_server.proofs.SoundLemmas.{error_is, reopened_sound, sound_beside}
use Rattle.group_server.proofs.servers.GroupServer.reopen.Goals as goal

pub invariant_of-self : goal.invariant_of-self
invariant_of-self g c =
    sound_beside c.self.inside.core.queue c.reopen.new.core.queue c.self.inside.sessions.sas c.in_err-resent.ensures.waits c.self.invariant

pub returns-in_err-resent-clause-serves : goal.returns-in_err-resent-clause-serves
returns-in_err-resent-clause-serves g c =
    let new = server_of c.reopen.new.core c.self.inside.rules c.self.inside.sessions in
    let why = c.in_err-resent.field-0.0 in
    subst (λ result. ServesReopening g.D.Disk g.G.Signer g.R.Draws result c.args.self.now new) (sym (error_is _ why c.from_residual.ensures.1))
    (subst (λ (view : View g.row.D.Denot g.row.G.Denot g.row.R.Denot). ServesReopening g.D.Disk g.G.Signer g.R.Draws (Err why) view new) c.self.view_is
    (c.in_err-resent.ensures.serves c.self.inside.rules c.self.inside.sessions))

pub invariant_of-self-2 : goal.invariant_of-self-2
invariant_of-self-2 g c =
    reopened_sound c.reopen.new.core.queue c.self.inside.sessions c.forget_sessions.new.self c.in_ok-resent.ensures.nothing_waits c.forget_sessions.ensures

pub returns-clause-serves : goal.returns-clause-serves
returns-clause-serves g c =
    subst (λ sessions. ServesReopening g.D.Disk g.G.Signer g.R.Draws (Ok c.in_ok-resent.resent) c.args.self.now
    (server_of c.reopen.new.core c.self.inside.rules sessions)) (sym c.forget_sessions.ensures)
    (subst (λ (view : View g.row.D.Denot g.row.G.Denot g.row.R.Denot). ServesReopening g.D.Disk g.G.Signer g.R.Draws (Ok c.in_ok-resent.resent) view
    (server_of c.reopen.new.core c.self.inside.rules (without_sessions c.self.inside.sessions))) c.self.view_is
    (c.in_ok-resent.ensures.serves c.self.inside.rules c.self.inside.sessions))
