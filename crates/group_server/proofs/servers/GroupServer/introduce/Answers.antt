use Rattle.std.proofs.Common.{refl, sym, subst}
use Rattle.group_model.specs.declared.entries.Asked.TheVariants.{Introduce}
use Rattle.server_steps.specs.Pulls.{answer_introduced}
use Rattle.server_steps.specs.Serves.{Serves}
use Rattle.server_steps.specs.Views.{View, server_of}
use Rattle.group_server.proofs.AcceptLemmas.{introduced}
use Rattle.group_server.proofs.SoundLemmas.{introduced_sound}
use Rattle.group_server.proofs.servers.GroupServer.introduce.Goals as goal

pub invariant_of-self : goal.invariant_of-self
invariant_of-self g c =
    introduced_sound c.self.inside.core.queue c.self.inside.sessions c.args.phase c.introduce.result c.introduce.new.self c.introduce.ensures c.self.invariant

pub returns : goal.returns
returns g c =
    let old = server_of c.self.inside.core c.self.inside.rules c.self.inside.sessions in
    let new = server_of c.self.inside.core c.self.inside.rules c.introduce.new.self in
    subst (λ answer. Serves g.D.Disk g.G.Signer g.R.Draws (Introduce c.args.phase) answer c.args.self.now new) (sym c.introduced.ensures)
    (subst (λ (view : View g.row.D.Denot g.row.G.Denot g.row.R.Denot). Serves g.D.Disk g.G.Signer g.R.Draws (Introduce c.args.phase) (answer_introduced c.introduce.result) view new) c.self.view_is
    (introduced g.D.Disk g.G.Signer g.R.Draws old c.args.phase c.introduce.result new c.prove_phase_fits.ensures c.introduce.ensures refl refl))
