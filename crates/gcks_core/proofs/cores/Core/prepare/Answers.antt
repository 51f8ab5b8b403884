use Rattle.std.proofs.Common.{sym, subst}
use Rattle.group_model.specs.Servers.{IsPreparation, Server}
use Rattle.gcks_core.specs.Prepares.{values_in}
use Rattle.gcks_core.specs.Stands.{Stands}
use Rattle.gcks_core.specs.Views.{View}
use Rattle.gcks_core.proofs.PrepareLemmas.{prepared}
use Rattle.gcks_core.proofs.StandLemmas.{group_of}
use Rattle.gcks_core.proofs.cores.Core.prepare.Goals as goal

pub returns-clause-step : goal.returns-clause-step
returns-clause-step g c server stands =
    let inside : View g.row.D.Denot g.row.G.Denot g.row.R.Denot = record {
      disk = c.self.inside.store.disk;
      signer = c.self.inside.signer;
      draws = c.self.inside.draws;
      head = c.self.inside.head;
      tree = c.self.inside.tree;
      queue = c.self.inside.queue;
      needs_reopen = c.self.inside.needs_reopen;
    } in
    let there = subst (λ (core : View g.row.D.Denot g.row.G.Denot g.row.R.Denot). Stands g.R.Draws core server) (sym c.self.view_is) stands in
    let group = group_of g.R.Draws inside server there in
    let calls = c.prepare_batch.ensures in
    subst (λ (core : View g.row.D.Denot g.row.G.Denot g.row.R.Denot). (x : Server)
    × IsPreparation (g.R.Draws.block_at core.draws) server (values_in c.prepare_batch.result) x
    × Stands g.R.Draws (record inside { draws = c.prepare_batch.new.draws }) x)
    c.self.view_is
    (prepared g.R.Draws inside server there c.prepare_batch.new.draws c.if-self.false c.batch.result.now c.batch.ensures c.prepare_batch.result
    (calls.answer server.list group) (calls.allowed server.list group) (calls.values server.list group) (calls.place server.list group)
    (calls.moved server.list group) calls.refused)
