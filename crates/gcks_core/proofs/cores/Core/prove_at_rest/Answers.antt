use Rattle.std.proofs.Common.{◌≡◌, false, inl, refl, subst}
use Rattle.gd_disk.specs.Disks.{Knows, Only}
use Rattle.gd_disk.specs.Moments.{shown, LeavesOnly}
use Rattle.group_model.specs.Servers.{Server}
use Rattle.gcks_core.specs.Stands.{Stands}
use Rattle.gcks_core.specs.Stored.{IsOnDisk}
use Rattle.gcks_core.specs.Views.{View}
use Rattle.gcks_core.proofs.StandLemmas.{stands_as, sure_server}
use Rattle.gcks_core.proofs.cores.Core.prove_at_rest.Goals as goal

pub returns-clause-some : goal.returns-clause-some
returns-clause-some g c =
    let P : View g.row.D.Denot g.row.G.Denot g.row.R.Denot → Type 0 = λ core.
    (server : Server) × Stands g.R.Draws core server × (core.needs_reopen ≡ false → IsOnDisk g.D.Disk core.disk core.head server) in
    let core = c.self.inside in
    let list = c.self.invariant.list in
    let there : View g.row.D.Denot g.row.G.Denot g.row.R.Denot = record {
      disk = core.store.disk;
      signer = core.signer;
      draws = core.draws;
      head = core.head;
      tree = core.tree;
      queue = core.queue;
      needs_reopen = core.needs_reopen;
    } in
    subst P c.self.view_is (
      sure_server g.R.Draws there list,
      stands_as g.R.Draws there list c.self.invariant.group,
      λ goes file is. (list, inl refl, (c.self.invariant.at_end goes).file file is),
    )

pub returns-clause-durable : goal.returns-clause-durable
returns-clause-durable g c =
    let P : View g.row.D.Denot g.row.G.Denot g.row.R.Denot → Type 0 = λ core.
    core.needs_reopen ≡ false → Knows (shown g.D.Disk core.disk) (λ file. Only file (g.D.Disk.may_leave core.disk)) in
    subst P c.self.view_is (λ goes. c.prove_at_rest.ensures.durable (c.self.invariant.at_end goes).open_still)

pub returns-clause-still : goal.returns-clause-still
returns-clause-still g c =
    let P : View g.row.D.Denot g.row.G.Denot g.row.R.Denot → Type 0 = λ core.
    core.needs_reopen ≡ false → Knows (shown g.D.Disk core.disk) (λ file. LeavesOnly g.D.Disk core.disk core.disk (λ c. c ≡ file)) in
    subst P c.self.view_is (λ goes. c.prove_at_rest.ensures.still (c.self.invariant.at_end goes).open_still)
