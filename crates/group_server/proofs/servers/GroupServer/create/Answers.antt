use Rattle.std.proofs.Common.{None, sym, subst}
use Rattle.group_model.specs.declared.entries.Asked.TheVariants.{Create}
use Rattle.server_steps.specs.Hosts.{no_host}
use Rattle.server_steps.specs.Openings.{IsCreation}
use Rattle.server_steps.specs.Opens.{Opens}
use Rattle.server_steps.specs.Views.{View, server_of}
use Rattle.group_server.proofs.SoundLemmas.{if_error, none_joins}
use Rattle.group_server.proofs.servers.GroupServer.create.Goals as goal

pub invariant_of-result : goal.invariant_of-result
invariant_of-result g c = none_joins c.in_ok-core.core.queue c.new-2.result.sas c.in_ok-core.ensures.nothing_waits c.new-2.ensures.none

pub returns-clause-ok : goal.returns-clause-ok
returns-clause-ok g c =
    let group = c.args.group.now in
    let parts = c.args.parts in
    let draws = g.R.Draws in
    let phases = c.args.phases in
    subst (λ (view : View g.row.D.Denot g.row.G.Denot g.row.R.Denot). Opens g.D.Disk draws (IsCreation g.D.Disk (draws.block_at parts.draws) group.depth) (Create group.depth)
    (no_host parts.disk group.name group.limit (draws.place_of parts.draws) phases) parts view None)
    (λ i. server_of c.in_ok-core.core (sym c.new.ensures i) (record { limit = sym c.new-2.ensures.limit i; sas = sym c.new-2.ensures.none i }))
    (c.in_ok-core.ensures.ok phases)

pub returns-in_err-core-clause-err : goal.returns-in_err-core-clause-err
returns-in_err-core-clause-err g c = if_error _ _ _ c.from_residual.ensures.1 (c.in_err-core.ensures.err c.args.phases)
