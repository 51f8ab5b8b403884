use Rattle.std.proofs.Common.{sym, subst}
use Rattle.group_model.specs.declared.entries.Asked.TheVariants.{Begin}
use Rattle.server_steps.specs.Hosts.{no_host}
use Rattle.server_steps.specs.Openings.{IsBeginning}
use Rattle.server_steps.specs.Opens.{Opens}
use Rattle.server_steps.specs.Views.{View, server_of}
use Rattle.group_server.proofs.SoundLemmas.{if_error, none_joins}
use Rattle.group_server.proofs.servers.GroupServer.open.Goals as goal

pub invariant_of-server : goal.invariant_of-server
invariant_of-server g c = none_joins c.in_ok-opened.opened.core.queue c.new-2.result.sas c.in_ok-opened.ensures.nothing_waits c.new-2.ensures.none

pub returns-clause-ok : goal.returns-clause-ok
returns-clause-ok g c name limit =
    let parts = c.args.parts in
    let draws = g.R.Draws in
    let phases = c.args.phases in
    let opened = c.in_ok-opened.opened in
    subst (λ (view : View g.row.D.Denot g.row.G.Denot g.row.R.Denot). Opens g.D.Disk draws (IsBeginning g.D.Disk g.G.Signer parts.signer) Begin
    (no_host parts.disk name limit (draws.place_of parts.draws) phases) parts view opened.resent)
    (λ i. server_of opened.core (sym c.new.ensures i) (record { limit = sym c.new-2.ensures.limit i; sas = sym c.new-2.ensures.none i }))
    (c.in_ok-opened.ensures.ok name limit phases)

pub returns-in_err-opened-clause-err : goal.returns-in_err-opened-clause-err
returns-in_err-opened-clause-err g c =
    if_error _ _ _ c.from_residual.ensures.1 (λ name limit. c.in_err-opened.ensures.err name limit c.args.phases)
