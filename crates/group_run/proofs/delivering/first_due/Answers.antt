use Rattle.std.proofs.Common.{◌≤◌, length, arith}
use Rattle.group_run.proofs.DueLemmas.{first_from, leaves_all, leaves_later, none_from}
use Rattle.group_run.proofs.delivering.first_due.Goals as goal

pub loop-place-init : goal.loop-place-init
loop-place-init g c = leaves_all c.args.server.now.core.tree.holders c.args.peers.now.items c.args.pushes.now.items c.args.from c.args.number

pub loop-place-preserved : goal.loop-place-preserved
loop-place-preserved g c =
    leaves_later c.args.server.now.core.tree.holders c.args.peers.now.items c.args.pushes.now.items c.args.from c.args.number c.loop-place.place c.loop-place.after
    c.loop-place.invariant c.in_default.ensures

pub returns-in-Some : goal.returns-in-Some
returns-in-Some g c =
    first_from c.args.server.now.core.tree.holders c.args.peers.now.items c.args.pushes.now.items c.args.from c.args.number c.loop-place.place c.loop-place.after
    c.in-Some.delivery c.loop-place.invariant c.in-Some.ensures

pub returns : goal.returns
returns g c =
    let past : length c.args.peers.now.items ≤ c.loop-place.place = omega arith in
    none_from c.args.server.now.core.tree.holders c.args.peers.now.items c.args.pushes.now.items c.args.from c.args.number c.loop-place.place c.loop-place.after
    c.loop-place.invariant past
