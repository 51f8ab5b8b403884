use Rattle.std.proofs.Common.{◌<◌, MatchOption, length, sym, subst, arith}
use Rattle.group_run.specs.Private.Dues.{IsWaiting, NobodyWaits}
use Rattle.group_run.proofs.DueLemmas.{nobody_new, nobody_out, waits_there}
use Rattle.group_run.proofs.delivering.waiting_at.Goals as goal

pub returns-then-not-is_member : goal.returns-then-not-is_member
returns-then-not-is_member g c =
    nobody_out c.args.server.now.core.tree.holders c.args.peers.now.items c.args.place c.name_at-member.result c.name_at-member.ensures
    (sym c.if-not-is_member.ensures)

pub returns-in_err-store : goal.returns-in_err-store
returns-in_err-store g c =
    let holders = c.args.server.now.core.tree.holders in
    let peers = c.args.peers.now.items in
    subst (λ result. MatchOption result (NobodyWaits holders peers c.args.place) (λ found. IsWaiting holders peers c.args.place found.0 found.1))
    (sym c.from_residual.ensures)
    (nobody_new holders peers c.args.place c.name_at-member.result c.name_at-member.ensures c.len.ensures.once (sym c.in_err-store.ensures))

pub returns : goal.returns
returns g c =
    let within : c.args.place < length c.args.peers.now.items = omega arith in
    waits_there c.args.server.now.core.tree.holders c.args.peers.now.items c.args.place c.name_at-member.result c.in_ok-store.store.now c.last_sequence.result
    within c.name_at-member.ensures c.len.ensures.once (sym c.if-not-is_member.ensures) (sym c.in_ok-store.ensures) c.last_sequence.ensures
