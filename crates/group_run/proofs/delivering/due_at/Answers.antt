use Rattle.std.proofs.Common.{◌≡◌, MatchOption, Some, max, sym, subst}
use Rattle.sent_pushes.specs.Notes.{next_after}
use Rattle.group_run.specs.Private.Dues.{IsFirstAt, NoneIsAt}
use Rattle.group_run.proofs.DueLemmas.{first_at, none_at_nobody}
use Rattle.group_run.proofs.delivering.due_at.Goals as goal

pub returns-in_err-member : goal.returns-in_err-member
returns-in_err-member g c =
    let holders = c.args.server.now.core.tree.holders in
    let peers = c.args.peers.now.items in
    let notes = c.args.pushes.now.items in
    subst (λ result. MatchOption result (NoneIsAt holders peers notes c.args.place c.args.after) (IsFirstAt holders peers notes c.args.place c.args.after))
    (sym c.from_residual.ensures) (none_at_nobody holders peers notes c.args.place c.args.after c.in_err-member.ensures)

pub returns : goal.returns
returns g c =
    let law = c.the_next_number_is_the_least.ensures in
    let notes = c.args.pushes.now.items in
    let next = c.in_ok-number.number in
    let is : next_after notes (max c.in_ok-member.last c.args.after) ≡ Some next =
    subst (λ n. next_after notes n ≡ Some next) c.max.ensures (sym c.in_ok-number.ensures.next) in
    first_at c.args.server.now.core.tree.holders c.args.peers.now.items notes c.args.place c.args.after c.in_ok-member.member c.in_ok-member.last next
    c.in_ok-member.ensures (law.greater notes (max c.in_ok-member.last c.args.after) next is)
    (law.noted notes (max c.in_ok-member.last c.args.after) next is)
    (law.least notes (max c.in_ok-member.last c.args.after) next c.next_after.ensures.rises is)
