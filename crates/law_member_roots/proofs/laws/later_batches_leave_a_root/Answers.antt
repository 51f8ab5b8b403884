use Rattle.law_member_roots.proofs.AtRootLemmas.{early}
use Rattle.law_member_roots.proofs.RootLemmas.{root-more, traffic-more}
use Rattle.law_member_roots.proofs.laws.later_batches_leave_a_root.Goals as goal

pub returns-clause-root : goal.returns-clause-root
returns-clause-root c depth epoch spi list later m store is =
    let ways = c.each_law_holds.ensures in
    root-more c.first_epochs_stay.ensures.holders c.first_epochs_stay.ensures.last_changes depth epoch spi list later m store
    (early ways depth epoch spi list m store is) is

pub returns-clause-traffic : goal.returns-clause-traffic
returns-clause-traffic c epoch list later store has = traffic-more list later epoch store has
