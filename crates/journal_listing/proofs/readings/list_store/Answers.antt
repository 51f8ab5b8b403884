use Rattle.std.proofs.Common.{sym, subst}
use Rattle.group_records.specs.declared.heads.Head.{Head}
use Rattle.journal_listing.specs.Listings.{EndsAfter}
use Rattle.journal_listing.proofs.readings.list_store.Goals as goal

pub returns : goal.returns
returns c =
    let listed = c.in_ok-end.ensures in (
      listed.0,
      listed.1,
      subst (λ (head : Head). EndsAfter c.args.store.disk.image head listed.0 c.in_ok-end.end) (sym c.head-head.ensures.head) listed.2,
    )
