use Rattle.std.proofs.Common.{◌∙◌, Ok, ap, refl, sym, subst}
use Rattle.journal_listing.specs.Listings.{EndsAfter}
use Rattle.journal_listing.proofs.ReplayLemmas.{ends_at, read_more, shown_same}
use Rattle.tree_store.specs.Groups.{IsGroupTo}
use Rattle.journal_listing.proofs.readings.next_batch.Goals as goal

pub returns-in-Ok-true-clause-next : goal.returns-in-Ok-true-clause-next
returns-in-Ok-true-clause-next c list read =
    let was = c.args.store.now in
    let now = c.next_batch.new.self in
    let said = c.in-Ok-true.ensures in
    let more = said.next list read.replayed (ap Ok c.in-Ok-true.field-0-test) in (
      more.0.stored,
      c.last_listed.ensures more.0 more.1.last,
      read_more was now list more.0 c.next_batch.new.replay (shown_same _ _ said.same) said.head more.1 (more.2 was.disk.image refl read.read),
    )

pub returns-in-Ok-false-clause-next : goal.returns-in-Ok-false-clause-next
returns-in-Ok-false-clause-next c list read =
    let was = c.args.store.now in
    let said = c.in-Ok-false.ensures in
    let none = ap Ok c.in-Ok-false.field-0-test in
    let at = c.place.ensures ∙ said.stays (λ yes. absurd (cc (yes, none))) in
    ends_at was.disk.image was.head list c.place.result c.args.size c.end_at.result
    (said.last list none was.disk.image refl read.read) (subst (IsGroupTo was.disk.image was.head list) (sym at) read.read) c.requires.size c.end_at.ensures

pub returns-in_ok-end_of-in-Err-clause-next : goal.returns-in_ok-end_of-in-Err-clause-next
returns-in_ok-end_of-in-Err-clause-next c list read =
    let was = c.args.store.now in
    let found = c.in_ok-end_of-in-Err.ensures in
    let broken = c.in-Err.ensures.broken found.0 found.1 in
    subst (EndsAfter was.disk.image was.head list) (sym found.2)
    (subst (IsGroupTo was.disk.image was.head list) (sym broken.0) read.read, broken.1 list read.replayed was.disk.image refl)
