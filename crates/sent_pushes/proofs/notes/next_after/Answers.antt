use Rattle.std.proofs.Common.{sym}
use Rattle.sent_pushes.proofs.NoteLemmas.{next_none, next_there}
use Rattle.sent_pushes.proofs.notes.next_after.Goals as goal

pub returns-then-at-notes : goal.returns-then-at-notes
returns-then-at-notes c =
    let at = c.first_after-at.result in
    sym (next_there c.args.notes.now c.args.number at (sym c.first_after-at.ensures) c.if-at-notes.true)

pub returns-else-at-notes : goal.returns-else-at-notes
returns-else-at-notes c =
    let at = c.first_after-at.result in
    sym (next_none c.args.notes.now c.args.number at (sym c.first_after-at.ensures) c.if-at-notes.false)
