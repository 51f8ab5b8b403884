use Rattle.std.proofs.Common.{sym}
use Rattle.sent_pushes.proofs.NoteLemmas.{place_none, place_there}
use Rattle.sent_pushes.proofs.notes.find.Goals as goal

pub returns-then-is_at : goal.returns-then-is_at
returns-then-is_at c =
    sym (place_there c.args.notes.now c.args.number c.first_from-at.result (sym c.first_from-at.ensures.at)
    (c.is_at.ensures.there c.if-is_at.true) (c.is_at.ensures.same c.if-is_at.true))

pub returns-else-is_at : goal.returns-else-is_at
returns-else-is_at c =
    sym (place_none c.args.notes.now c.args.number c.first_from-at.result c.requires (sym c.first_from-at.ensures.at)
    (c.is_at.ensures.other c.if-is_at.false))
