use Rattle.std.proofs.Common.{subst, sym}
use Rattle.sent_pushes.specs.Notes.{Rises}
use Rattle.sent_pushes.proofs.NoteLemmas.{rises_noted}
use Rattle.sent_pushes.proofs.sent.SentPushes.note.Goals as goal

pub invariant_of-self : goal.invariant_of-self
invariant_of-self c = subst Rises (sym c.put.ensures.items) (rises_noted c.self.inside.notes.items c.args.number c.args.place c.self.invariant)
