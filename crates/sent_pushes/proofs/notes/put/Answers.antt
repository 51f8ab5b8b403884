use Rattle.std.proofs.Common.{◌≡◌, ◌≢◌, ◌<◌, ◌∙◌, List, length, ap, subst, sym}
use Rattle.std.specs.Prelude.{is_ok}
use Rattle.std.specs.List.{insert, position_or_len}
use Rattle.std.proofs.lemmas.Bool.{cond-true}
use Rattle.sent_pushes.specs.declared.notes.Note.{Note}
use Rattle.sent_pushes.specs.Private.Searches.{is_from, number_at}
use Rattle.sent_pushes.proofs.NoteLemmas.{noted_between, noted_there}
use Rattle.sent_pushes.proofs.notes.put.Goals as goal

pub returns-then-is_at-clause-items : goal.returns-then-is_at-clause-items
returns-then-is_at-clause-items c =
    let notes = c.args.notes.now.items in
    let note = c.args.note in
    let at = c.first_from-at.result in
    let is = ap (position_or_len (is_from note.number)) (sym c.deref.ensures.value) ∙ sym c.first_from-at.ensures.at in
    noted_there notes note.number note.place at is
    (subst (λ (notes : List Note). at < length notes) c.deref-2.ensures.value (c.is_at.ensures.there c.if-is_at.true))
    (subst (λ (notes : List Note). number_at notes at ≡ note.number) c.deref-2.ensures.value (c.is_at.ensures.same c.if-is_at.true))

pub returns-else-is_at-clause-items : goal.returns-else-is_at-clause-items
returns-else-is_at-clause-items c =
    let notes = c.args.notes.now.items in
    let note = c.args.note in
    let at = c.first_from-at.result in
    let is = ap (position_or_len (is_from note.number)) (sym c.deref.ensures.value) ∙ sym c.first_from-at.ensures.at in
    c.insert.ensures.items ∙ cond-true (is_ok c.insert.result) (insert notes at note) notes (c.insert.ensures.succeeds c.requires.room)
    ∙ noted_between notes note.number note.place at is
    (subst (λ (notes : List Note). at < length notes → number_at notes at ≢ note.number) c.deref-2.ensures.value (c.is_at.ensures.other c.if-is_at.false))
