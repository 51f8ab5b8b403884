use Rattle.std.proofs.Common.{arith, ap, ◌∙◌}
use Rattle.desk.specs.Opened.{terms_of}
use Rattle.desk.proofs.Meetings.{notes, joins, learns}
use Rattle.desk.proofs.meets.tell.Goals as goal

pub split_seat-note-requires : goal.split_seat-note-requires
split_seat-note-requires g c = let words = c.requires.table.words in (
  c.requires.from.0.table_is,
  omega (arith, words),
  notes g.K.Kept.listed g.K.Kept.spare g.K.Kept.tag (terms_of g.K.Kept.listed g.K.Kept.tag c.args.top.now.key) _ _ c.requires.from.1.idle,
)

pub join_seat-requires : goal.join_seat-requires
join_seat-requires g c = let words = c.requires.table.words in let note = c.split_seat-note.ensures in (
  c.requires.to.0.table_is,
  note.3 ∙ c.requires.from.0.table_is,
  ap (λ m. m.1) note.4,
  omega (arith, words),
  joins g.K.Kept.listed g.K.Kept.spare g.K.Kept.tag (terms_of g.K.Kept.listed g.K.Kept.tag c.args.top.now.key) _ _ _ _ c.requires.to.1.idle (ap (λ m. m.0.phase) note.4),
)

pub load-requires : goal.load-requires
load-requires g c = let words = c.requires.table.words in (
  c.join_seat.ensures.0 ∙ c.requires.to.0.table_is,
  omega (arith, words),
  learns g.K.Kept.listed g.K.Kept.spare g.K.Kept.tag (terms_of g.K.Kept.listed g.K.Kept.tag c.args.top.now.key) _ _ _ (ap (λ m. m.0.phase) c.join_seat.ensures.2 ∙ c.requires.to.1.idle),
)
