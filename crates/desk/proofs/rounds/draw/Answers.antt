use Rattle.std.proofs.Common.{arith, List, length, ap}
use Rattle.desk.specs.declared.views.Share.{Share}
use Rattle.desk.specs.Opened.{terms_of}
use Rattle.desk.proofs.Steps.{draws}
use Rattle.desk.proofs.rounds.draw.Goals as goal

pub fetch_add-requires : goal.fetch_add-requires
fetch_add-requires g c =
    let words = c.requires.table.words in
    let one = ap (λ (shares : List (Share g.row.K-Entry.Denot)). length shares) c.requires.player.1.one in (
      c.requires.seat.table_is,
      omega (arith, words),
      draws g.K.Kept.listed g.K.Kept.spare g.K.Kept.tag (terms_of g.K.Kept.listed g.K.Kept.tag c.args.top.now.key) _ _ _ c.requires.rest.idle (omega (arith, one)),
    )
