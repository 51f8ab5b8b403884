use Rattle.std.proofs.Common.{arith, ap, ◌∙◌}
use Rattle.desk.specs.Opened.{terms_of}
use Rattle.desk.proofs.Steps.{looks}
use Rattle.desk.proofs.rounds.wait_for.Goals as goal

pub load-served-requires : goal.load-served-requires
load-served-requires g c =
    let still = c.loop.invariant.2 in let waits = c.requires.waits in let player = c.requires.player.2 in
    let words = c.requires.table.words in let short = c.requires.player.1 in let count = player.count in (
      c.loop.invariant.0 ∙ c.requires.seat.table_is,
      omega (arith, words),
      looks g.K.Kept.listed g.K.Kept.spare g.K.Kept.tag (terms_of g.K.Kept.listed g.K.Kept.tag c.args.top.now.key) _ _ _ waits.0 player.share c.requires.table.few
          (ap (λ m. m.0.phase) still ∙ waits.2) (ap (λ m. m.0.terms) still ∙ c.requires.seat.told) (ap (λ m. m.0.shares) still ∙ player.one) (omega (arith, short, count)),
    )
