use Rattle.std.proofs.Common.{◌∙◌, length, ap, arith, refl, subst}
use Rattle.epoch_board.specs.Pairs.{StartsWith}
use Rattle.epoch_board.specs.Passes.{PassState}
use Rattle.register_workers.specs.Private.Requests.{asked_of}
use Rattle.register_workers.proofs.TurnLemmas.{one_turn}
use Rattle.register_workers.proofs.running.make_turn.Goals as goal

pub returns-in-Ok : goal.returns-in-Ok
returns-in-Ok g c =
    let turn = c.in-Ok.ensures.ok in
    one_turn (length c.args.floor.now.desk.now.terms.start) (asked_of c.args.request) c.in-Ok.turned.told c.args.pass.now c.turn.new.pass c.args.reader.now
    c.in-Ok.turned.reader turn.before turn.call c.in-Ok.ensures.pass.0 turn.goes_on turn.seen turn.mine turn.placed turn.related.0 turn.related.1
    (turn.related.2 ∙ ap (λ (p : PassState). p.board) c.split-shown.ensures.new) turn.related.3
    (subst (λ (p : PassState). StartsWith c.in-Ok.turned.reader.seen p.seen) c.split-shown.ensures.new turn.related.4)

pub returns-in-Err : goal.returns-in-Err
returns-in-Err g c = absurd (omega (arith, c.in-Err.ensures.full.0 refl, c.requires.room))
