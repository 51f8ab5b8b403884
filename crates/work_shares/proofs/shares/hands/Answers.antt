use Rattle.std.proofs.Common.{vec_capacity, Global, Vec, arith}
use Rattle.work_shares.proofs.ShareLemmas.{rooms_do}
use Rattle.work_shares.proofs.shares.hands.Goals as goal

pub returns-clause-room : goal.returns-clause-room
returns-clause-room g c = λ items many w less.
    rooms_do c.args.shares c.args.count (λ (hand : Vec g.row.T.Denot Global). vec_capacity hand) c.loop.hands.items w less
    (omega (arith, c.loop.invariant.made, c.loop-test.false, less)) items many c.loop.invariant.room
