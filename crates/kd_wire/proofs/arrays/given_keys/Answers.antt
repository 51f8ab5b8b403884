use Rattle.std.proofs.Common.{◌+◌, ◌-◌, ◌∙◌}
use Rattle.gd_wire.proofs.ReadingLemmas.{one_less}
use Rattle.kd_wire.proofs.LoopLemmas.{given_step}
use Rattle.kd_wire.proofs.arrays.given_keys.Goals as goal

pub loop-preserved : goal.loop-preserved
loop-preserved c =
    let more = c.args.count - (c.loop.counter + 1) in
    rw c.with-seen.ensures (
    given_step c.loop.seen (c.args.count - c.loop.counter) more c.loop.text c.given_key.new.text c.in_ok-key.key
    (one_less c.args.count c.loop.counter c.loop-test.true) c.in_ok-key.ensures
    ∙ c.loop.invariant)
