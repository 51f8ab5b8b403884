use Rattle.std.proofs.Common.{◌∙◌, ◌+◌, ◌-◌, ◌++◌, [], ◌∷◌, ap, arith, length, length-append}
use Rattle.gd_wire.specs.Readings.{mapped}
use Rattle.group_records.specs.Readings.{change, many}
use Rattle.gd_wire.proofs.ReadingLemmas.{one_less}
use Rattle.group_records.proofs.ManyLemmas.{many_step}
use Rattle.group_records.proofs.changes.changes.Goals as goal

pub loop-preserved : goal.loop-preserved
loop-preserved c =
    let more = c.args.count - (c.loop.counter + 1) in
    let read = c.in_ok-change.field-0 in
    let step = many_step change c.loop.batch (c.args.count - c.loop.counter) more c.loop.text c.change.new.text read
    (one_less c.args.count c.loop.counter c.loop-test.true) c.in_ok-change.ensures in
    record {
      same = ap (λ batch. mapped (λ rest. batch ++ rest) (many change more c.change.new.text)) c.push.ensures ∙ step ∙ c.loop.invariant.same;
      long = ap length c.push.ensures ∙ length-append c.loop.batch (read ∷ []) ∙ omega (arith, c.loop.invariant.long);
    }
