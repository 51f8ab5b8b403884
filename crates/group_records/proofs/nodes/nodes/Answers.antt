use Rattle.std.proofs.Common.{◌∙◌, ◌+◌, ◌-◌, ◌++◌, [], ◌∷◌, ap, arith, length, length-append}
use Rattle.gd_wire.specs.Readings.{mapped}
use Rattle.group_records.specs.Readings.{node, many}
use Rattle.gd_wire.proofs.ReadingLemmas.{one_less}
use Rattle.group_records.proofs.ManyLemmas.{many_step}
use Rattle.group_records.proofs.nodes.nodes.Goals as goal

pub loop-preserved : goal.loop-preserved
loop-preserved c =
    let more = c.args.count - (c.loop.counter + 1) in
    let read = c.in_ok-node.field-0 in
    let step = many_step node c.loop.drawn (c.args.count - c.loop.counter) more c.loop.text c.node.new.text read
    (one_less c.args.count c.loop.counter c.loop-test.true) c.in_ok-node.ensures in
    record {
      same = ap (λ drawn. mapped (λ rest. drawn ++ rest) (many node more c.node.new.text)) c.in_ok-push.ensures.ok ∙ step
          ∙ c.loop.invariant.same;
      long = ap length c.in_ok-push.ensures.ok ∙ length-append c.loop.drawn (read ∷ []) ∙ omega (arith, c.loop.invariant.long);
    }
