use Rattle.std.proofs.Common.{◌+◌, ◌-◌, ◌++◌, ◌∷◌, [], length, Some, length-append, ap, ◌∙◌, arith}
use Rattle.gd_wire.specs.Readings.{mapped}
use Rattle.kd_wire.specs.Keys.{path_keys}
use Rattle.gd_wire.proofs.ReadingLemmas.{one_less}
use Rattle.kd_wire.proofs.LoopLemmas.{path_step}
use Rattle.kd_wire.proofs.keys.path_keys.Goals as goal

pub loop-k-preserved : goal.loop-k-preserved
loop-k-preserved c =
    let more = c.args.count - (c.loop-k.k + 1) in
    let key = c.in_ok-key.key in
    let step = path_step c.loop-k.path (c.args.count - c.loop-k.k) more c.loop-k.below c.loop-k.text c.path_key.new.text key
    (one_less c.args.count c.loop-k.k c.loop-k-test.true) c.in_ok-key.ensures in
    record {
      same = ap (λ path. mapped (λ keys. path ++ keys) (path_keys more (Some key.id) c.path_key.new.text)) c.push.ensures ∙ step
          ∙ c.loop-k.invariant.same;
      len = ap length c.push.ensures ∙ length-append c.loop-k.path (key ∷ []) ∙ omega (arith, c.loop-k.invariant.len);
    }
