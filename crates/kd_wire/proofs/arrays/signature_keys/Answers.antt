use Rattle.std.proofs.Common.{◌≡◌, ◌+◌, ◌-◌, Ok, true, rules, ap, ◌∙◌}
use Rattle.gd_wire.proofs.ReadingLemmas.{one_less}
use Rattle.kd_wire.proofs.LoopLemmas.{signature_step}
use Rattle.kd_wire.proofs.arrays.signature_keys.Goals as goal

pub loop-preserved : goal.loop-preserved
loop-preserved c =
    let end = c.octets_left-end.result in
    let has : c.next_has_kind.result ≡ true = search rules in
    signature_step (end - c.loop.counter) (end - (c.loop.counter + 1)) c.loop.text c.next_attribute.new.reader c.in_ok-next_attribute.field-0
    (one_less end c.loop.counter c.loop-test.true)
    (c.next_has_kind.ensures ∙ ap (λ has. Ok (has, c.loop.text)) has) c.in_ok-next_attribute.ensures
    ∙ c.loop.invariant
