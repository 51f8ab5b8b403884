use Rattle.std.proofs.Common.{◌≡◌, ◌+◌, ◌-◌, [], ◌∷◌, length, ap, sym, ◌∙◌, length-append, arith}
use Rattle.sa_wire.specs.Attributes.{attributes_after}
use Rattle.sa_wire.proofs.AttributeLemmas.{goes_on, fails, ends, ends_wrong, handed_on}
use Rattle.sa_wire.proofs.attributes.read_attributes.Goals as goal

pub returns-in_err-attribute : goal.returns-in_err-attribute
returns-in_err-attribute c =
    let left = length c.args.rules.now - c.loop.index in
    let here = fails c.loop.found.items c.loop.due.items c.loop.text left (left - 1) _
    (omega (arith, c.loop-test.true)) c.in_err-attribute.ensures.gives in
    handed_on _ _ _ _ _ c.from_residual.ensures.1 (c.loop.invariant.0 ∙ here)

pub loop-preserved : goal.loop-preserved
loop-preserved c =
    let left = length c.args.rules.now - c.loop.index in
    let next = goes_on c.loop.found.items c.loop.due.items c.loop.text left (left - 1) _ _ _
    (omega (arith, c.loop-test.true)) c.in_ok-attribute.ensures.gives c.in_ok-attribute.ensures.due in
    let one : left - 1 ≡ length c.args.rules.now - (c.loop.index + 1) = omega arith in (
      c.loop.invariant.0 ∙ next
          ∙ (λ i. attributes_after (sym c.push.ensures.items i) (one i) c.read_due_attribute.new.due.items c.read_due_attribute.new.text),
      ap length c.push.ensures.items
          ∙ omega (arith, length-append c.loop.found.items (c.in_ok-attribute.attribute ∷ []), c.loop.invariant.1),
    )

pub returns-in_err-no_more_attributes : goal.returns-in_err-no_more_attributes
returns-in_err-no_more_attributes c =
    let here = ends_wrong c.loop.found.items c.loop.due.items c.loop.text _ _
    (omega (arith, c.loop-test.false)) c.in_err-no_more_attributes.ensures in
    handed_on _ _ _ _ _ c.from_residual-in_err-no_more_attributes.ensures.1 (c.loop.invariant.0 ∙ here)

pub returns : goal.returns
returns c =
    c.loop.invariant.0
    ∙ ends c.loop.found.items c.loop.due.items c.loop.text _ _
    (omega (arith, c.loop-test.false)) c.in_ok-no_more_attributes.ensures
