use Rattle.std.proofs.Common.{◌+◌, ◌≤◌, take, length, ap, sym, ◌∙◌, arith}
use Rattle.std.specs.List.{count_by}
use Rattle.std.proofs.lemmas.List.{take_all, length-take}
use Rattle.std.proofs.lemmas.List.Sums.{count_by-le-length, count_by_more_no, count_by_more_yes}
use Rattle.script_text.specs.Summary.{was_refused}
use Rattle.script_text.proofs.summaries.count_refused.Goals as goal
use Rattle.script_text.proofs.summaries.count_refused.Goals.{else-was_refused, then-was_refused}

pub loop-entry-preserved : goal.loop-entry-preserved
loop-entry-preserved c =
    let history = c.args.history.now in
    let place = c.loop-entry.entry-index in
    let entry = c.entry-item.result in
    let tested = ap was_refused (sym c.entry-item.is) ∙ sym c.was_refused.ensures in
    elim c.if-was_refused.branch [
      | then-was_refused w ↦ w.refusals-is ∙ ap (λ n. n + 1) c.loop-entry.invariant
          ∙ sym (count_by_more_yes was_refused history place entry c.loop-entry-test.true (tested ∙ w.if-was_refused.true))
      | else-was_refused w ↦ w.refusals-is ∙ c.loop-entry.invariant
          ∙ sym (count_by_more_no was_refused history place entry c.loop-entry-test.true (tested ∙ w.if-was_refused.false))
    ]

pub overflow_add-refusals : goal.overflow_add-refusals
overflow_add-refusals c =
    let before = take c.loop-entry.entry-index c.args.history.now in
    let few : c.loop-entry.refusals ≤ length before = omega (arith, c.loop-entry.invariant, count_by-le-length was_refused before) in
    omega (arith, few, length-take c.loop-entry.entry-index c.args.history.now, c.loop-entry-test.true)

pub returns : goal.returns
returns c =
    c.loop-entry.invariant ∙ ap (count_by was_refused) (take_all c.loop-entry.entry-index c.args.history.now (omega (arith, c.loop-entry-test.false)))
