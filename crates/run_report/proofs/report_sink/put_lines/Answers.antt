use Rattle.std.proofs.Common.{◌++◌, ap, sym, ◌∙◌}
use Rattle.std.proofs.lemmas.List.{append_assoc}
use Rattle.run_report.proofs.KnownLemmas.{Puts-then, BreaksOff-after}
use Rattle.run_report.proofs.ErrorLemmas.{if_error}
use Rattle.run_report.proofs.report_sink.put_lines.Goals as goal

pub loop-rest-preserved : goal.loop-rest-preserved
loop-rest-preserved g c =
    let line = c.split_at.result.0.now in
    let so_far = c.loop-rest.invariant in
    let seen = g.K.Sink.shows in (
      so_far.0 ++ line,
      so_far.1 ∙ ap (λ rest. so_far.0 ++ rest) c.split_at.ensures.by_index.0 ∙ sym (append_assoc so_far.0 line c.split_at.result.1.now),
      Puts-then (seen c.args.out.now) (seen c.loop-rest.out) (seen c.put_all.new.out) so_far.0 line so_far.2 c.in_ok-put_all.ensures.ok,
    )

pub returns-in_err-put_all-clause-failed : goal.returns-in_err-put_all-clause-failed
returns-in_err-put_all-clause-failed g c =
    let seen = g.K.Sink.shows in
    let so_far = c.loop-rest.invariant in
    let line = c.split_at.result.0.now in
    let others = c.split_at.result.1.now in
    if_error _ _ _ c.from_residual.ensures.1
    (BreaksOff-after (seen c.args.out.now) (seen c.loop-rest.out) (seen c.put_all.new.out) so_far.0 line others c.args.text.now so_far.2
    (so_far.1 ∙ ap (λ rest. so_far.0 ++ rest) c.split_at.ensures.by_index.0) c.in_err-put_all.ensures.failed)
