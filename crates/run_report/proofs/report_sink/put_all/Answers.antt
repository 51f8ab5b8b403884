use Rattle.std.proofs.Common.{◌++◌, ap, sym, ◌∙◌, take}
use Rattle.std.proofs.lemmas.List.{append_assoc}
use Rattle.run_report.proofs.KnownLemmas.{Puts-then}
use Rattle.run_report.proofs.report_sink.put_all.Goals as goal

pub loop-rest-preserved : goal.loop-rest-preserved
loop-rest-preserved g c =
    let front = take c.in_ok-n.n c.loop-rest.rest.now in
    let so_far = c.loop-rest.invariant in
    let seen = g.K.Sink.shows in (
      so_far.0 ++ front,
      so_far.1 ∙ ap (λ rest. so_far.0 ++ rest) (c.split_at.ensures.by_index.0 ∙ ap (λ before. before ++ c.split_at.result.1.now) c.split_at.ensures.front)
          ∙ sym (append_assoc so_far.0 front c.split_at.result.1.now),
      Puts-then (seen c.args.out.now) (seen c.loop-rest.out) (seen c.put.new.self) so_far.0 front so_far.2
          (record { appended = c.in_ok-n.ensures.appended; no_fault = c.in_ok-n.ensures.no_fault }),
    )
