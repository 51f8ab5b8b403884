use Rattle.std.proofs.Common.{◌∙◌, ◌+◌, ◌-◌, Some, ℕ, List, length, take, drop, ap, arith, length-take}
use Rattle.std.proofs.lemmas.List.{take_rest}
use Rattle.gd_disk.specs.Disks.{written}
use Rattle.folder_files.proofs.CallLemmas.{IsStep-within, reached, Rose-later, on_err}
use Rattle.folder_files.proofs.PieceLemmas.{written_more, Torn-over}
use Rattle.folder_files.proofs.whole.write_all.Goals as goal

pub write_at-requires-clause-there : goal.write_at-requires-clause-there
write_at-requires-clause-there g c =
    let so_far = c.loop-done.invariant in
    reached g.F.FolderFile c.args.file.now c.loop-done.file c.args.at c.loop-done.done c.args.octets.now so_far.within c.requires.there so_far.image so_far.step.stays

pub returns-in_err-done-clause-step : goal.returns-in_err-done-clause-step
returns-in_err-done-clause-step g c =
    let done = c.loop-done.done in
    let octets = c.args.octets.now in
    let piece = take (length octets - done) (drop done octets) in
    IsStep-within g.F.FolderFile c.args.at (length octets) (c.args.at + done) (length piece) c.args.file.now c.loop-done.file c.write_at.new.self
    (omega arith) (omega (arith, c.loop-done.invariant.within, length-take (length octets - done) (drop done octets))) c.loop-done.invariant.step
    (record { image = c.in_err-done.ensures.failed; crash = c.write_at.ensures.crash; time = c.write_at.ensures.time; stays = record { honest = c.write_at.ensures.honest; exposed = c.write_at.ensures.exposed } })
    c.write_at.ensures.widens

pub loop-done-preserved : goal.loop-done-preserved
loop-done-preserved g c =
    let at = c.args.at in
    let done = c.loop-done.done in
    let moved = c.in_ok-done.field-0 in
    let octets = c.args.octets.now in
    let piece = take (length octets - done) (drop done octets) in
    let so_far = c.loop-done.invariant in
    let law = c.a_crash_may_leave_nothing_or_all.ensures in
    let there = reached g.F.FolderFile c.args.file.now c.loop-done.file at done octets so_far.within c.requires.there so_far.image so_far.step.stays in
    record {
      standing = c.write_at.ensures.standing ∙ so_far.standing;
      counted = omega (arith, so_far.counted, c.write_at.ensures.counted);
      within = omega (arith, so_far.within, c.in_ok-done.ensures.count, length-take (length octets - done) (drop done octets));
      image = λ file is.
          c.in_ok-done.ensures.image (written file at (take done octets)) (so_far.image file is)
          ∙ ap (λ (l : List ℕ). Some (written (written file at (take done octets)) (at + done) (take moved l))) (take_rest octets done)
          ∙ ap (λ (l : List ℕ). Some l) (written_more file octets at done moved (c.requires.there file is) so_far.within);
      step = IsStep-within g.F.FolderFile at (length octets) (at + done) (length piece) c.args.file.now c.loop-done.file c.write_at.new.self
          (omega arith) (omega (arith, so_far.within, length-take (length octets - done) (drop done octets))) so_far.step
          (record {
            image = λ file is. (
              written file (at + done) (take moved piece),
              c.in_ok-done.ensures.image file is,
              Torn-over (at + done) (length piece) (at + done) (length (take moved piece)) file file (written file (at + done) (take moved piece))
                  (omega arith) (omega (arith, length-take moved piece)) (law.nothing_written (at + done) (length piece) file)
                  (law.all_written (at + done) file (take moved piece) (there file is)),
            );
            crash = c.write_at.ensures.crash;
            time = c.write_at.ensures.time;
            stays = record { honest = c.write_at.ensures.honest; exposed = c.write_at.ensures.exposed };
          })
          c.write_at.ensures.widens;
    }

pub returns-in_err-done-clause-cause : goal.returns-in_err-done-clause-cause
returns-in_err-done-clause-cause g c =
    on_err c.from_residual.result _ (Rose-later (g.F.FolderFile.faults c.args.file.now) (g.F.FolderFile.faults c.loop-done.file) (g.F.FolderFile.faults c.write_at.new.self)
    c.loop-done.invariant.counted c.in_err-done.ensures.cause)
