use Rattle.std.proofs.Common.{replicate, arith}
use Rattle.std.proofs.lemmas.List.{length-replicate}
use Rattle.case_rooms.proofs.repeats.pushes.update_arrays.Goals as goal

pub returns : goal.returns
returns c =
    let job = c.job_under-job.result in
    let size = c.written_texts_have_their_size.ensures.updates (replicate c.loop.counter job) c.loop.out c.loop.invariant in
    let count = length-replicate c.loop.counter job in
    omega (arith, size, count)
