use Rattle.std.proofs.Common.{◌++◌, ◌∷◌, [], subst, sym}
use Rattle.group_pushes.specs.Private.Jobs.{AreArraysAfter}
use Rattle.group_pushes.proofs.ArrayLemmas.{arrays_more}
use Rattle.group_pushes.proofs.arrays.append_array.Goals as goal

pub returns-clause-arrays : goal.returns-clause-arrays
returns-clause-arrays c wraps are =
    let kept = c.args.tree.now.kept in
    let values = c.args.values.now in
    let wrap = c.args.wrap.now in
    let written = c.in_ok-write_update.ensures.ok in
    subst (AreArraysAfter kept values (wraps ++ wrap ∷ [])) (sym written.2)
    (arrays_more kept values c.texts_of_jobs_are_put_together.ensures.one_more wraps wrap c.job.result c.args.arrays.now written.0 are c.job.ensures written.1)
