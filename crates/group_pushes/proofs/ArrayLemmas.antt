-- The arrays of jobs, one after the other.
use Rattle.std.proofs.Common.{ℕ, List, [], ◌∷◌, ◌++◌}
use Rattle.group_terms.specs.declared.keys.Wrap.{Wrap}
use Rattle.group_terms.specs.declared.values.BatchValues.{BatchValues}
use Rattle.group_values.specs.Values.{Kept}
use Rattle.kd_wire.specs.Texts.{AreUpdateTexts, IsUpdate}
use Rattle.kd_wire.specs.declared.sealing.WrapJob.{WrapJob}
use Rattle.group_pushes.specs.Private.Jobs.{AreArraysAfter, AreJobsAfter, IsJobAfter}

module _ (kept : Kept) (values : BatchValues) where
  jobs_more : (wraps : List Wrap) (jobs : List WrapJob) (wrap : Wrap) (job : WrapJob) → AreJobsAfter kept values wraps jobs → IsJobAfter kept values wrap job
      → AreJobsAfter kept values (wraps ++ wrap ∷ []) (jobs ++ job ∷ [])
  jobs_more [] [] wrap job are is = (is, tt)
  jobs_more [] (first ∷ jobs) wrap job are is = absurd are
  jobs_more (first ∷ wraps) [] wrap job are is = absurd are
  jobs_more (first ∷ wraps) (one ∷ jobs) wrap job are is = (are.0, jobs_more wraps jobs wrap job are.1 is)

  -- one more
  pub arrays_more : ((jobs : List WrapJob) (job : WrapJob) (text next : List ℕ) → AreUpdateTexts jobs text → IsUpdate job next → AreUpdateTexts (jobs ++ job ∷ []) (text ++ next))
      → (wraps : List Wrap) (wrap : Wrap) (job : WrapJob) (text next : List ℕ) → AreArraysAfter kept values wraps text → IsJobAfter kept values wrap job → IsUpdate job next
      → AreArraysAfter kept values (wraps ++ wrap ∷ []) (text ++ next)
  arrays_more one_more wraps wrap job text next are is written = record {
    jobs = are.jobs ++ job ∷ [];
    are_jobs = jobs_more wraps are.jobs wrap job are.are_jobs is;
    are_texts = one_more are.jobs job text next are.are_texts written;
  }

  pub no_arrays : AreUpdateTexts [] [] → AreArraysAfter kept values [] []
  no_arrays none = record { jobs = []; are_jobs = tt; are_texts = none }
