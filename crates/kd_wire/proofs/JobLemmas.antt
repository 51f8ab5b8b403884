-- The texts of jobs, one after the other.
use Rattle.std.proofs.Common.{◌≡◌, ℕ, ◌*◌, ◌==◌, ◌||◌, Bool, List, [], ◌∷◌, ◌++◌, length, map, refl, sym, ap, subst, ◌∙◌, arith}
use Rattle.std.proofs.Common.{length-append, append-nil, append_assoc}
use Rattle.std.specs.List.{All, list_any}
use Rattle.std.proofs.lemmas.List.{length-map}
use Rattle.std.proofs.lemmas.List.Elements.{All-nil, All-cons, All-head, All-tail}
use Rattle.kd_wire.specs.declared.sealing.WrapJob.{WrapJob}
use Rattle.kd_wire.specs.Texts.{IsUpdate, AreUpdateTexts, JobFits, Sealed, SealedFits, updates_text}
use Rattle.kd_wire.specs.Texts.{IsSealedJob, AreSealedJobs, AreJobsOfOnePush, AreOfOnePush}
use Rattle.kd_wire.specs.Widths.{update_octets}

abbrev job_of : Sealed → WrapJob
job_of update = update.job

-- one job alone, and two lists of jobs
pub alone : (job : WrapJob) (text : List ℕ) → IsUpdate job text → AreUpdateTexts (job ∷ []) text
alone job text update = (text, [], update, refl, sym (append-nil text))

pub both_texts : (jobs later : List WrapJob) (text more : List ℕ) → AreUpdateTexts jobs text → AreUpdateTexts later more
    → AreUpdateTexts (jobs ++ later) (text ++ more)
both_texts [] later text more same others = rw same others
both_texts (job ∷ jobs) later text more (first, rest, update, texts, same) others =
    (first, rest ++ more, update, both_texts jobs later rest more texts others, ap (λ all. all ++ more) same ∙ append_assoc first rest more)

pub one_more_text : (jobs : List WrapJob) (job : WrapJob) (text next : List ℕ) → AreUpdateTexts jobs text → IsUpdate job next
    → AreUpdateTexts (jobs ++ job ∷ []) (text ++ next)
one_more_text jobs job text next texts update = both_texts jobs (job ∷ []) text next texts (alone job next update)

-- the sizes of one and of all
pub job_size : (job : WrapJob) (text : List ℕ) → IsUpdate job text → length text ≡ update_octets
job_size job text update = ap length update.is_text ∙ omega (arith, update.octets)

pub jobs_size : (jobs : List WrapJob) (text : List ℕ) → AreUpdateTexts jobs text → length text ≡ update_octets * length jobs
jobs_size [] text same = ap length same
jobs_size (job ∷ jobs) text (first, rest, update, texts, same) =
    ap length same ∙ length-append first rest ∙ omega (arith, job_size job first update, jobs_size jobs rest texts)

-- the jobs of a text with the data that is sealed there
record Parts (jobs : List WrapJob) (text : List ℕ) : Type 0 where
  updates : List Sealed
  are_jobs : map job_of updates ≡ jobs
  are_sealed : All IsSealedJob updates
  fit : All SealedFits updates
  is_text : text ≡ updates_text updates

parts : (jobs : List WrapJob) (text : List ℕ) → All JobFits jobs → AreUpdateTexts jobs text → Parts jobs text
parts [] text fit same =
    record { updates = []; are_jobs = refl; are_sealed = All-nil IsSealedJob; fit = All-nil SealedFits; is_text = same }
parts (job ∷ jobs) text fit (first, rest, update, texts, same) =
    let others = parts jobs rest (All-tail JobFits job jobs fit) texts in
    let fits = All-head JobFits job jobs fit in
    let one : Sealed = record { job = job; octets = update.sealed } in
    let one_fits : SealedFits one =
    record { by = fits.by; gives = fits.gives; octets = update.octets; small_octets = update.small_octets } in
    record {
      updates = one ∷ others.updates;
      are_jobs = ap (λ others. job ∷ others) others.are_jobs;
      are_sealed = All-cons IsSealedJob one others.updates update.is_sealed others.are_sealed;
      fit = All-cons SealedFits one others.updates one_fits others.fit;
      is_text = same ∙ (λ i. update.is_text i ++ others.is_text i);
    }

-- what holds of each job holds of each with its data
each_job : (P : WrapJob → Type 0) (updates : List Sealed) → All P (map job_of updates) → All (λ (update : Sealed). P update.job) updates
each_job P [] all = All-nil (λ (update : Sealed). P update.job)
each_job P (update ∷ updates) all =
    let first = All-head P update.job (map job_of updates) all in
    All-cons (λ (update : Sealed). P update.job) update updates first (each_job P updates (All-tail P update.job (map job_of updates) all))

any_job : (test : WrapJob → Bool) (updates : List Sealed)
    → list_any test (map job_of updates) ≡ list_any (λ (update : Sealed). test update.job) updates
any_job test [] = refl
any_job test (update ∷ updates) = ap (λ rest. test update.job || rest) (any_job test updates)

pub sealed_jobs : (jobs : List WrapJob) (text : List ℕ) → AreJobsOfOnePush jobs → AreUpdateTexts jobs text
    → (updates : List Sealed) × AreSealedJobs jobs text updates
sealed_jobs jobs text push texts =
    let found = parts jobs text push.fit texts in
    let many : length found.updates ≡ length jobs = sym (length-map found.updates job_of) ∙ ap length found.are_jobs in
    let made : WrapJob → Type 0 = λ (job : WrapJob). job.gives.made ≡ push.epoch in
    let root : WrapJob → Bool = λ (job : WrapJob). job.gives.id == 1 in
    let of_one_push : AreOfOnePush found.updates = record {
      fit = found.fit;
      few = rw many push.few;
      epoch = push.epoch;
      made = each_job made found.updates (subst (All made) (sym found.are_jobs) push.made);
      root = sym (any_job root found.updates) ∙ ap (list_any root) found.are_jobs ∙ push.root;
    } in
    (found.updates, record { are_jobs = found.are_jobs; are_sealed = found.are_sealed; push = of_one_push; is_text = found.is_text })
