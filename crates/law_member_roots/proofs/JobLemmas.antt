-- The jobs of a membership push can be written: their keys fit, they are few, and they give keys of one epoch, that of the root among them.
use Rattle.std.proofs.Common.{◌≡◌, ◌∙◌, ap, arith, eq-eqb, refl, sym, ℕ, zero, suc, ◌+◌, ◌-◌, ◌/◌, ◌^◌, ◌<◌, ◌≤◌, true, List, [], ◌∷◌, length}
use Rattle.std.specs.Prelude.{◌==◌, slice_index_or}
use Rattle.std.specs.List.{All, list_any}
use Rattle.std.proofs.Math.Pow.{pow_mono}
use Rattle.std.proofs.lemmas.Bool.{or_left, or_right}
use Rattle.std.proofs.lemmas.List.{length-map}
use Rattle.std.proofs.lemmas.List.Elements.{All-cons, All-head, All-nil, All-tail}
use Rattle.group_terms.specs.declared.changes.Change.{Change}
use Rattle.group_terms.specs.declared.keys.KeyName.TheVariants.{Node}
use Rattle.group_terms.specs.declared.keys.Wrap.{Wrap}
use Rattle.group_values.specs.Values.{Made, batches_made}
use Rattle.group_model.specs.Stayed.{stayed_at}
use Rattle.group_model.specs.Wraps.{node_wraps}
use Rattle.group_pushes.specs.Pairs.{AreJobsOf, IsJobOf}
use Rattle.kd_wire.specs.Texts.{AreJobsOfOnePush, JobFits}
use Rattle.kd_wire.specs.declared.sealing.WrapJob.{WrapJob}
use Rattle.law_key_ways.specs.Laws.{IsStepUp, Laws}
use Rattle.law_member_roots.specs.Groups.{IsKeyedGroup}
use Rattle.law_member_roots.proofs.FitLemmas.{key_fits}
use Rattle.law_member_roots.proofs.RootKeyLemmas.{id_of, made_of}

-- ---- jobs of encryptions

module _ (list : List Made) where
  -- what follows for a job from what is known of its encryption, for all
  jobs_by : (P : Wrap → Type 0) (Q : WrapJob → Type 0) → ((wrap : Wrap) (job : WrapJob) → P wrap → IsJobOf list wrap job → Q job)
      → (wraps : List Wrap) (jobs : List WrapJob) → All P wraps → AreJobsOf list wraps jobs → All Q jobs
  jobs_by P Q follows [] [] all are = All-nil Q
  jobs_by P Q follows [] (job ∷ jobs) all are = absurd are
  jobs_by P Q follows (wrap ∷ wraps) [] all are = absurd are
  jobs_by P Q follows (wrap ∷ wraps) (job ∷ jobs) all are =
      All-cons Q job jobs (follows wrap job (All-head P wrap wraps all) are.0) (jobs_by P Q follows wraps jobs (All-tail P wrap wraps all) are.1)

  as_many : (wraps : List Wrap) (jobs : List WrapJob) → AreJobsOf list wraps jobs → length jobs ≡ length wraps
  as_many [] [] are = refl
  as_many [] (job ∷ jobs) are = absurd are
  as_many (wrap ∷ wraps) [] are = absurd are
  as_many (wrap ∷ wraps) (job ∷ jobs) are = ap suc (as_many wraps jobs are.1)

  abbrev gives_root : List WrapJob → Type 0
  gives_root jobs = list_any (λ (job : WrapJob). job.gives.id == 1) jobs ≡ true

  root_given : (made : ℕ) (wrap : Wrap) → wrap.gives ≡ Node 1 made → (k : ℕ) (wraps : List Wrap) (jobs : List WrapJob) → k < length wraps
      → slice_index_or wraps k wrap ≡ wrap → AreJobsOf list wraps jobs → gives_root jobs
  root_given made wrap root k [] jobs within is are = absurd (omega (arith, within))
  root_given made wrap root k (first ∷ wraps) [] within is are = absurd are
  root_given made wrap root zero (first ∷ wraps) (job ∷ jobs) within is are =
      let one : job.gives.id ≡ 1 = ap id_of (sym are.0.gives ∙ ap (λ (wrap : Wrap). wrap.gives) is ∙ root) in
      or_left (job.gives.id == 1) (list_any (λ (job : WrapJob). job.gives.id == 1) jobs) (eq-eqb job.gives.id 1 one)
  root_given made wrap root (suc k) (first ∷ wraps) (job ∷ jobs) within is are =
      or_right (job.gives.id == 1) (list_any (λ (job : WrapJob). job.gives.id == 1) jobs)
      (root_given made wrap root k wraps jobs (omega (arith, within)) is are.1)

-- ---- those of a push

module _ (ways : Laws) (depth sent : ℕ) (spi : List ℕ) (list : List Made) (group : IsKeyedGroup depth spi list) where
  abbrev batches : List (List Change)
  batches = batches_made list

  abbrev wraps : List Wrap
  wraps = node_wraps depth batches (sent + 1)

  -- a position below which there is an inner one has a number of 2 octets
  inner_fits : (child : ℕ) → child / 2 < 2 ^ depth → child < 65536
  inner_fits child inner = let most : 2 ^ depth ≤ 512 = pow_mono group.shallow in omega (arith, inner, most)

  job_fits : (wrap : Wrap) (job : WrapJob) → IsStepUp depth batches sent wrap → IsJobOf list wrap job → JobFits job
  job_fits wrap job up is =
      let by : job.by.id ≡ up.child = ap id_of (sym is.by ∙ up.by) in
      let gives : job.gives.id ≡ up.child / 2 = ap id_of (sym is.gives ∙ up.gives) in
      let small = inner_fits up.child up.inner in
      record {
        by = key_fits depth spi list group job.by (omega (arith, by, up.some)) (omega (arith, by, small)) is.by_value;
        gives = key_fits depth spi list group job.gives (omega (arith, gives, up.some)) (omega (arith, gives, small)) is.gives_value;
      }

  job_made : (wrap : Wrap) (job : WrapJob) → IsStepUp depth batches sent wrap → IsJobOf list wrap job → job.gives.made ≡ sent + 1
  job_made wrap job up is = ap made_of (sym is.gives ∙ up.gives)

  module _ (early : sent + 1 ≤ length list) (jobs : List WrapJob) (are : AreJobsOf list wraps jobs) where
    pub few_jobs : length jobs ≤ 768
    few_jobs =
        let many = as_many list wraps jobs are in
        let early_batches : sent < length batches = omega (arith, early, length-map list (λ (made : Made). made.changes)) in
        let few = ways.are_few depth sent batches group.some group.valid early_batches in
        let low : depth - 1 ≤ 8 = omega (arith, group.shallow) in
        let most : 2 ^ (depth - 1) ≤ 256 = pow_mono low in
        omega (arith, many, few, most)

    pub of_one_push : stayed_at depth batches (sent + 1) ≡ true → AreJobsOfOnePush jobs
    of_one_push stayed =
        let up = ways.go_up depth sent batches in
        let root = ways.root_given depth sent batches group.some stayed in
        record {
          fit = jobs_by list (IsStepUp depth batches sent) JobFits job_fits wraps jobs up are;
          few = omega (arith, few_jobs);
          epoch = sent + 1;
          made = jobs_by list (IsStepUp depth batches sent) (λ (job : WrapJob). job.gives.made ≡ sent + 1) job_made wraps jobs up are;
          root = root_given list (sent + 1) root.0 root.2 root.1.0 wraps jobs root.1.1 root.1.2 are;
        }
