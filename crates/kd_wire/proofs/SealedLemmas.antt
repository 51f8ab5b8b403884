-- What was sealed for a job is read, and opens to the given key.
use Rattle.std.proofs.Common.{◌≡◌, ℕ, ◌+◌, true, List, ◌++◌, length, Option, Some, Ok, sym, ap, ◌∙◌, length-append}
use Rattle.group_terms.specs.Octets.{data_octets}
use Rattle.kd_wire.specs.declared.sealing.WrapJob.{WrapJob}
use Rattle.kd_wire.specs.Arrays.{next_update}
use Rattle.kd_wire.specs.Keys.{has_handle}
use Rattle.kd_wire.specs.Texts.{Sealed, SealedFits, PathKeyFits, IsUpdate}
use Rattle.kd_wire.specs.UpdateTexts.{array_of}
use Rattle.kd_wire.specs.Widths.{update_octets}
use Rattle.gd_wire.proofs.ReadsLemmas.{cursor}
use Rattle.kd_wire.proofs.WrittenUpdates.{next_reads, text_long}

module _ (job : WrapJob) (text : List ℕ) (by : PathKeyFits job.by) (gives : PathKeyFits job.gives) (is : IsUpdate job text) where
  -- the job with its sealed data
  abbrev pub sealed_job : Sealed
  sealed_job = record { job = job; octets = is.sealed }

  job_fits : SealedFits sealed_job
  job_fits = record { by = by; gives = gives; octets = is.octets; small_octets = is.small_octets }

  pub sealed_reads : (handle : Option ℕ) (base at : ℕ) (rest : List ℕ) → has_handle handle job.gives.made ≡ true
      → next_update handle (cursor base at (text ++ rest)) ≡ Ok (Some (array_of sealed_job), cursor base (at + length text) rest)
  sealed_reads handle base at rest same =
      let long : update_octets ≡ length text = sym (ap length is.is_text ∙ text_long sealed_job job_fits) in
      ap (λ text. next_update handle (cursor base at (text ++ rest))) is.is_text
      ∙ next_reads handle base at sealed_job rest job_fits same
      ∙ ap (λ size. Ok (Some (array_of sealed_job), cursor base (at + size) rest)) long
