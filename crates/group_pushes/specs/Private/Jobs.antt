-- The jobs of a push by the values that are kept, for every list of batches whose last values those are.
use Rattle.std.specs.Prelude.{◌≡◌, ⊤, ℕ, List, [], ◌∷◌, ◌++◌, length, Some}
use Rattle.group_terms.specs.Octets.{iv_octets}
use Rattle.group_terms.specs.declared.changes.Change.{Change}
use Rattle.group_terms.specs.declared.keys.KeyName.{KeyName}
use Rattle.group_terms.specs.declared.keys.KeyName.TheVariants.{Node}
use Rattle.group_terms.specs.declared.keys.Wrap.{Wrap}
use Rattle.group_terms.specs.declared.paths.PathKey.{PathKey}
use Rattle.group_terms.specs.declared.values.BatchValues.{BatchValues}
use Rattle.group_terms.specs.declared.values.NodeValue.{NodeValue}
use Rattle.group_values.specs.Values.{Kept, KeepsLast, Made, Rises, ids_of, last_value}
use Rattle.kd_wire.specs.Texts.{AreUpdateTexts}
use Rattle.kd_wire.specs.declared.sealing.WrapJob.{WrapJob}

module _ (kept : Kept) (values : BatchValues) where
  -- the last value of a position once these of a batch are taken in
  abbrev pub IsLastValue : ℕ → NodeValue → Type 0
  IsLastValue v value =
      (list : List Made) (changes : List Change) (last : NodeValue) → KeepsLast kept list → Rises (ids_of values.nodes)
      → last_value (list ++ record { changes = changes; values = values } ∷ []) v ≡ Some last → value ≡ last

  -- the key of this name with that value
  pub record IsKeyAfter (name : KeyName) (key : PathKey) : Type 0 where
    pub named : name ≡ Node key.id key.made
    pub value : IsLastValue key.id key.value

  pub record IsJobAfter (wrap : Wrap) (job : WrapJob) : Type 0 where
    pub by : IsKeyAfter wrap.by job.by
    pub by_iv : length job.by.value.iv ≡ iv_octets
    pub gives : IsKeyAfter wrap.gives job.gives

  abbrev pub AreJobsAfter : List Wrap → List WrapJob → Type 0
  AreJobsAfter [] [] = ⊤
  AreJobsAfter [] (job ∷ jobs) = ⊥
  AreJobsAfter (wrap ∷ wraps) [] = ⊥
  AreJobsAfter (wrap ∷ wraps) (job ∷ jobs) = IsJobAfter wrap job × AreJobsAfter wraps jobs

  -- the update arrays of these encryptions, one after the other
  pub record AreArraysAfter (wraps : List Wrap) (arrays : List ℕ) : Type 0 where
    pub jobs : List WrapJob
    pub are_jobs : AreJobsAfter wraps jobs
    pub are_texts : AreUpdateTexts jobs arrays
