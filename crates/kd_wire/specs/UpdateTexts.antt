-- Texts of update attributes, and what is read of the texts that are written for jobs.
use Rattle.std.specs.Prelude.{◌≡◌, ℕ, ◌+◌, true, List, [], ◌∷◌, ◌++◌, length, Option, Some, Ok, All}
use Rattle.gd_wire.specs.Readings.{mapped}
use Rattle.kd_wire.specs.declared.sealing.WrapJob.{WrapJob}
use Rattle.kd_wire.specs.declared.updates.SealedKey.{SealedKey}
use Rattle.kd_wire.specs.declared.updates.UpdateArray.{UpdateArray}
use Rattle.kd_wire.specs.Arrays.{PlacedUpdates, next_update, updates, gives_root}
use Rattle.kd_wire.specs.Keys.{has_handle}
use Rattle.kd_wire.specs.Texts.{Sealed, key_of}

-- A text of update attributes whose arrays give keys with one handle, and one of the root among them: wherever it is, these arrays are
-- read, up to its end.
pub record AreUpdates (arrays : List UpdateArray) (text : List ℕ) : Type 0 where
  pub reads : (base at : ℕ) → mapped (λ (placed : PlacedUpdates). placed.arrays) (updates (record { base = base; at = at; left = text }))
      ≡ Ok (arrays, record { base = base; at = at + length text; left = [] })
  pub root : gives_root arrays ≡ true

-- all keys that some arrays give were made in one epoch
abbrev pub OneEpoch : List UpdateArray → Type 0
OneEpoch arrays = (epoch : ℕ) × All (λ (array : UpdateArray). All (λ (key : SealedKey). key.gives.made ≡ epoch) array.keys) arrays

-- what is read of the array of a job: one key, sealed by that which the array names
abbrev pub array_of : Sealed → UpdateArray
array_of update = record {
  by = update.job.by.id;
  by_made = update.job.by.made;
  keys = record { by = update.job.by.id; by_made = update.job.by.made; gives = key_of update } ∷ [];
}

-- what was sealed for a job is read as one array with one key, wherever it is and whatever comes after it, where its handle is due
pub record ReadsAsSealed (job : WrapJob) (text sealed : List ℕ) : Type 0 where
  pub reads : (handle : Option ℕ) (base at : ℕ) (rest : List ℕ) → has_handle handle job.gives.made ≡ true
      → next_update handle (record { base = base; at = at; left = text ++ rest })
      ≡ Ok (Some (array_of (record { job = job; octets = sealed })), record { base = base; at = at + length text; left = rest })
