-- What a write after a clear commit mark leaves.
use Rattle.std.specs.Prelude.{◌≡◌, ◌⊎◌, ℕ, List, ◌∷◌, ◌++◌, length, drop, Option, Some}
use Rattle.gd_disk.specs.Disks.{Torn}

-- what is shown is split at the commit mark at a place
pub record IsSplit (file : Option (List ℕ)) (at : ℕ) (front : List ℕ) (gate : ℕ) (behind : List ℕ) : Type 0 where
  pub text : file ≡ Some (front ++ gate ∷ behind)
  pub place : at ≡ length front

-- a piece between a commit mark and what comes after it
abbrev pub gated : List ℕ → ℕ → List ℕ → List ℕ → List ℕ
gated front gate piece behind = front ++ gate ∷ (piece ++ drop (length piece) behind)

-- the commit mark is as it was, with anything after it, or the piece is after it, whatever the commit mark is
abbrev pub IsGated : List ℕ → ℕ → List ℕ → List ℕ → List ℕ → Type 0
IsGated front shut piece behind file =
    ((tail : List ℕ) × (file ≡ front ++ shut ∷ tail)) ⊎ ((gate : ℕ) × (file ≡ gated front gate piece behind))

-- one of these files, with a write of this size at a place cut short
abbrev pub IsTorn : ℕ → ℕ → (List ℕ → Type 0) → List ℕ → Type 0
IsTorn at n old file = (was : List ℕ) × old was × Torn at n was file
