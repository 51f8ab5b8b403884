-- What passes of a range rises.
use Rattle.std.proofs.Common.{ℕ, zero, suc, ◌+◌, ◌<◌, Bool, true, false, cond, ◌∷◌, arith}
use Rattle.std.specs.List.{All, filter, range_with_len}
use Rattle.std.proofs.lemmas.List.Elements.{All-cons}
use Rattle.group_values.specs.Values.{Rises}

module _ (p : ℕ → Bool) where
  above : (count first v : ℕ) → v < first → All (λ w. v < w) (filter p (range_with_len first count))
  above zero first v less = λ k d low. absurd (omega (arith, low))
  above (suc count) first v less =
      elim (p first) as (λ b. All (λ w. v < w) (cond b (first ∷ filter p (range_with_len (first + 1) count)) (filter p (range_with_len (first + 1) count)))) [
        | true ↦ All-cons (λ w. v < w) first (filter p (range_with_len (first + 1) count)) less (above count (first + 1) v (omega (arith, less)))
        | false ↦ above count (first + 1) v (omega (arith, less))
      ]

  pub rises : (count first : ℕ) → Rises (filter p (range_with_len first count))
  rises zero first = tt
  rises (suc count) first =
      elim (p first) as (λ b. Rises (cond b (first ∷ filter p (range_with_len (first + 1) count)) (filter p (range_with_len (first + 1) count)))) [
        | true ↦ (above count (first + 1) first (omega arith), rises count (first + 1))
        | false ↦ rises count (first + 1)
      ]
