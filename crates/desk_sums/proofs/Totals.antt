-- What a sum comes to, with one more number.
use Rattle.std.proofs.Common.{◌≡◌, ℕ, ◌+◌, ◌%◌, ◌^◌, List, [], ◌∷◌, ◌++◌, refl}
use Rattle.desk_sums.specs.Totals.{total_from}

pub total_from-append : (sum : ℕ) (numbers : List ℕ) (n : ℕ) → total_from sum (numbers ++ n ∷ []) ≡ (total_from sum numbers + n) % 2 ^ 64
total_from-append sum [] n = refl
total_from-append sum (m ∷ numbers) n = total_from-append ((sum + m) % 2 ^ 64) numbers n
