-- The first epochs of a list are as they are without the later ones.
use Rattle.std.proofs.Common.{◌≡◌, ℕ, zero, suc, ◌≤◌, List, take, refl, ap, arith}
use Rattle.std.proofs.lemmas.List.{take-take}
use Rattle.group_terms.specs.declared.changes.Change.{Change}
use Rattle.group_model.specs.Places.{holders_of, holders_at}
use Rattle.group_model.specs.Fresh.{last_change}

pub holders_at-take : (depth n epoch : ℕ) (batches : List (List Change)) → epoch ≤ n → holders_at depth (take n batches) epoch ≡ holders_at depth batches epoch
holders_at-take depth n epoch batches early = ap (holders_of depth) (take-take epoch n batches early)

pub last_change-take : (depth n epoch v : ℕ) (batches : List (List Change)) → epoch ≤ n → last_change depth (take n batches) epoch v ≡ last_change depth batches epoch v
unfolding last_change
last_change-take depth n zero v batches early = refl
last_change-take depth n (suc epoch) v batches early =
    rw (holders_at-take depth n epoch batches (omega arith), holders_at-take depth n (suc epoch) batches early, last_change-take depth n epoch v batches (omega arith))
    refl
