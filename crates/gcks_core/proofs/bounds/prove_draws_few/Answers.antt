use Rattle.std.proofs.Common.{◌≡◌, ℕ, ◌+◌, ◌-◌, ◌^◌, ◌≤◌, ◌++◌, ◌∷◌, [], List, length, ap, arith}
use Rattle.std.specs.List.{range_with_len}
use Rattle.std.proofs.Math.Pow.{pow_mono}
use Rattle.std.proofs.lemmas.List.FromFn.{length-range_with_len}
use Rattle.std.proofs.lemmas.List.Sums.{count_by-le-length, length-filter}
use Rattle.group_terms.specs.declared.changes.Change.{Change}
use Rattle.group_model.specs.Drawn.{drawn_at, is_drawn}
use Rattle.group_model.specs.Places.{holders_at}
use Rattle.gcks_core.proofs.bounds.prove_draws_few.Goals as goal

-- there are no more than positions
drawn_few : (depth : ℕ) (batches : List (List Change)) (epoch : ℕ) → length (drawn_at depth batches epoch) ≤ 2 ^ (depth + 1) - 1
drawn_few depth batches epoch =
    let passes = is_drawn depth (holders_at depth batches (epoch - 1)) (holders_at depth batches epoch) in
    let all : List ℕ = range_with_len 1 (2 ^ (depth + 1) - 1) in
    omega (arith, length-filter passes all, count_by-le-length passes all, length-range_with_len 1 (2 ^ (depth + 1) - 1))

pub returns : goal.returns
returns c batches batch limit marked stands marked_for =
    let depth = c.args.tree.now.depth in
    let nine : depth + 1 ≤ 10 = omega (arith, c.depth.ensures.depth, c.depth.ensures.not_deep) in
    let few : 2 ^ (depth + 1) ≤ 2 ^ 10 = pow_mono {i = depth + 1} {j = 10} nine in
    let same : length marked.drawn ≡ length (drawn_at depth (batches ++ batch ∷ []) marked.epoch) = ap length (marked_for.drawn batches stands) in
    omega (arith, same, drawn_few depth (batches ++ batch ∷ []) marked.epoch, few)
