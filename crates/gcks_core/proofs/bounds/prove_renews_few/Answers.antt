use Rattle.std.proofs.Common.{◌≡◌, ℕ, zero, suc, ◌+◌, ◌*◌, ◌≤◌, length, arith}
use Rattle.gcks_core.proofs.bounds.prove_renews_few.Goals as goal

rows : (a n : ℕ) → a ≤ 10 → a * n ≤ 10 * n
rows a zero le = omega arith
rows a (suc n) le = let more : a * suc n ≡ a * n + a = omega arith in omega (arith, rows a n le, more, le)

pub returns : goal.returns
returns c limit marked marked_for =
    let changes = length c.args.batch.now in
    let ten : c.args.tree.now.depth + 1 ≤ 10 = omega (arith, c.depth.ensures.depth, c.depth.ensures.not_deep) in
    omega (arith, rows (c.args.tree.now.depth + 1) changes ten, marked_for.few, c.changes.ensures.few)
