use Rattle.std.proofs.Common.{◌≡◌, ◌∙◌, suc, ◌+◌, ◌-◌, ◌^◌, ◌<◌, ◌≤◌, ◌++◌, List, None, length, take, drop, sym, ap, subst, append_assoc, arith}
use Rattle.std.specs.List.{All}
use Rattle.std.proofs.Math.Pow.{pow_mono}
use Rattle.std.proofs.lemmas.List.{drop_at, take-append-drop, take_at, length-append}
use Rattle.key_tree.specs.declared.marks.Renewed.{Renewed}
use Rattle.key_tree.specs.Private.Levels.{above, levels}
use Rattle.key_tree.proofs.PathLemmas.{some_power, twice}
use Rattle.key_tree.proofs.LevelLemmas.{from_above, to_above}
use Rattle.key_tree.proofs.levels.all_levels.Goals as goal

pub add_above-requires-clause-below : goal.add_above-requires-clause-below
add_above-requires-clause-below c =
    let depth = c.args.depth in
    let steps = depth - (c.loop.counter + 1) in
    let more : depth - c.loop.counter ≡ suc steps = omega (arith, c.loop-test.true) in
    let size : 2 ^ (depth - c.loop.counter) ≡ 2 ^ steps + 2 ^ steps = ap (λ n. 2 ^ n) more ∙ twice steps ∙ omega arith in
    λ k d low. (
      omega (arith, c.loop.invariant.from k d low, size, some_power steps),
      omega (arith, c.loop.invariant.to k d low, pow_mono {i = depth - c.loop.counter + 1} {j = depth + 1} (omega arith), ap (λ n. 2 ^ (n + 1)) c.requires.same),
    )

pub loop-preserved : goal.loop-preserved
loop-preserved c =
    let depth = c.args.depth in
    let held = c.args.held.now in
    let steps = depth - (c.loop.counter + 1) in
    let more : depth - c.loop.counter ≡ suc steps = omega (arith, c.loop-test.true) in
    let was : List Renewed = c.loop.renewed in
    let level : List Renewed = drop c.loop.first was in
    let new : List Renewed = c.add_above.new.positions in
    let is : new ≡ was ++ above held None level = c.in_ok-add_above.ensures in
    let before : take c.len-next.result new ≡ was = ap (take c.len-next.result) is ∙ take_at was (above held None level) c.len-next.result (sym c.len-next.ensures) in
    let next : drop c.len-next.result new ≡ above held None level = ap (drop c.len-next.result) is ∙ drop_at was (above held None level) c.len-next.result (sym c.len-next.ensures) in
    record {
      within = omega (arith, c.len-next.ensures, ap length is, length-append was (above held None level));
      all = (λ i. before i ++ levels held steps (next i))
          ∙ ap (λ l. l ++ levels held steps (above held None level)) (sym (take-append-drop c.loop.first was))
          ∙ append_assoc (take c.loop.first was) level (levels held steps (above held None level))
          ∙ ap (λ n. take c.loop.first was ++ levels held n level) (sym more) ∙ c.loop.invariant.all;
      from = subst (All (λ (one : Renewed). 2 ^ steps ≤ one.id)) (sym next)
          (from_above held steps level (subst (λ n. All (λ (one : Renewed). 2 ^ n ≤ one.id) level) more c.loop.invariant.from));
      to = subst (All (λ (one : Renewed). one.id < 2 ^ (steps + 1))) (sym next)
          (to_above held steps level (subst (λ n. All (λ (one : Renewed). one.id < 2 ^ (n + 1)) level) more c.loop.invariant.to));
    }
