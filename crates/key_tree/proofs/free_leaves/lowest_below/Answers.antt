use Rattle.std.proofs.Common.{◌≡◌, ◌∙◌, suc, ◌+◌, ◌-◌, ◌*◌, ◌^◌, ◌≤◌, sym, ap, subst, arith}
use Rattle.std.proofs.lemmas.Grind.{pow_more}
use Rattle.group_terms.specs.Positions.{some_leaf_below}
use Rattle.key_tree.proofs.LowestLemmas.{IsGoingDown, down_first, down_inner, down_last, down_more}
use Rattle.key_tree.proofs.free_leaves.lowest_below.Goals as goal

pub loop-init : goal.loop-init
loop-init c =
    let first = down_first c.args.depth c.args.marks.now.leaves c.requires.leaves c.args.height c.args.top c.requires.high c.requires.from c.requires.to c.requires.marked in
    let same : c.args.height ≡ c.args.height - 0 = omega arith in
    subst (λ n. IsGoingDown c.args.depth c.args.marks.now.leaves c.args.height c.args.top n c.args.top) same first

pub is_below-requires : goal.is_below-requires
is_below-requires c =
    let depth = c.args.depth in
    let inner = down_inner depth c.args.marks.now.leaves c.requires.leaves c.args.height c.args.top (c.args.height - c.loop.counter) c.loop.v (omega (arith, c.loop-test.true)) c.loop.invariant in
    omega (arith, inner.1, pow_more 2 depth, ap (λ n. 2 ^ (n + 1)) c.requires.same)

pub loop-preserved : goal.loop-preserved
loop-preserved c =
    let depth = c.args.depth in
    let leaves = c.args.marks.now.leaves in
    let steps = c.args.height - (c.loop.counter + 1) in
    let more : c.args.height - c.loop.counter ≡ suc steps = omega (arith, c.loop-test.true) in
    let left : c.is_below.result ≡ some_leaf_below depth leaves (2 * c.loop.v) = c.is_below.ensures ∙ ap (λ n. some_leaf_below n leaves (2 * c.loop.v)) c.requires.same in
    subst (IsGoingDown depth leaves c.args.height c.args.top steps) (sym c.lower-v.ensures)
    (down_more depth leaves c.requires.leaves c.args.height c.args.top steps c.loop.v c.is_below.result left
    (subst (λ n. IsGoingDown depth leaves c.args.height c.args.top n c.loop.v) more c.loop.invariant))

pub returns : goal.returns
returns c =
    let depth = c.args.depth in
    let leaves = c.args.marks.now.leaves in
    let last : c.args.height - c.loop.counter ≡ 0 = omega (arith, c.loop-test.false) in
    let done = subst (λ n. IsGoingDown depth leaves c.args.height c.args.top n c.loop.v) last c.loop.invariant in
    let none : depth - 0 ≡ depth = omega arith in
    let high : 2 ^ depth ≤ c.loop.v = subst (λ n. 2 ^ n ≤ c.loop.v) none done.from in
    let count : c.count.result ≡ 2 ^ depth = c.count.ensures.leaves ∙ ap (λ n. 2 ^ n) c.requires.same in
    down_last depth leaves c.requires.leaves c.args.height c.args.top c.loop.v (c.loop.v - c.count.result) (omega (arith, high, count)) done
