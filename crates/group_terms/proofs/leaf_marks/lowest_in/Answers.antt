use Rattle.std.proofs.Common.{◌≡◌, ◌∙◌, ◌+◌, ◌*◌, ◌/◌, ◌^◌, ◌<◌, Bool, List, drop, length, get_or, false, sym, ap, subst, arith, Some, ◌≤◌, ◌-◌}
use Rattle.std.specs.List.{list_any}
use Rattle.std.proofs.Math.Pow.{pow_mono}
use Rattle.std.proofs.lemmas.Grind.{pow_more}
use Rattle.group_terms.proofs.BelowLemmas.{pow_pos}
use Rattle.group_terms.proofs.LeafMarkLemmas.{IsAbove, IsAbove-root, IsAbove-leaf, IsAbove-lower, root_any, none_lowest, few_leaves, get_or-marks_of, long_marks, long_leaves}
use Rattle.group_terms.proofs.leaf_marks.lowest_in.Goals as goal

pub bounds-marks-1 : goal.bounds-marks-1
bounds-marks-1 c = omega (arith, long_marks c.args.depth c.args.marks.now (drop (2 ^ c.args.depth) c.args.marks.now) c.requires.marks, pow_more 2 c.args.depth, pow_pos c.args.depth)

pub returns-then-not-marks : goal.returns-then-not-marks
returns-then-not-marks c =
    let leaves : List Bool = drop (2 ^ c.args.depth) c.args.marks.now in
    let root : get_or c.args.marks.now 1 false ≡ list_any (λ mark. mark) leaves = root_any c.args.depth c.args.marks.now c.requires.marks in
    sym (none_lowest leaves (sym root ∙ c.if-not-marks.true))

pub loop-init : goal.loop-init
loop-init c =
    let leaves : List Bool = drop (2 ^ c.args.depth) c.args.marks.now in (
      IsAbove-root c.args.depth leaves (sym (get_or-marks_of c.args.depth leaves 1 (omega (arith, pow_more 2 c.args.depth, pow_pos c.args.depth)))
          ∙ ap (λ (marks : List Bool). get_or marks 1 false) (sym c.requires.marks) ∙ c.if-not-marks.false),
      omega arith,
    )

pub bounds-marks-v : goal.bounds-marks-v
bounds-marks-v c =
    omega (
      arith,
      long_marks c.args.depth c.args.marks.now (drop (2 ^ c.args.depth) c.args.marks.now) c.requires.marks,
      pow_more 2 c.args.depth,
      c.loop.invariant.0.to,
      pow_mono {i = c.loop.counter + 1} {j = c.args.depth} (omega (arith, c.loop-test.true)),
    )

pub lower-v-requires : goal.lower-v-requires
lower-v-requires c =
    omega (arith, c.loop.invariant.0.to, pow_mono {i = c.loop.counter + 1} {j = c.args.depth} (omega (arith, c.loop-test.true)), few_leaves c.args.depth c.requires.not_deep)

pub loop-preserved : goal.loop-preserved
loop-preserved c =
    let leaves : List Bool = drop (2 ^ c.args.depth) c.args.marks.now in
    let inner : 2 * c.loop.v < 2 ^ (c.args.depth + 1) =
    omega (arith, pow_more 2 c.args.depth, c.loop.invariant.0.to, pow_mono {i = c.loop.counter + 1} {j = c.args.depth} (omega (arith, c.loop-test.true))) in
    let next = subst (IsAbove c.args.depth leaves (c.loop.counter + 1)) (sym c.lower-v.ensures)
    (IsAbove-lower c.args.depth leaves c.loop.counter c.loop.v (get_or c.args.marks.now (2 * c.loop.v) false) (long_leaves c.args.depth c.args.marks.now leaves c.requires.marks)
    (omega (arith, c.loop-test.true)) (ap (λ (marks : List Bool). get_or marks (2 * c.loop.v) false) c.requires.marks ∙ get_or-marks_of c.args.depth leaves (2 * c.loop.v) inner)
    c.loop.invariant.0) in
    (next, omega (arith, next.to, pow_mono {i = c.loop.counter + 1 + 1} {j = 10} (omega (arith, c.loop-test.true, c.requires.not_deep))))

pub overflow_sub-result : goal.overflow_sub-result
overflow_sub-result c =
    let at_end : c.loop.counter ≡ c.args.depth = omega (arith, c.loop-test.false, c.loop.auto.counter-end) in
    let from : 2 ^ c.args.depth ≤ c.loop.v = subst (λ level. 2 ^ level ≤ c.loop.v) at_end c.loop.invariant.0.from in
    omega (arith, from, long_marks c.args.depth c.args.marks.now (drop (2 ^ c.args.depth) c.args.marks.now) c.requires.marks, pow_more 2 c.args.depth)

pub returns : goal.returns
returns c =
    let leaves : List Bool = drop (2 ^ c.args.depth) c.args.marks.now in
    let at_end : c.loop.counter ≡ c.args.depth = omega (arith, c.loop-test.false, c.loop.auto.counter-end) in
    let half : length c.args.marks.now / 2 ≡ 2 ^ c.args.depth =
    omega (arith, long_marks c.args.depth c.args.marks.now leaves c.requires.marks, pow_more 2 c.args.depth) in
    ap (λ n. Some (c.loop.v - n)) half
    ∙ IsAbove-leaf c.args.depth leaves c.loop.v (long_leaves c.args.depth c.args.marks.now leaves c.requires.marks)
    (subst (λ level. IsAbove c.args.depth leaves level c.loop.v) at_end c.loop.invariant.0)
