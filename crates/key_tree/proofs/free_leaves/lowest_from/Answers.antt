use Rattle.std.proofs.Common.{◌≡◌, ◌∙◌, suc, ◌+◌, ◌-◌, ◌/◌, ◌%◌, ◌^◌, ◌<◌, ◌&&◌, eqb, true, sym, ap, subst, arith}
use Rattle.std.proofs.Math.Pow.{pow_mono}
use Rattle.std.proofs.lemmas.Bool.{and_parts, eqb-true}
use Rattle.std.proofs.lemmas.Grind.{pow_more}
use Rattle.group_terms.specs.Positions.{some_leaf_below}
use Rattle.key_tree.proofs.LeafLemmas.{leaf_mark}
use Rattle.key_tree.proofs.LowestLemmas.{IsGoingUp, up_first, up_found, up_last, up_more, up_within}
use Rattle.key_tree.proofs.free_leaves.lowest_from.Goals as goal

pub returns-then-is_below : goal.returns-then-is_below
returns-then-is_below c =
    let depth = c.args.depth in
    let leaves = c.args.marks.now.leaves in
    let count = c.count-2.ensures.leaves ∙ ap (λ n. 2 ^ n) c.requires.same in
    let low : c.args.from < 2 ^ depth = omega (arith, c.if-from-count.false, c.count.ensures.leaves, ap (λ n. 2 ^ n) c.requires.same) in
    let here : some_leaf_below depth leaves (2 ^ depth + c.args.from) ≡ true =
    (λ i. some_leaf_below (sym c.requires.same i) leaves (sym count i + c.args.from)) ∙ sym c.is_below.ensures ∙ c.if-is_below.true in
    (omega arith, sym (leaf_mark depth leaves c.requires.leaves c.args.from low) ∙ here, λ i from before. absurd (omega (arith, from, before)))

pub loop-height-init : goal.loop-height-init
loop-height-init c =
    let depth = c.args.depth in
    let leaves = c.args.marks.now.leaves in
    let count = c.count-2.ensures.leaves ∙ ap (λ n. 2 ^ n) c.requires.same in
    let low : c.args.from < 2 ^ depth = omega (arith, c.if-from-count.false, c.count.ensures.leaves, ap (λ n. 2 ^ n) c.requires.same) in
    let v = c.count-2.result + c.args.from in
    record {
      low = low;
      up = up_first depth leaves c.requires.leaves c.args.from v low (ap (λ n. n + c.args.from) count)
          (ap (λ n. some_leaf_below n leaves v) (sym c.requires.same) ∙ sym c.is_below.ensures ∙ c.if-is_below.false);
    }

pub is_right_marked-requires-clause-within : goal.is_right_marked-requires-clause-within
is_right_marked-requires-clause-within c =
    let depth = c.args.depth in
    let h = c.loop-height.height in
    let within = up_within depth c.args.marks.now.leaves c.requires.leaves c.args.from h c.loop-height.v c.loop-height.invariant.low c.loop-height.invariant.up (omega (arith, c.loop-height-test.true)) in
    omega (arith, within.1, pow_mono {i = depth - h + 1} {j = depth + 1} (omega arith), ap (λ n. 2 ^ (n + 1)) c.requires.same)

pub lowest_below-requires-clause-from : goal.lowest_below-requires-clause-from
lowest_below-requires-clause-from c =
    let within = up_within c.args.depth c.args.marks.now.leaves c.requires.leaves c.args.from c.loop-height.height c.loop-height.v c.loop-height.invariant.low c.loop-height.invariant.up
    (omega (arith, c.loop-height-test.true)) in
    omega (arith, within.0)

pub lowest_below-requires-clause-to : goal.lowest_below-requires-clause-to
lowest_below-requires-clause-to c =
    let depth = c.args.depth in
    let v = c.loop-height.v in
    let within = up_within depth c.args.marks.now.leaves c.requires.leaves c.args.from c.loop-height.height v c.loop-height.invariant.low c.loop-height.invariant.up
    (omega (arith, c.loop-height-test.true)) in
    let even = and_parts (eqb (v % 2) 0) (some_leaf_below c.args.marks.now.depth c.args.marks.now.leaves (v + 1)) (sym c.is_right_marked.ensures ∙ c.if-is_right_marked.true) in
    omega (arith, within.1, eqb-true (v % 2) 0 even.0, pow_more 2 (depth - c.loop-height.height))

pub lowest_below-requires-clause-marked : goal.lowest_below-requires-clause-marked
lowest_below-requires-clause-marked c =
    let v = c.loop-height.v in
    let leaves = c.args.marks.now.leaves in
    let even = and_parts (eqb (v % 2) 0) (some_leaf_below c.args.marks.now.depth leaves (v + 1)) (sym c.is_right_marked.ensures ∙ c.if-is_right_marked.true) in
    ap (λ n. some_leaf_below n leaves (v + 1)) (sym c.requires.same) ∙ even.1

pub returns-then-is_right_marked : goal.returns-then-is_right_marked
returns-then-is_right_marked c =
    up_found c.args.depth c.args.marks.now.leaves c.requires.leaves c.args.from c.loop-height.height c.loop-height.v c.loop-height.invariant.low c.loop-height.invariant.up
    c.lowest_below.result c.lowest_below.ensures

pub loop-height-preserved : goal.loop-height-preserved
loop-height-preserved c =
    let v = c.loop-height.v in
    let leaves = c.args.marks.now.leaves in
    let next : suc c.loop-height.height ≡ c.loop-height.height + 1 = omega arith in
    record {
      low = c.loop-height.invariant.low;
      up = subst (λ n. IsGoingUp c.args.depth leaves c.args.from n (v / 2)) next
          (up_more c.args.depth leaves c.requires.leaves c.args.from c.loop-height.height v c.loop-height.invariant.low c.loop-height.invariant.up (omega (arith, c.loop-height-test.true))
          (ap (λ n. eqb (v % 2) 0 && some_leaf_below n leaves (v + 1)) (sym c.requires.same) ∙ sym c.is_right_marked.ensures ∙ c.if-is_right_marked.false));
    }

pub returns : goal.returns
returns c =
    let depth = c.args.depth in
    let leaves = c.args.marks.now.leaves in
    let whole : c.loop-height.height ≡ depth = omega (arith, c.loop-height-test.false, c.loop-height.auto.height-end) in
    up_last depth leaves c.requires.leaves c.args.from c.loop-height.v c.loop-height.invariant.low
    (subst (λ n. IsGoingUp depth leaves c.args.from n c.loop-height.v) whole c.loop-height.invariant.up)
