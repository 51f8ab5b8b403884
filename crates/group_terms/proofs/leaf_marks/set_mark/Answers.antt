use Rattle.std.proofs.Common.{◌≡◌, ◌+◌, ◌*◌, ◌/◌, ◌^◌, drop, length, set, get_or, false, ◌||◌, refl, arith, subst, ◌∙◌}
use Rattle.std.proofs.lemmas.Grind.{pow_more}
use Rattle.std.proofs.lemmas.List.{length-set}
use Rattle.group_terms.proofs.LeafMarkLemmas.{Climbs, Climbs-leaf, Climbs-up, MarkedBut, MarkedBut-leaf, MarkedBut-up, MarkedBut-root, MarkedBut-settled, beq-same, long_marks, long_leaves}
use Rattle.group_terms.proofs.leaf_marks.set_mark.Goals as goal

pub bounds-marks-v : goal.bounds-marks-v
bounds-marks-v c = omega (arith, c.requires.place, long_marks c.args.depth c.args.marks.now (drop (2 ^ c.args.depth) c.args.marks.now) c.requires.marks, pow_more 2 c.args.depth)

pub loop-v-init : goal.loop-v-init
loop-v-init c =
    let before = drop (2 ^ c.args.depth) c.args.marks.now in
    let leaf = 2 ^ c.args.depth + c.args.place in
    let first : 2 ^ c.args.depth + c.args.place ≡ length c.args.marks.now / 2 + c.args.place =
    omega (arith, long_marks c.args.depth c.args.marks.now before c.requires.marks, pow_more 2 c.args.depth) in (
      subst (λ v. MarkedBut c.args.depth (set before c.args.place c.args.mark) v (set c.args.marks.now v c.args.mark)) first
          (MarkedBut-leaf c.args.depth before c.args.marks.now c.args.place c.args.mark (long_leaves c.args.depth c.args.marks.now before c.requires.marks) c.requires.place c.requires.marks),
      subst (λ v. Climbs c.args.depth before leaf v (set c.args.marks.now v c.args.mark)) first
          (Climbs-leaf c.args.depth before c.args.marks.now c.args.place c.args.mark c.requires.place c.requires.marks),
    )

pub loop-v-preserved : goal.loop-v-preserved
loop-v-preserved c =
    let before = drop (2 ^ c.args.depth) c.args.marks.now in
    let left = get_or c.loop-v.marks (2 * (c.loop-v.v / 2)) false in
    let right = get_or c.loop-v.marks (2 * (c.loop-v.v / 2) + 1) false in (
      MarkedBut-up c.args.depth (set before c.args.place c.args.mark) c.loop-v.marks c.loop-v.v left right
          (length-set before c.args.place c.args.mark ∙ long_leaves c.args.depth c.args.marks.now before c.requires.marks)
          (omega (arith, c.loop-v-test.true)) refl refl c.loop-v.invariant.0,
      Climbs-up c.args.depth before c.loop-v.marks (2 ^ c.args.depth + c.args.place) c.loop-v.v (left || right) (omega (arith, c.loop-v-test.true)) c.loop-v.invariant.1,
    )

pub returns-then-marks-v : goal.returns-then-marks-v
returns-then-marks-v c =
    let before = drop (2 ^ c.args.depth) c.args.marks.now in
    MarkedBut-settled c.args.depth before c.args.place c.args.mark (long_leaves c.args.depth c.args.marks.now before c.requires.marks) c.loop-v.marks c.loop-v.v
    (omega (arith, c.loop-v-test.true)) c.loop-v.invariant.0 c.loop-v.invariant.1
    (beq-same (get_or c.loop-v.marks (c.loop-v.v / 2) false) (get_or c.loop-v.marks (2 * (c.loop-v.v / 2)) false || get_or c.loop-v.marks (2 * (c.loop-v.v / 2) + 1) false) c.if-marks-v.true)

pub returns : goal.returns
returns c = MarkedBut-root c.args.depth (set (drop (2 ^ c.args.depth) c.args.marks.now) c.args.place c.args.mark) c.loop-v.marks c.loop-v.v (omega (arith, c.loop-v-test.false)) c.loop-v.invariant.0
