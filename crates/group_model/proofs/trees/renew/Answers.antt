use Rattle.std.proofs.Common.{◌++◌, ◌∷◌, [], ap, sym, ◌∙◌, arith}
use Rattle.std.proofs.lemmas.List.FromFn.{map-range_with_len_more}
use Rattle.group_model.specs.LastChanges.{renewed_at}
use Rattle.group_model.proofs.trees.renew.Goals as goal

pub loop-v-preserved : goal.loop-v-preserved
loop-v-preserved c =
    let one = renewed_at c.args.epoch c.args.made.now c.args.marks.now in
    rw (c.in_ok-push.ensures.ok, c.renew_at.ensures)
    (ap (λ list. list ++ one c.loop-v.v ∷ []) c.loop-v.invariant ∙ sym (map-range_with_len_more one 0 c.loop-v.v c.loop-v.v (omega arith)))
