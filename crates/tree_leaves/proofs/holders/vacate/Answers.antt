use Rattle.std.proofs.Common.{cond, None}
use Rattle.std.proofs.lemmas.List.Edits.{map_over_more}
use Rattle.tree_leaves.specs.Places.{is_held_by}
use Rattle.tree_leaves.proofs.holders.vacate.Goals as goal

pub loop-holder-preserved : goal.loop-holder-preserved
loop-holder-preserved c =
    rw (c.unless_held_by.ensures, ← c.holder-item.is) (map_over_more (λ holder. cond (is_held_by c.args.member.now holder) None holder) c.args.holders.now c.loop-holder.holders c.loop-holder.holder-index c.holder-item.result c.loop-holder-test.true c.loop-holder.invariant c.holder-item.is)
