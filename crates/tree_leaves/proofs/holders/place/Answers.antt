use Rattle.std.proofs.Common.{◌∙◌, sym}
use Rattle.tree_leaves.proofs.HolderLemmas.{placed_at, placed_nowhere}
use Rattle.tree_leaves.proofs.holders.place.Goals as goal

pub returns-in-Some : goal.returns-in-Some
returns-in-Some c = placed_at c.args.holders.now c.args.member.now c.in-Some.free (sym c.in-Some.ensures)

pub returns-in_default : goal.returns-in_default
returns-in_default c = placed_nowhere c.args.holders.now c.args.member.now (sym c.lowest_free.ensures ∙ c.in_default.is)
