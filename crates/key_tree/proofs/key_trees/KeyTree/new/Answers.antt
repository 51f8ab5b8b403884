use Rattle.std.proofs.Common.{◌∙◌, ◌^◌, ◌+◌, None, map, sym, ap, subst, length}
use Rattle.std.specs.Prelude.{is_none, is_some}
use Rattle.std.proofs.lemmas.List.{length-replicate}
use Rattle.group_model.specs.Places.{Holders}
use Rattle.group_model.specs.Indexes.{IsIndexOf}
use Rattle.key_tree.proofs.PresentLemmas.{StandsFor-first}
use Rattle.key_tree.proofs.SeatLemmas.{nobody_held}
use Rattle.key_tree.proofs.key_trees.KeyTree.new.Goals as goal

pub invariant_of-result : goal.invariant_of-result
invariant_of-result c = record {
  shallow = c.requires.shallow;
  not_deep = c.requires.not_deep;
  leaves = ap length c.in_ok-holders.ensures ∙ length-replicate (2 ^ c.args.depth) None;
  positions = ap length c.in_ok-made.ensures ∙ length-replicate (2 ^ (c.args.depth + 1)) None;
  room = c.in_ok-kept.ensures.room;
  marked = c.in_ok-held.ensures ∙ (λ i. record { depth = c.args.depth; leaves = (sym (nobody_held (2 ^ c.args.depth)) ∙ ap (map is_some) (sym c.in_ok-holders.ensures)) i });
  unmarked = c.in_ok-free.ensures ∙ (λ i. record { depth = c.args.depth; leaves = map is_none (c.as_slice.ensures i) });
  indexed = subst (λ (holders : Holders). IsIndexOf holders c.in_ok-index.index) (sym c.in_ok-holders.ensures) (c.in_ok-index.ensures (2 ^ c.args.depth));
}

pub returns-clause-empty : goal.returns-clause-empty
returns-clause-empty c = StandsFor-first c.args.depth c.in_ok-holders.holders c.in_ok-made.made c.in_ok-kept.kept c.in_ok-holders.ensures c.in_ok-made.ensures
