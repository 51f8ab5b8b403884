use Rattle.std.proofs.Common.{◌≡◌, ℕ, ◌*◌, ◌-◌, ◌≤◌, ◌++◌, length, drop}
use Rattle.group_values.specs.Drawing.{nodes_drawn, place_after}
use Rattle.group_values.proofs.drawing.draw_nodes.Given as goal

-- what was drawn and what is left to draw
abbrev pub invariant-loop-id : goal.invariant-loop-id
invariant-loop-id g l = record {
  nodes : l.nodes.items ++ nodes_drawn (g.R.Draws.block_at l.fn.draws) (g.R.Draws.place_of l.draws) (drop l.id-index l.positions)
      ≡ l.fn.nodes.items ++ nodes_drawn (g.R.Draws.block_at l.fn.draws) (g.R.Draws.place_of l.fn.draws) l.positions;
  place : place_after (2 * (length l.positions - l.id-index)) (g.R.Draws.place_of l.draws) ≡ place_after (2 * length l.positions) (g.R.Draws.place_of l.fn.draws);
  blocks : (k : ℕ) → g.R.Draws.block_at l.draws k ≡ g.R.Draws.block_at l.fn.draws k;
  room : length l.positions - l.id-index ≤ l.nodes.spare;
}
