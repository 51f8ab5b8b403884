use Rattle.std.proofs.Common.{◌≡◌, ◌∙◌, ◌+◌, ◌*◌, ◌-◌, length, ap, arith}
use Rattle.group_values.specs.Drawing.{place_after}
use Rattle.group_values.proofs.DrawingLemmas.{nodes_next, place_after-more, same_node}
use Rattle.group_values.proofs.drawing.draw_nodes.Goals as goal

pub loop-id-preserved : goal.loop-id-preserved
loop-id-preserved g c =
    let block = g.R.Draws.block_at c.args.draws.now in
    let here = g.R.Draws.place_of c.loop-id.draws in
    let ids = c.args.positions.now in
    let left = 2 * (length ids - (c.loop-id.id-index + 1)) in
    let more : 2 + left ≡ 2 * (length ids - c.loop-id.id-index) = omega (arith, c.loop-id-test.true) in
    record {
      nodes = nodes_next block c.loop-id.nodes.items c.add.new.self.items here (g.R.Draws.place_of c.draw_node-value.new.draws) c.loop-id.id-index c.id-item.result
          c.draw_node-value.result ids c.loop-id-test.true c.id-item.is
          (c.draw_node-value.ensures.value ∙ same_node block (g.R.Draws.block_at c.loop-id.draws) here c.loop-id.invariant.blocks)
          c.draw_node-value.ensures.place c.add.ensures.items ∙ c.loop-id.invariant.nodes;
      place = ap (place_after left) c.draw_node-value.ensures.place ∙ place_after-more 2 left here ∙ ap (λ n. place_after n here) more ∙ c.loop-id.invariant.place;
      blocks = λ k. c.draw_node-value.ensures.blocks k ∙ c.loop-id.invariant.blocks k;
      room = omega (arith, c.loop-id.invariant.room, c.add.ensures.spare);
    }
