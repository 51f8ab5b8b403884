use Rattle.std.proofs.Common.{rules, ◌≡◌, ◌∙◌, ◌*◌, length, ap}
use Rattle.group_values.specs.Drawing.{nodes_drawn, place_after}
use Rattle.group_values.specs.Values.{ids_of}
use Rattle.group_values.proofs.DrawingLemmas.{ids_drawn, place_after-more}
use Rattle.group_values.proofs.drawing.draw_values.Goals as goal

pub returns-clause-place : goal.returns-clause-place
returns-clause-place g c =
    c.draw_traffic.ensures.place ∙ ap (place_after 4) c.draw_nodes.ensures.place
    ∙ place_after-more (2 * length c.args.positions.now) 4 (g.R.Draws.place_of c.args.draws.now)

pub returns-clause-positions : goal.returns-clause-positions
returns-clause-positions g c =
    let block = g.R.Draws.block_at c.args.draws.now in
    let place = g.R.Draws.place_of c.args.draws.now in
    let drawn : c.into_list.result ≡ nodes_drawn block place c.args.positions.now = search rules in
    ap ids_of drawn ∙ ids_drawn block place c.args.positions.now
