use Rattle.server_steps.proofs.SeenLemmas.{position_is, standing_none, standing_some}
use Rattle.server_steps.proofs.seeing.add_standing.Goals as goal

pub returns-in-Some-member_at-clause-items : goal.returns-in-Some-member_at-clause-items
returns-in-Some-member_at-clause-items g c =
    let tree = c.args.core.now.tree in
    let at = c.in-Some.leaf in
    standing_some tree.depth tree.holders c.args.leaf at c.in-Some-member_at.member c.args.room.now.items c.add.new.self.items
    (position_is at c.args.leaf c.in-Some.ensures) c.in-Some-member_at.ensures c.add.ensures.items

pub returns-in_default-member_at-clause-items : goal.returns-in_default-member_at-clause-items
returns-in_default-member_at-clause-items g c =
    let tree = c.args.core.now.tree in
    let at = c.in-Some.leaf in
    standing_none tree.depth tree.holders c.args.leaf at c.args.room.now.items (position_is at c.args.leaf c.in-Some.ensures)
    c.in_default-member_at.ensures
