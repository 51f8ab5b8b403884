use Rattle.std.proofs.Common.{[], refl}
use Rattle.tree_store.proofs.replays.Replay.begin.Goals as goal

pub returns-clause-begun : goal.returns-clause-begun
returns-clause-begun c =
    let made = c.in_ok-tree.ensures in
    record {
      before = [];
      tree = record { depth = made.depth; stands = made.empty; room = c.prove_room.ensures; keeps = made.none };
      last = refl;
    }
