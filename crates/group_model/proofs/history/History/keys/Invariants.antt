use Rattle.std.proofs.Common.{◌≡◌, ◌++◌, map, drop}
use Rattle.group_model.specs.Fresh.{node_name}
use Rattle.group_model.proofs.history.History.keys.Given as goal

-- the keys so far, and those of the positions that are left
abbrev pub invariant-loop-id : goal.invariant-loop-id
invariant-loop-id l =
    let key = node_name l.self.depth l.self.batches l.epoch in
    l.names ++ map key (drop l.id-index l.positions) ≡ map key l.positions
