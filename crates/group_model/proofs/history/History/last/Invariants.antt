use Rattle.std.proofs.Common.{◌≡◌}
use Rattle.group_model.specs.Fresh.{last_change}
use Rattle.group_model.proofs.history.History.last.Given as goal

-- the batches from this epoch on do not renew the position
abbrev pub invariant-loop-index : goal.invariant-loop-index
invariant-loop-index l =
    last_change l.fn.self.depth l.fn.self.batches l.index l.fn.id ≡ last_change l.fn.self.depth l.fn.self.batches l.fn.epoch l.fn.id
