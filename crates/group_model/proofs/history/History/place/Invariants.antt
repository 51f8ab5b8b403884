use Rattle.std.proofs.Common.{◌≡◌}
use Rattle.group_model.specs.Places.{place_in, holders_at}
use Rattle.group_model.proofs.history.History.place.Given as goal

-- the batches from this epoch on say nothing of the member
abbrev pub invariant-loop-index : goal.invariant-loop-index
invariant-loop-index l =
    place_in l.fn.self.depth (holders_at l.fn.self.depth l.fn.self.batches l.index) l.fn.member ≡ place_in l.fn.self.depth (holders_at l.fn.self.depth l.fn.self.batches l.fn.epoch) l.fn.member
