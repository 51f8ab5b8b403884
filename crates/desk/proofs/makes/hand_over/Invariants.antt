use Rattle.std.proofs.Common.{◌≡◌, ◌+◌, ◌-◌, ◌*◌, ◌≤◌, [], map, Some, vec_capacity}
use Rattle.std.specs.List.{range_with_len}
use Rattle.desk.specs.Opened.{terms_of}
use Rattle.desk.specs.Seats.{IsSeatOf, IsAtRest}
use Rattle.desk.specs.Turns.{blank_shares}
use Rattle.desk.proofs.makes.hand_over.Given as goal

-- the passes so far have the first numbers, and the maker's seat has the others
abbrev pub invariant-loop : goal.invariant-loop
invariant-loop g l = let terms = terms_of g.K.Kept.listed g.K.Kept.tag l.top.key in
    (l.made.items ≡ map (λ number. record { desk = record { table = l.top.table_id; told = Some terms }; number = number; seen = terms.start; mine = [] }) (range_with_len 1 l.counter))
    × (l.fn.passes ≤ vec_capacity l.made) × IsSeatOf l.top.table_id terms l.maker × IsAtRest l.maker
    × (l.maker.me.0.shares ≡ blank_shares (l.counter + 1) (l.fn.passes - l.counter)) × (l.maker.me.0.left ≡ (l.fn.passes - l.counter) * l.top.key.turns) × (l.maker.me.0.seen ≡ terms.start)
