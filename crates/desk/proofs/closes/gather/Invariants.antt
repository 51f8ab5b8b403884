use Rattle.std.proofs.Common.{◌≡◌, length, List, ◌++◌, All, Some}
use Rattle.desk.specs.Opened.{terms_of}
use Rattle.desk.specs.Seats.{IsSeatOf, IsAtRest, HasAll}
use Rattle.desk.specs.Views.{Holder}
use Rattle.desk.proofs.closes.gather.Given as goal

-- the passes that came off the end are in the seat
abbrev pub invariant-loop-pass : goal.invariant-loop-pass
invariant-loop-pass g l =
    (gone : List (Holder g.row.K-Entry.Denot g.row.K-Tag.Denot)) × (l.fn.passes ≡ l.passes ++ gone) × HasAll gone l.seat
    × IsSeatOf l.top.table_id (terms_of g.K.Kept.listed g.K.Kept.tag l.top.key) l.seat × IsAtRest l.seat
    × All (λ (pass : Holder g.row.K-Entry.Denot g.row.K-Tag.Denot). pass.desk ≡ record { table = l.top.table_id; told = Some (terms_of g.K.Kept.listed g.K.Kept.tag l.top.key) }) l.passes

abbrev pub decreases-loop-pass : goal.decreases-loop-pass
decreases-loop-pass g l = length l.passes
