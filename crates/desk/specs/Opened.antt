-- What a desk's table was told.
use Rattle.std.specs.Prelude.{◌≡◌, ℕ, ◌≤◌, List, [], length, Option}
use Rattle.atomic_table.specs.Seated.{TableId}
use Rattle.atomic_table.specs.declared.shared.Seat.{Seat}
use Rattle.desk.specs.declared.views.View.{View}
use Rattle.desk.specs.Seats.{IsSized}
use Rattle.desk.specs.Turns.{maker}
use Rattle.desk.specs.declared.views.Terms.{Terms}
use Rattle.desk.specs.declared.rules.Opening.{Opening}

-- the terms of a desk, from what its table was told
abbrev pub terms_of : {K E G : Type 0} → (K → List E) → (K → G) → Opening K → Terms E G
terms_of listed tag opening =
    record { start = listed opening.kept.value; passes = opening.passes; turns = opening.turns; tag = tag opening.kept.value }

-- what a desk keeps of its table: its size, what the desk knows itself of what the table was told, and how many entries there were
pub record IsDesk {E G : Type 0} (begun : G → ℕ) (table : TableId) (terms : Terms E G) (passes turns : ℕ) : Type 0 where
  pub sized : IsSized table terms
  pub passes_are : terms.passes ≡ passes
  pub turns_are : terms.turns ≡ turns
  pub some : 1 ≤ passes
  pub counted : length terms.start ≡ begun terms.tag

-- a table that was just made for this value, and the seat of its maker
pub record IsLaid {K E G : Type 0} (listed : K → List E) (tag : K → G) (kept : K) (passes turns : ℕ)
    (table : TableId) (opening : Opening K) (seat : Seat (Option K) (View E G)) : Type 0 where
  pub words : table.words ≡ 3
  pub slots : table.slots ≡ 1
  pub told : terms_of listed tag opening ≡ record { start = listed kept; passes = passes; turns = turns; tag = tag kept }
  pub seated : seat.table_id ≡ table
  pub me_is : seat.me ≡ (maker (terms_of listed tag opening), [])
