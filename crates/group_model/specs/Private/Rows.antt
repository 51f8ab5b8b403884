-- What a `History` keeps beside each batch.
use Rattle.std.specs.Prelude.{◌≡◌, ℕ, ◌+◌, ◌^◌, ◌<◌, ◌≤◌, List, length, map, Option, MatchOption, slice_index_or}
use Rattle.group_terms.specs.declared.changes.Change.{Change}
use Rattle.group_model.specs.declared.history.Row.{Row}
use Rattle.group_model.specs.Places.{Holders, IsValid, member_count, holders_of, holders_at}
use Rattle.group_model.specs.Private.Handovers.{handovers_at}

abbrev pub batches_of : List Row → List (List Change)
batches_of rows = map (λ (row : Row). row.changes) rows

-- the row has the leaves that changed hands with the batch at this index, and how many members there were after it
pub record IsRowOf (depth : ℕ) (batches : List (List Change)) (index : ℕ) (row : Row) : Type 0 where
  pub handovers : row.handovers ≡ handovers_at depth batches index
  pub members : row.members ≡ member_count (holders_at depth batches (index + 1))

-- each row is that of its batch, and the holders are those after all of them; before the first batch there are none
pub record AreRows (depth : ℕ) (rows : List Row) (holders : Option Holders) : Type 0 where
  pub shallow : 1 ≤ depth
  pub not_deep : depth ≤ 9
  pub few : length rows < 2 ^ 32
  pub valid : IsValid depth (batches_of rows)
  pub each : (index : ℕ) (d : Row) → index < length rows → IsRowOf depth (batches_of rows) index (slice_index_or rows index d)
  pub present : MatchOption holders (length rows ≡ 0) (λ present. present ≡ holders_of depth (batches_of rows))
