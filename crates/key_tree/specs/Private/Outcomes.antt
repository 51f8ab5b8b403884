-- What a batch makes of the tree, but for its epoch and the number of its last push.
use Rattle.std.specs.Prelude.{◌≡◌, ℕ, ◌^◌, ◌<◌, Bool, false, List, [], ◌∷◌, length, map}
use Rattle.std.specs.List.{All}
use Rattle.group_terms.specs.declared.changes.Change.{Change}
use Rattle.group_model.specs.Places.{Holders, member_count}
use Rattle.key_tree.specs.declared.marks.Renewed.{Renewed}
use Rattle.key_tree.specs.declared.marks.Seat.{Seat}
use Rattle.key_tree.specs.declared.preparing.Outcome.{Outcome}
use Rattle.key_tree.specs.Marks.{drawn_between, fresh_between, renewal, seated}
use Rattle.key_tree.specs.Private.Seats.{leaves_taken, seats_of}

-- whether somebody has a leaf at the first of these positions or below it who stayed
abbrev pub stays_at_root : List Renewed → Bool
stays_at_root [] = false
stays_at_root (root ∷ rest) = root.stayed

module _ (depth : ℕ) (before : Holders) (batch : List Change) (outcome : Outcome) where
  -- who has which leaf then
  abbrev pub holders_by : Holders
  holders_by = seated before outcome.seats

  -- all that is found out of a batch that fits
  pub record IsOutcome : Type 0 where
    pub seats : outcome.seats ≡ seats_of before batch
    pub within : All (λ (seat : Seat). seat.place < length before) outcome.seats
    pub members : outcome.members ≡ member_count holders_by
    pub joined : outcome.joined ≡ leaves_taken (2 ^ depth) outcome.seats
    pub renewed : outcome.renewed ≡ map (renewal depth before holders_by) (fresh_between depth before holders_by)
    pub drawn : outcome.drawn ≡ drawn_between depth before holders_by
