-- Pairs of an epoch and a sequence number: which of them a board shows, and their order.
use Rattle.std.specs.Prelude.{◌≡◌, Bool, ◌||◌, ◌&&◌, ◌==◌, nat_lt, List, [], ◌∷◌, ◌++◌}
use Rattle.std.specs.List.Sorted.{IsSortedBy}
use Rattle.epoch_board.specs.declared.pairs.Seen.{Seen}

-- what a board shows before the first pair is published
abbrev pub zero_pair : Seen
zero_pair = record { epoch = 0; sequence = 0 }

-- what a board shows that showed this pair before these were published
abbrev pub last_pair_after : Seen → List Seen → Seen
last_pair_after pair [] = pair
last_pair_after pair (next ∷ later) = last_pair_after next later

-- what a board shows once these pairs were published: the last of them, or 0, 0 where there is none
abbrev pub last_pair : List Seen → Seen
last_pair = last_pair_after zero_pair

module _ {X : Type 0} where
  -- this list begins with that one
  abbrev pub StartsWith : List X → List X → Type 0
  StartsWith list that = (later : List X) × (list ≡ that ++ later)

-- a pair is less than another where its epoch is less, or where the epochs are equal and its sequence number is less
abbrev pub is_less : Seen → Seen → Bool
is_less pair other = nat_lt pair.epoch other.epoch || ((pair.epoch == other.epoch) && nat_lt pair.sequence other.sequence)

-- no pair is less than the one before it
abbrev pub NeverFalls : List Seen → Type 0
NeverFalls = IsSortedBy is_less
