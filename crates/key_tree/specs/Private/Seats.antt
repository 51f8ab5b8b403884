-- Leaves that change hands one after the other.
use Rattle.std.specs.Prelude.{◌≡◌, ℕ, ◌+◌, ◌^◌, ◌<◌, ◌≤◌, ◌==◌, ◌||◌, ◌&&◌, nat_le, Bool, true, false, List, [], ◌∷◌, ◌++◌, length, map, reverse, take, drop, slice_index_or, Option, None, Some, is_none, if◌then◌else◌}
use Rattle.std.specs.List.{All, cons_option, filter, filter_map, list_any, position, range_with_len}
use Rattle.std.specs.Option.{option_map}
use Rattle.group_terms.specs.Changes.{leavers, joiners}
use Rattle.group_terms.specs.Names.{Name}
use Rattle.group_terms.specs.Positions.{some_leaf_below}
use Rattle.group_terms.specs.declared.changes.Change.{Change}
use Rattle.group_values.specs.Values.{Rises}
use Rattle.group_model.specs.Fresh.{changed_leaves, is_same_holder}
use Rattle.group_model.specs.Places.{Holders, is_held_by, member_count, placed}
use Rattle.key_tree.specs.declared.marks.Renewed.{Renewed}
use Rattle.key_tree.specs.declared.marks.Seat.{Seat}
use Rattle.key_tree.specs.declared.seating.Seating.{Seating}
use Rattle.key_tree.specs.declared.vacant.Vacant.{Vacant}
use Rattle.key_tree.specs.Marks.{renewal, seated}

-- the leaf of m, which is nobody's from now on
abbrev pub vacancy : Holders → Name → Option Seat
vacancy holders m = option_map (λ place. record { place = place; holder = None }) (position (is_held_by m) holders)

-- the leaves of these members
abbrev pub vacancies : Holders → List Name → List Seat
vacancies holders names = filter_map (vacancy holders) names

-- the lowest free leaf, which is m's from now on
abbrev pub placement : Holders → Name → Option Seat
placement holders m = option_map (λ place. record { place = place; holder = Some m }) (position is_none holders)

-- the leaves that these names get, one after the other
abbrev pub placements : Holders → List Name → List Seat
placements holders [] = []
placements holders (m ∷ names) = cons_option (placement holders m) (placements (placed holders m) names)

-- the leaves that change hands with a batch
abbrev pub seats_of : Holders → List Change → List Seat
seats_of holders batch =
    let left = vacancies holders (leavers batch) in
    left ++ placements (seated holders left) (joiners batch)

-- the leaf, where the seat gives it to somebody; the lowest leaf is first
abbrev pub leaf_taken : ℕ → Seat → Option ℕ
leaf_taken first seat = option_map (λ holder. first + seat.place) seat.holder

abbrev pub leaves_taken : ℕ → List Seat → List ℕ
leaves_taken first seats = filter_map (leaf_taken first) seats

-- the places of these leaves
abbrev pub places_of : List Seat → List ℕ
places_of seats = map (λ (seat : Seat). seat.place) seats

-- whether a number is one of these
abbrev pub is_among : List ℕ → ℕ → Bool
is_among places i = list_any (λ place. i == place) places

-- whether a number is the first one of these
abbrev pub is_first : List ℕ → ℕ → Bool
is_first [] i = false
is_first (place ∷ places) i = place == i

-- how many of those that were left are passed, once somebody gets a place
abbrev pub passed_by : List ℕ → ℕ → ℕ → ℕ
passed_by left passed i = if is_first (drop passed left) i then passed + 1 else passed

-- whether nobody had a leaf, or who had it left it
abbrev pub is_vacant : List Bool → List ℕ → ℕ → Bool
is_vacant free left i = slice_index_or free i false || is_among left i

-- The places that were left rise. Those passed are below the place from which on leaves are free, and the others are not.
pub record IsVacant (vacant : Vacant) : Type 0 where
  pub rises : Rises vacant.left
  pub low : All (λ place. place < 65536) vacant.left
  pub within : vacant.passed ≤ length vacant.left
  pub passed : All (λ place. place < vacant.from) (take vacant.passed vacant.left)
  pub later : All (λ place. vacant.from ≤ place) (drop vacant.passed vacant.left)

-- who has which leaf once those who go out left these, where these leaves are free before that
pub record IsLeft (before left : Holders) (free : List Bool) (places : List ℕ) : Type 0 where
  pub len : length left ≡ length before
  pub within : (i : ℕ) → is_vacant free places i ≡ true → i < length before
  pub vacant : (i : ℕ) → i < length before → is_none (slice_index_or left i None) ≡ is_vacant free places i

-- who has which leaf once some came in, each at the lowest free leaf
pub record IsTaken (before left now : Holders) (from : ℕ) (places : List ℕ) : Type 0 where
  pub len : length now ≡ length before
  pub free : (i : ℕ) → i < length before → is_none (slice_index_or now i None) ≡ (nat_le from i && is_none (slice_index_or left i None))
  pub others : (i : ℕ) → is_among places i ≡ false → slice_index_or now i None ≡ slice_index_or left i None
  pub changed : (i : ℕ) → is_among places i ≡ true → is_same_holder (slice_index_or before i None) (slice_index_or now i None) ≡ false
  pub rises : Rises places
  pub below : All (λ place. place < from) places
  pub within : All (λ place. place < length before) places
  pub members : member_count now ≡ member_count left + length places

-- what is found out of a leaf that changes hands, where the lowest one is first
abbrev pub changed_leaf : ℕ → Bool → ℕ → Renewed
changed_leaf first held place = record { id = first + place; held = held; stayed = false }

-- what a batch makes of the leaves of a tree of a depth
module _ (depth : ℕ) (before : Holders) (batch : List Change) (seating : Seating) where
  -- who has which leaf then
  abbrev pub holders_by : Holders
  holders_by = seated before seating.seats

  -- the leaves that change hands, by falling leaf what is found out of each whose holder is another one, and how many members there are
  pub record IsSeating : Type 0 where
    pub seats : seating.seats ≡ seats_of before batch
    pub within : All (λ (seat : Seat). seat.place < length before) seating.seats
    pub joined : seating.joined ≡ leaves_taken (2 ^ depth) seating.seats
    pub leaves : seating.leaves ≡ reverse (map (renewal depth before holders_by)
        (filter (some_leaf_below depth (changed_leaves before holders_by)) (range_with_len (2 ^ depth) (2 ^ depth))))
    pub members : seating.members ≡ member_count holders_by
