-- Lists in shares. Of n shares, share w has the items at the places w, w + n and so on.
use Rattle.std.specs.Prelude.{◌≡◌, ℕ, ◌+◌, ◌<◌, ◌==◌, ◌/◌, ◌%◌, min, List, [], ◌∷◌, length, slice_index_or, if◌then◌else◌}

module _ {X : Type 0} (n w : ℕ) where
  -- of a list whose first item is at this place
  abbrev pub share_from : ℕ → List X → List X
  share_from at [] = []
  share_from at (x ∷ xs) = if at % n == w then x ∷ share_from (at + 1) xs else share_from (at + 1) xs

  -- of a list from place 0 on
  abbrev pub share : List X → List X
  share xs = share_from 0 xs

module _ {X : Type 0} (hands : List (List X)) (count : ℕ) where
  -- each hand has as many items as its share of a list of so many items
  pub record AreShares : Type 0 where
    pub list : List X
    pub counted : length list ≡ count
    pub each : (w : ℕ) → w < length hands → length (slice_index_or hands w []) ≡ length (share (length hands) w list)

-- in how many rounds n shares get so many items, one each in a round; the last round may be a short one
abbrev pub rounds : ℕ → ℕ → ℕ
rounds n count = count / n + min 1 (count % n)
