-- Positions of a binary key tree (RFC 2627 section 5.4). The root is 1, and the children of i are 2i and 2i + 1;
-- the leaves of a tree of depth d are 2^d to 2^(d + 1) - 1.
use Rattle.std.specs.Prelude.{◌≡◌, ℕ, zero, suc, ◌+◌, ◌/◌, ◌^◌, ◌==◌, ◌&&◌, ◌||◌, Bool, List, map}
use Rattle.std.specs.List.{list_any, enumerate_from, range_with_len}

-- x halved so many times, each time rounded down: the position so many steps nearer the root
abbrev pub halved : ℕ → ℕ → ℕ
halved zero x = x
halved (suc steps) x = halved steps (x / 2)

-- x is v or stands below it
abbrev pub IsBelow : ℕ → ℕ → Type 0
IsBelow v x = (steps : ℕ) × (halved steps x ≡ v)

-- whether x is v or stands below it by at most so many steps; in a tree of that depth no more are needed
abbrev pub is_below : ℕ → ℕ → ℕ → Bool
is_below zero v x = x == v
is_below (suc steps) v x = x == v || is_below steps v (x / 2)

-- whether one of the leaves that pass stands below v; the list has an answer for each leaf, by rising leaf
abbrev pub some_leaf_below : ℕ → List Bool → ℕ → Bool
some_leaf_below depth passes v = list_any (λ leaf. leaf.1 && is_below depth v leaf.0) (enumerate_from (2 ^ depth) passes)

-- the same for each number up to that of the last leaf
abbrev pub marks_of : ℕ → List Bool → List Bool
marks_of depth passes = map (some_leaf_below depth passes) (range_with_len 0 (2 ^ (depth + 1)))
