-- Which member has which leaf of the tree (RFC 2627 section 5.4), batch after batch. That in a batch all removals come first,
-- and that a join takes the lowest free leaf, is this server's choice.
use Rattle.std.specs.Prelude.{◌≡◌, ℕ, ◌+◌, ◌^◌, ◌≤◌, ◌&&◌, Bool, true, false, not, List, [], ◌∷◌, length, map, take, replicate, Option, None, Some, is_some, is_none, slice_set, slice_index_or, nat_lt, ◌-◌, if◌then◌else◌}
use Rattle.std.specs.List.{list_any, list_all, fold, position, position_or_len, count_by}
use Rattle.std.specs.Option.{option_map}
use Rattle.group_terms.specs.Names.{Name, same_name}
use Rattle.group_terms.specs.Changes.{member_of, leavers, joiners}
use Rattle.group_terms.specs.declared.changes.Change.{Change}

-- who has each leaf, by rising leaf, if anybody has it
abbrev pub Holders : Type 0
Holders = List (Option Name)

-- before the first batch nobody has one
abbrev pub no_holders : ℕ → Holders
no_holders depth = replicate (2 ^ depth) None

-- whether a leaf with this holder is that of m
abbrev pub is_held_by : Name → Option Name → Bool
is_held_by m None = false
is_held_by m (Some holder) = same_name m holder

-- whether m is a member: it has a leaf
abbrev pub is_member : Holders → Name → Bool
is_member holders m = list_any (is_held_by m) holders

-- how many members there are
abbrev pub member_count : Holders → ℕ
member_count holders = count_by is_some holders

-- the leaf that m has; the lowest leaf is 2^depth
abbrev pub place_in : ℕ → Holders → Name → Option ℕ
place_in depth holders m = option_map (λ i. 2 ^ depth + i) (position (is_held_by m) holders)

-- who has a leaf, if anybody has it; nobody has a position that is no leaf
abbrev pub member_at : ℕ → Holders → ℕ → Option Name
member_at depth holders leaf = if nat_lt leaf (2 ^ depth) then None else slice_index_or holders (leaf - 2 ^ depth) None

-- m loses its leaf
abbrev pub vacated : Holders → Name → Holders
vacated holders m = map (λ holder. if is_held_by m holder then None else holder) holders

-- m gets the lowest leaf that nobody has; where each is taken, nothing changes
abbrev pub placed : Holders → Name → Holders
placed holders m = slice_set holders (position_or_len is_none holders) (Some m)

-- those who go out free their leaves before anybody comes in; the others come in one after the other, each at the first free leaf
unfoldable pub holders_after : Holders → List Change → Holders
holders_after holders batch = fold placed (fold vacated holders (leavers batch)) (joiners batch)

-- after all batches of a list
abbrev pub holders_of : ℕ → List (List Change) → Holders
holders_of depth batches = fold holders_after (no_holders depth) batches

-- at an epoch of the list: the batch at place e of it, counted from 1, makes epoch e
abbrev pub holders_at : ℕ → List (List Change) → ℕ → Holders
holders_at depth batches epoch = holders_of depth (take epoch batches)

-- whether no name comes twice
abbrev pub names_once : List Name → Bool
names_once [] = true
names_once (m ∷ ms) = not (list_any (same_name m) ms) && names_once ms

-- The tree can take the batch: members go out, strangers come in, a name is in one change at most, and everybody who is then
-- a member has a leaf.
pub record Fits (holders : Holders) (batch : List Change) : Type 0 where
  pub from_members : list_all (is_member holders) (leavers batch) ≡ true
  pub from_strangers : list_any (is_member holders) (joiners batch) ≡ false
  pub once : names_once (map member_of batch) ≡ true
  pub room : member_count holders + length (joiners batch) ≤ length holders + length (leavers batch)

-- the history of a tree: no batch is one that its tree could not take
abbrev pub FitInTurn : Holders → List (List Change) → Type 0
FitInTurn holders [] = Unit {0}
FitInTurn holders (batch ∷ batches) = Fits holders batch × FitInTurn (holders_after holders batch) batches

-- a valid list of batches
abbrev pub IsValid : ℕ → List (List Change) → Type 0
IsValid depth batches = FitInTurn (no_holders depth) batches
