-- What a batch makes of the key tree, found out before it is installed.
use Rattle.std.specs.Prelude.{◌≡◌, ℕ, ◌+◌, ◌-◌, ◌*◌, ◌^◌, ◌<◌, ◌≤◌, Bool, List, [], ◌∷◌, ◌++◌, length, map, Some, slice_set, if◌then◌else◌}
use Rattle.std.specs.List.{All, filter, fold, list_any, range_with_len}
use Rattle.group_terms.specs.Changes.{joiners}
use Rattle.group_terms.specs.Positions.{some_leaf_below, marks_of}
use Rattle.group_terms.specs.declared.changes.Change.{Change}
use Rattle.key_tree.specs.declared.marks.Seat.{Seat}
use Rattle.key_tree.specs.declared.marks.Marked.{Marked}
use Rattle.key_tree.specs.declared.marks.Renewed.{Renewed}
use Rattle.group_model.specs.Drawn.{drawn_at, is_drawn, is_held_below}
use Rattle.group_model.specs.Fresh.{changed_leaves, is_fresh}
use Rattle.group_model.specs.LastChanges.{renewed}
use Rattle.group_model.specs.Places.{Holders, holders_at, holders_of, member_count, place_in}
use Rattle.group_model.specs.Stayed.{stayed_at}
use Rattle.key_tree.specs.Present.{Present, StandsFor, IsTreeAfter}
use Rattle.tree_leaves.specs.Unchanged.{unchanged_holders}

-- who has which leaf after these changed hands
abbrev pub seated : Holders → List Seat → Holders
seated holders seats = fold (λ now (seat : Seat). slice_set now seat.place seat.holder) holders seats

module _ (depth : ℕ) (before after : Holders) where
  -- whether somebody has a leaf at a position or below it who had it before
  abbrev pub is_stayed_below : ℕ → Bool
  is_stayed_below v = some_leaf_below depth (unchanged_holders before after) v

  -- what is found out about a position that a batch renews
  abbrev pub renewal : ℕ → Renewed
  renewal v = record { id = v; held = is_held_below depth after v; stayed = is_stayed_below v }

  -- the positions that a batch renews, by rising position
  abbrev pub fresh_between : List ℕ
  fresh_between = filter (is_fresh depth before after) (range_with_len 1 (2 ^ (depth + 1) - 1))

  -- of these the root and each below which a member stands then
  abbrev pub drawn_between : List ℕ
  drawn_between = filter (is_drawn depth before after) (range_with_len 1 (2 ^ (depth + 1) - 1))

-- the positions that were found to be renewed
abbrev pub ids_renewed : List Renewed → List ℕ
ids_renewed list = map (λ (found : Renewed). found.id) list

module _ (tree : Present) (marked : Marked) where
  -- who has which leaf once the batch is in
  abbrev pub holders_then : Holders
  holders_then = seated tree.holders marked.seats

  -- A batch was marked in this tree as it is.
  pub record IsReady : Type 0 where
    pub epoch : marked.epoch ≡ tree.epoch + 1
    pub sequence : marked.sequence ≡ tree.sequence + (if marked.stayed then 2 else 0)
    pub within : All (λ (seat : Seat). seat.place < length tree.holders) marked.seats
    pub members : marked.members ≡ member_count holders_then
    pub stayed : marked.stayed ≡ list_any (λ mark. mark) (unchanged_holders tree.holders holders_then)
    pub renewed : marked.renewed ≡ map (renewal tree.depth tree.holders holders_then) (fresh_between tree.depth tree.holders holders_then)
    pub drawn : marked.drawn ≡ drawn_between tree.depth tree.holders holders_then

  -- the tree once it is in, with the values from before
  abbrev pub installed : Present
  installed = record {
    depth = tree.depth;
    epoch = marked.epoch;
    sequence = marked.sequence;
    holders = holders_then;
    changes = renewed marked.epoch tree.changes (marks_of tree.depth (changed_leaves tree.holders holders_then));
    kept = tree.kept;
  }

-- the positions that the batch of an epoch renews, by rising position
abbrev pub fresh_at : ℕ → List (List Change) → ℕ → List ℕ
fresh_at depth batches epoch = fresh_between depth (holders_at depth batches (epoch - 1)) (holders_at depth batches epoch)

-- Whatever list the tree stands for, the marks are those of this batch, and no epoch and no number of a push is past the limit. They say whether somebody
-- stayed, which positions the batch renews, for which it draws values, and which leaf each joiner has. At most a path for each change, and the root, is
-- renewed.
pub record IsMarkedFor (tree : Present) (batch : List Change) (limit : ℕ) (marked : Marked) : Type 0 where
  pub ready : IsReady tree marked
  pub next : IsTreeAfter tree batch limit (Some (installed tree marked))
  pub stayed : (batches : List (List Change)) → StandsFor tree batches → marked.stayed ≡ stayed_at tree.depth (batches ++ batch ∷ []) marked.epoch
  pub fresh : (batches : List (List Change)) → StandsFor tree batches
      → ids_renewed marked.renewed ≡ fresh_at tree.depth (batches ++ batch ∷ []) marked.epoch
  pub drawn : (batches : List (List Change)) → StandsFor tree batches → marked.drawn ≡ drawn_at tree.depth (batches ++ batch ∷ []) marked.epoch
  pub joined : (batches : List (List Change)) → StandsFor tree batches
      → map Some marked.joined ≡ map (place_in tree.depth (holders_of tree.depth (batches ++ batch ∷ []))) (joiners batch)
  pub few : length marked.renewed ≤ (tree.depth + 1) * length batch + 1
