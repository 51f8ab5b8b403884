-- What a tree keeps at an epoch.
use Rattle.std.specs.Prelude.{◌≡◌, ℕ, ◌+◌, ◌-◌, ◌*◌, ◌^◌, ◌==◌, Bool, false, List, [], ◌∷◌, ◌++◌, length, map, slice_index_or, Option, None, Some, if◌then◌else◌}
use Rattle.std.specs.List.{range_with_len, flat_map, list_any}
use Rattle.std.specs.Option.{unwrap_or}
use Rattle.group_terms.specs.declared.changes.Change.{Change}
use Rattle.group_terms.specs.declared.keys.KeyName.TheVariants.{Node, Traffic}
use Rattle.group_terms.specs.declared.keys.Wrap.{Wrap}
use Rattle.group_model.specs.declared.trees.Tree.{Tree}
use Rattle.group_model.specs.Places.{Holders, holders_at}
use Rattle.group_model.specs.LastChanges.{changes_at}
use Rattle.group_model.specs.Wraps.{falling}
use Rattle.tree_leaves.specs.Unchanged.{unchanged_holders}
use Rattle.group_terms.specs.Positions.{some_leaf_below}

-- the tree is that of an epoch of the list
pub record StandsAt (depth : ℕ) (batches : List (List Change)) (epoch : ℕ) (tree : Tree) : Type 0 where
  pub holders : tree.holders ≡ holders_at depth batches epoch
  pub made : tree.made ≡ changes_at depth batches epoch

-- it has a holder for each leaf, and a last change for each number up to that of the last leaf
pub record HasShape (depth : ℕ) (tree : Tree) : Type 0 where
  pub leaves : length tree.holders ≡ 2 ^ depth
  pub positions : length tree.made ≡ 2 ^ (depth + 1)

-- whether a last change was in this epoch
abbrev pub is_made_in : ℕ → Option ℕ → Bool
is_made_in epoch None = false
is_made_in epoch (Some made) = made == epoch

module _ (epoch : ℕ) (made : List (Option ℕ)) (marks : List Bool) where
  -- the new key of v under the one that its child has, where the child is marked
  abbrev pub child_wrap : ℕ → ℕ → List Wrap
  child_wrap v child =
      if slice_index_or marks child false
      then record { by = Node child (unwrap_or (slice_index_or made child None) 0); gives = Node v epoch } ∷ []
      else []

  abbrev pub child_wraps : ℕ → List Wrap
  child_wraps v = child_wrap v (2 * v) ++ child_wrap v (2 * v + 1)

  -- those of the positions from n down that were made in this epoch
  abbrev pub wraps_down : ℕ → List Wrap
  wraps_down n = flat_map (λ v. if is_made_in epoch (slice_index_or made v None) then child_wraps v else []) (falling n)

-- The encryptions between the tree before a batch and the one after it, where the leaves at which somebody stayed are those
-- whose holder did not change.
abbrev pub wraps_between : ℕ → Holders → Tree → ℕ → List Wrap
wraps_between depth before after epoch =
    let kept = unchanged_holders before after.holders in
    if list_any (λ passes. passes) kept
    then wraps_down epoch after.made (map (some_leaf_below depth kept) (range_with_len 0 (2 ^ (depth + 1)))) (2 ^ depth - 1)
    ++ record { by = Node 1 epoch; gives = Traffic epoch } ∷ []
    else []
