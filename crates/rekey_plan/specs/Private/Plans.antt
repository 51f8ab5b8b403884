-- What a batch encrypts that was marked in a tree.
use Rattle.std.specs.Prelude.{ℕ, ◌+◌, ◌*◌, ◌^◌, nat_lt, List, [], ◌∷◌, ◌++◌, slice_index_or, Option, None, if◌then◌else◌}
use Rattle.std.specs.Option.{unwrap_or}
use Rattle.group_terms.specs.declared.keys.KeyName.{KeyName}
use Rattle.group_terms.specs.declared.keys.KeyName.TheVariants.{Node, Traffic}
use Rattle.group_terms.specs.declared.keys.Wrap.{Wrap}
use Rattle.key_tree.specs.declared.marks.Marked.{Marked}
use Rattle.key_tree.specs.Present.{Present}
use Rattle.key_tree.specs.Marks.{holders_then, ids_renewed, installed, is_stayed_below}

-- the key of a position with these last changes
abbrev pub key_in : List (Option ℕ) → ℕ → KeyName
key_in changes v = Node v (unwrap_or (slice_index_or changes v None) 0)

module _ (tree : Present) (marked : Marked) where
  -- the new key of v under the one that its child has then
  abbrev pub new_wrap : ℕ → ℕ → Wrap
  new_wrap v child = record { by = key_in (installed tree marked).changes child; gives = Node v marked.epoch }

  -- where somebody stayed below the child
  abbrev pub child_wrap : ℕ → ℕ → List Wrap
  child_wrap v child = if is_stayed_below tree.depth tree.holders (holders_then tree marked) child then new_wrap v child ∷ [] else []

  -- those of an inner position, and none of a leaf
  abbrev pub inner_wraps : ℕ → List Wrap
  inner_wraps v = if nat_lt v (2 ^ tree.depth) then child_wrap v (2 * v) ++ child_wrap v (2 * v + 1) else []

  -- those of a list of positions from its end
  abbrev pub wraps_up : List ℕ → List Wrap
  wraps_up [] = []
  wraps_up (v ∷ vs) = wraps_up vs ++ inner_wraps v

  -- and last the traffic key under the root; none where nobody stayed
  abbrev pub marked_wraps : List Wrap
  marked_wraps =
      if marked.stayed
      then wraps_up (ids_renewed marked.renewed) ++ record { by = Node 1 marked.epoch; gives = Traffic marked.epoch } ∷ []
      else []
