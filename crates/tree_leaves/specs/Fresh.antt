-- Which positions of the tree get a new key at an epoch, and which key a position has (RFC 2627 section 5.4: each key on the
-- way from a changed leaf to the root is replaced).
use Rattle.std.specs.Prelude.{ℕ, zero, suc, ◌/◌, ◌==◌, ◌||◌, Bool, not, List, [], ◌∷◌, map, Option, None, Some, is_none, if◌then◌else◌}
use Rattle.std.specs.List.{zip}
use Rattle.std.specs.Option.{option_map, unwrap_or}
use Rattle.group_terms.specs.Names.{Name}
use Rattle.group_terms.specs.Positions.{some_leaf_below}
use Rattle.group_terms.specs.declared.changes.Change.{Change}
use Rattle.group_terms.specs.declared.keys.KeyName.{KeyName}
use Rattle.group_terms.specs.declared.keys.KeyName.TheVariants.{Node}
use Rattle.tree_leaves.specs.Places.{Holders, is_held_by, holders_at, place_in}

-- whether a leaf has the same holder before and after, or none both times
abbrev pub is_same_holder : Option Name → Option Name → Bool
is_same_holder before None = is_none before
is_same_holder before (Some holder) = is_held_by holder before

-- for each leaf, whether the batch took a member from it or gave one to it. Since a batch names nobody twice, that is where who
-- has it is another than before.
abbrev pub changed_leaves : Holders → Holders → List Bool
changed_leaves before after = map (λ holder. not (is_same_holder holder.0 holder.1)) (zip before after)

-- the root is fresh in every batch, and so is each position at or above a changed leaf
abbrev pub is_fresh : ℕ → Holders → Holders → ℕ → Bool
is_fresh depth before after v = v == 1 || some_leaf_below depth (changed_leaves before after) v

-- the greatest epoch up to this one at which v was fresh, where there is one
unfoldable pub last_change : ℕ → List (List Change) → ℕ → ℕ → Option ℕ
last_change depth batches zero v = None
last_change depth batches (suc epoch) v =
    if is_fresh depth (holders_at depth batches epoch) (holders_at depth batches (suc epoch)) v
    then Some (suc epoch)
    else last_change depth batches epoch v

-- the name of the key that v has at an epoch, where somebody was ever below it
abbrev pub node_name : ℕ → List (List Change) → ℕ → ℕ → KeyName
node_name depth batches epoch v = Node v (unwrap_or (last_change depth batches epoch v) 0)

-- v and the positions above it, so many steps up
abbrev pub upwards : ℕ → ℕ → List ℕ
upwards zero v = v ∷ []
upwards (suc steps) v = v ∷ upwards steps (v / 2)

-- the keys that a member of an epoch has, from its leaf up to the root (the key set of Wong, Gouda and Lam)
abbrev pub key_path : ℕ → List (List Change) → ℕ → Name → List KeyName
key_path depth batches epoch m =
    unwrap_or (option_map (λ leaf. map (node_name depth batches epoch) (upwards depth leaf)) (place_in depth (holders_at depth batches epoch) m)) []
