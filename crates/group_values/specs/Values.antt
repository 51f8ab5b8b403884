-- The values of the keys of a group.
use Rattle.std.specs.Prelude.{◌≡◌, ◌<◌, ⊤, ℕ, zero, suc, ◌==◌, List, [], ◌∷◌, length, Option, None, Some, map, slice_get, option_and_then, if◌then◌else◌}
use Rattle.std.specs.List.{All, flat_map, fold}
use Rattle.std.specs.Option.{option_map}
use Rattle.group_terms.specs.declared.changes.Change.{Change}
use Rattle.group_terms.specs.declared.paths.PathKey.{PathKey}
use Rattle.group_terms.specs.declared.values.BatchValues.{BatchValues}
use Rattle.group_terms.specs.declared.values.Drawn.{Drawn}
use Rattle.group_terms.specs.declared.values.NodeValue.{NodeValue}
use Rattle.group_terms.specs.declared.values.TrafficValue.{TrafficValue}

-- a batch that made an epoch, and the values of the keys that it made
pub record Made : Type 0 where
  pub changes : List Change
  pub values : BatchValues

-- the changes of such batches
abbrev pub batches_made : List Made → List (List Change)
batches_made list = map (λ made. made.changes) list

-- the batch that made an epoch; no batch made epoch 0
abbrev pub made_at : List Made → ℕ → Option Made
made_at list zero = None
made_at list (suc epoch) = slice_get list epoch

-- a value that is drawn takes the place of the one before it
abbrev pub after_draw : ℕ → Option NodeValue → Drawn → Option NodeValue
after_draw v now node = if node.id == v then Some node.value else now

-- the value of a position among those of a batch, if it has one
abbrev pub value_of : List Drawn → ℕ → Option NodeValue
value_of nodes v = fold (after_draw v) None nodes

-- the value of the key that v got in an epoch
abbrev pub node_value : List Made → ℕ → ℕ → Option NodeValue
node_value list v epoch = option_and_then (λ (made : Made). value_of made.values.nodes v) (made_at list epoch)

-- the value of the traffic key of an epoch
abbrev pub traffic_value : List Made → ℕ → Option TrafficValue
traffic_value list epoch = option_map (λ (made : Made). made.values.traffic) (made_at list epoch)

-- a key has the value that its batch made
abbrev pub HasValue : List Made → PathKey → Type 0
HasValue list key = node_value list key.id key.made ≡ Some key.value

-- all values that were drawn for positions, batch after batch
abbrev pub all_drawn : List Made → List Drawn
all_drawn list = flat_map (λ (made : Made). made.values.nodes) list

-- the value that was drawn last for a position, if one was
abbrev pub last_value : List Made → ℕ → Option NodeValue
last_value list v = value_of (all_drawn list) v

-- what contracts see of the values that are kept: those of positions by their numbers, and that of the traffic
pub record Kept : Type 0 where
  pub nodes : List NodeValue
  pub traffic : Option TrafficValue

-- of each position below a number the last value is kept, and that of the last traffic key
pub record KeepsLast (kept : Kept) (list : List Made) : Type 0 where
  pub nodes : (v : ℕ) → v < length kept.nodes → (value : NodeValue) → last_value list v ≡ Some value → slice_get kept.nodes v ≡ Some value
  pub traffic : kept.traffic ≡ traffic_value list (length list)

-- the positions whose values a batch has
abbrev pub ids_of : List Drawn → List ℕ
ids_of nodes = map (λ (node : Drawn). node.id) nodes

-- each number is greater than all before it
abbrev pub Rises : List ℕ → Type 0
Rises [] = ⊤
Rises (v ∷ vs) = All (λ w. v < w) vs × Rises vs
