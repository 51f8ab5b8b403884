-- Keys by their numbers.
use Rattle.std.specs.Prelude.{◌≡◌, ℕ, ◌<◌, List, [], ◌++◌, map, length, All, Contains, slice_index_or}
use Rattle.std.specs.List.{flat_map, range_with_len}
use Rattle.group_terms.specs.declared.keys.KeyName.{KeyName}
use Rattle.group_terms.specs.declared.keys.KeyName.TheVariants.{Traffic}
use Rattle.group_terms.specs.declared.keys.Wrap.{Wrap}
use Rattle.group_model.specs.Derivations.{AreAtHand, IsDerivation}
use Rattle.sym_closure.specs.Firsts.{HasSame}
use Rattle.sym_closure.specs.Private.Closed.{IsClosed}
use Rattle.sym_closure.specs.Private.Marks.{Marked}

-- keys, each with its place as its number, and under each the numbers of the keys that it gives
pub record Graph : Type 0 where
  pub keys : List KeyName
  pub given : List (List ℕ)

-- the key with a number
abbrev pub key_at : List KeyName → ℕ → KeyName
key_at keys number = slice_index_or keys number (Traffic 0)

-- the keys with some numbers
abbrev pub keys_at : List KeyName → List ℕ → List KeyName
keys_at keys numbers = map (key_at keys) numbers

-- the numbers of the keys that a key gives
abbrev pub given_by : Graph → ℕ → List ℕ
given_by graph number = slice_index_or graph.given number []

-- the pair of the keys with two numbers
abbrev pub pair_at : List KeyName → ℕ → ℕ → Wrap
pair_at keys by gives = record { by = key_at keys by; gives = key_at keys gives }

-- the pairs of a graph
abbrev pub pairs_of : Graph → List Wrap
pairs_of graph = flat_map (λ by. map (pair_at graph.keys by) (given_by graph by)) (range_with_len 0 (length graph.given))

-- a key has this number
abbrev pub IsNumberOf : Graph → KeyName → ℕ → Type 0
IsNumberOf graph key number = (number < length graph.keys) × (key_at graph.keys number ≡ key)

-- no key has two numbers, and what is given are numbers of keys
pub record IsGraph (graph : Graph) : Type 0 where
  pub once : (one other : ℕ) → one < length graph.keys → other < length graph.keys
      → key_at graph.keys one ≡ key_at graph.keys other → one ≡ other
  pub sized : length graph.given ≡ length graph.keys
  pub within : (by gives : ℕ) → Contains (given_by graph by) gives → gives < length graph.keys

-- a graph has more keys, and its pairs as before
pub record AddsKeys (old new : Graph) : Type 0 where
  pub keys : (more : List KeyName) × (new.keys ≡ old.keys ++ more)
  pub pairs : HasSame (pairs_of old) (pairs_of new)

-- all numbers that were reached have keys, and all keys have marks
pub record IsWithin (graph : Graph) (reached : Marked) : Type 0 where
  pub bound : reached.bound ≡ length graph.keys
  pub below : All (λ number. number < length graph.keys) reached.order

-- each of these keys that has a number was reached
abbrev pub AreReached : Graph → List KeyName → List ℕ → Type 0
AreReached graph keys order = (key : KeyName) → Contains keys key → Contains graph.keys key → Contains (keys_at graph.keys order) key

-- keys that follow from others, in an order in which they do
abbrev pub FollowFrom : Graph → List ℕ → List ℕ → Type 0
FollowFrom graph order more = AreAtHand [] (pairs_of graph) (keys_at graph.keys order) (keys_at graph.keys more)

-- each number was reached that is given under one of these
abbrev pub IsComplete : Graph → List ℕ → Type 0
IsComplete graph order = (by gives : ℕ) → Contains order by → Contains (given_by graph by) gives → Contains order gives

-- the keys with these numbers are all that follow from keys that are held; a key that is held and has no number gives none
pub record IsClosure (graph : Graph) (have : List KeyName) (order : List ℕ) : Type 0 where
  pub derivation : IsDerivation have (pairs_of graph) (keys_at graph.keys order)
  pub held : AreReached graph have order
  pub closed : IsClosed (pairs_of graph) (keys_at graph.keys order ++ have)

-- a pair the other way round
abbrev pub turned : Wrap → Wrap
turned pair = record { by = pair.gives; gives = pair.by }
