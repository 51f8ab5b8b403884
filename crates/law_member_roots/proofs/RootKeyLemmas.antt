-- The root's key of a store at the root of an epoch.
use Rattle.std.proofs.Common.{◌≡◌, ◌∙◌, ap, arith, refl, sym, ℕ, zero, suc, ◌-◌, ◌/◌, ◌<◌, List, get_or, length, map, Some}
use Rattle.std.specs.Option.{unwrap_or}
use Rattle.std.proofs.lemmas.List.{get_or-map, length-map}
use Rattle.group_terms.specs.Positions.{halved}
use Rattle.group_terms.specs.declared.changes.Change.{Change}
use Rattle.group_terms.specs.declared.keys.KeyName.{KeyName}
use Rattle.group_terms.specs.declared.keys.KeyName.TheVariants.{Node, Phase, Traffic}
use Rattle.group_terms.specs.declared.paths.PathKey.{PathKey}
use Rattle.group_model.specs.Fresh.{last_change, node_name, upwards}
use Rattle.member_store.specs.Stores.{no_key, root_of}

-- the positions above a leaf, up to the root
pub length-upwards : (depth leaf : ℕ) → length (upwards depth leaf) ≡ suc depth
length-upwards zero leaf = refl
length-upwards (suc depth) leaf = ap suc (length-upwards depth (leaf / 2))

pub last-upwards : (depth leaf other : ℕ) → get_or (upwards depth leaf) depth other ≡ halved depth leaf
last-upwards zero leaf other = refl
last-upwards (suc depth) leaf other = last-upwards depth (leaf / 2) other

-- the root is fresh at each epoch
pub root_change : (depth : ℕ) (batches : List (List Change)) (epoch : ℕ) → 0 < epoch → last_change depth batches epoch 1 ≡ Some epoch
unfolding last_change
root_change depth batches zero some = absurd (omega (arith, some))
root_change depth batches (suc epoch) some = refl

abbrev pub id_of : KeyName → ℕ
id_of (Node id made) = id
id_of (Traffic made) = 0
id_of (Phase member) = 0

abbrev pub made_of : KeyName → ℕ
made_of (Node id made) = made
made_of (Traffic made) = made
made_of (Phase member) = 0

abbrev pub name_of : PathKey → KeyName
name_of key = Node key.id key.made

-- a path with the keys of a member at an epoch ends with that of the root, which this epoch made
module _ (depth : ℕ) (batches : List (List Change)) (epoch leaf : ℕ) (path : List PathKey)
    (names : map name_of path ≡ map (node_name depth batches epoch) (upwards depth leaf)) where
  pub path_length : length path ≡ suc depth
  path_length =
      sym (length-map path name_of) ∙ ap length names ∙ length-map (upwards depth leaf) (node_name depth batches epoch) ∙ length-upwards depth leaf

  last_name : name_of (get_or path depth no_key) ≡ node_name depth batches epoch (halved depth leaf)
  last_name =
      sym (get_or-map name_of path depth no_key (Node 0 0) (omega (arith, path_length)))
      ∙ ap (λ names. get_or names depth (Node 0 0)) names
      ∙ get_or-map (node_name depth batches epoch) (upwards depth leaf) depth 0 (Node 0 0) (omega (arith, length-upwards depth leaf))
      ∙ ap (node_name depth batches epoch) (last-upwards depth leaf 0)

  pub root_name : 0 < epoch → halved depth leaf ≡ 1 → name_of (root_of path) ≡ Node 1 epoch
  root_name some top =
      let place : length path - 1 ≡ depth = omega (arith, path_length) in
      ap (λ n. name_of (get_or path n no_key)) place ∙ last_name ∙ ap (node_name depth batches epoch) top
      ∙ ap (λ change. Node 1 (unwrap_or change 0)) (root_change depth batches epoch some)
