-- What a store at the root of an epoch has: the keys of its way, that of the root among them, with their values.
use Rattle.std.proofs.Common.{◌≡◌, ◌∙◌, ap, arith, refl, subst, sym, ℕ, zero, suc, ◌-◌, ◌/◌, ◌<◌, ◌≤◌, List, [], ◌∷◌, length, map, Option, None, Some}
use Rattle.std.specs.Prelude.{option_and_then}
use Rattle.std.specs.List.{All}
use Rattle.std.specs.Option.{option_map, unwrap_or}
use Rattle.std.proofs.lemmas.Bool.{false≢true}
use Rattle.std.proofs.lemmas.List.Elements.{All-head}
use Rattle.std.proofs.lemmas.Option.{none-some}
use Rattle.group_terms.specs.Names.{Name}
use Rattle.group_terms.specs.Positions.{halved}
use Rattle.group_terms.specs.declared.changes.Change.{Change}
use Rattle.group_terms.specs.declared.keys.KeyName.TheVariants.{Node}
use Rattle.group_terms.specs.declared.paths.PathKey.{PathKey}
use Rattle.group_terms.specs.declared.values.NodeValue.{NodeValue}
use Rattle.group_values.specs.Values.{HasValue, Made, batches_made, made_at, node_value, value_of}
use Rattle.group_model.specs.Fresh.{node_name, upwards}
use Rattle.law_key_ways.specs.Laws.{Laws}
use Rattle.member_store.specs.Steps.{kek_of}
use Rattle.member_store.specs.Stores.{Store, leaf_of, no_key, root_epoch, root_of}
use Rattle.law_member_roots.specs.Roots.{IsAtRoot}
use Rattle.law_member_roots.proofs.ReplyLemmas.{is_empty}
use Rattle.law_member_roots.proofs.RootKeyLemmas.{id_of, made_of, name_of, path_length, root_name}
use Rattle.law_member_roots.proofs.TakenLemmas.{made_low}
use Rattle.law_member_roots.proofs.TakenLemmas as taken
use Rattle.law_member_roots.proofs.WayLemmas.{first_made}

-- a batch that made an epoch is one of the list
made_early : (list : List Made) (epoch : ℕ) (made : Made) → made_at list epoch ≡ Some made → epoch ≤ length list
made_early list zero made is = omega arith
made_early [] (suc epoch) made is = absurd (none-some made is)
made_early (first ∷ list) (suc zero) made is = omega arith
made_early (first ∷ list) (suc (suc epoch)) made is = omega (arith, made_early list (suc epoch) made is)

early_by : (list : List Made) (v epoch : ℕ) (value : NodeValue) (found : Option Made) → made_at list epoch ≡ found
    → option_and_then (λ (made : Made). value_of made.values.nodes v) found ≡ Some value → epoch ≤ length list
early_by list v epoch value None found is = absurd (none-some value is)
early_by list v epoch value (Some made) found is = made_early list epoch made found

pub value_early : (list : List Made) (v epoch : ℕ) (value : NodeValue) → node_value list v epoch ≡ Some value → epoch ≤ length list
value_early list v epoch value is = early_by list v epoch value (made_at list epoch) refl is

-- no key was made in epoch 0
no_first : (list : List Made) (key : PathKey) → key.made ≡ 0 → HasValue list key → ⊥
no_first list key first has = none-some key.value (subst (λ made. node_value list key.id made ≡ Some key.value) first has)

module _ (ways : Laws) (depth epoch : ℕ) (rekey : List ℕ) (list : List Made) (m : Name) (store : Store)
    (is : IsAtRoot depth rekey list epoch m store) where
  abbrev batches : List (List Change)
  batches = batches_made list

  abbrev pub leaf : ℕ
  leaf = leaf_of store.path

  pub names : map name_of store.path ≡ map (node_name depth batches epoch) (upwards depth leaf)
  names = is.names ∙ ap (λ found. unwrap_or (option_map (λ leaf. map (node_name depth batches epoch) (upwards depth leaf)) found) []) is.leaf

  pub top : halved depth leaf ≡ 1
  top =
      let bounds = ways.leaves depth epoch leaf batches m is.leaf in
      ways.at_root depth leaf bounds.0 bounds.1

  some_key : (epoch steps v : ℕ) (path : List PathKey) → map name_of path ≡ map (node_name depth batches epoch) (upwards steps v) → All (HasValue list) path
      → 0 < epoch
  some_key (suc epoch) steps v path names values = omega arith
  some_key zero zero v [] names values = absurd (false≢true (sym (ap is_empty names)))
  some_key zero (suc steps) v [] names values = absurd (false≢true (sym (ap is_empty names)))
  some_key zero zero v (key ∷ path) names values =
      absurd (no_first list key (let low = made_low depth batches 0 v in omega (arith, low, first_made (taken.made_at depth batches 0) v [] key path names))
      (All-head (HasValue list) key path values))
  some_key zero (suc steps) v (key ∷ path) names values =
      absurd (no_first list key (let low = made_low depth batches 0 v in
      omega (arith, low, first_made (taken.made_at depth batches 0) v (upwards steps (v / 2)) key path names))
      (All-head (HasValue list) key path values))

  pub positive : 0 < epoch
  positive = some_key epoch depth leaf store.path names is.values

  root_is : name_of (root_of store.path) ≡ Node 1 epoch
  root_is = root_name depth batches epoch leaf store.path names positive top

  -- the epoch of its root's key
  pub epoch_is : root_epoch store ≡ epoch
  epoch_is = ap made_of root_is

  long : length store.path - 1 < length store.path
  long = omega (arith, path_length depth batches epoch leaf store.path names)

  -- the key under which pushes come
  pub kek_is : node_value list 1 epoch ≡ Some (kek_of store)
  kek_is =
      (λ i. node_value list (ap id_of (sym root_is) i) (ap made_of (sym root_is) i)) ∙ is.values (length store.path - 1) no_key long

  pub early : epoch ≤ length list
  early = value_early list 1 epoch (kek_of store) kek_is
