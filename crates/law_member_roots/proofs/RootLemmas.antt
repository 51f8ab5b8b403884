-- A root stays where it is while batches come.
use Rattle.std.proofs.Common.{◌≡◌, ◌∙◌, ap, refl, subst, sym, ℕ, zero, suc, ◌≤◌, List, [], ◌∷◌, ◌++◌, length, map, Option, None, Some}
use Rattle.std.specs.Prelude.{option_and_then}
use Rattle.std.specs.List.{All}
use Rattle.std.specs.Option.{option_map, unwrap_or}
use Rattle.std.proofs.Math.Seq.{take-append_seam}
use Rattle.std.proofs.lemmas.List.{length-map, map-append}
use Rattle.std.proofs.lemmas.List.Elements.{All-weaker}
use Rattle.std.proofs.lemmas.Option.{none-some}
use Rattle.group_terms.specs.Names.{Name}
use Rattle.group_terms.specs.declared.changes.Change.{Change}
use Rattle.group_terms.specs.declared.keys.KeyName.TheVariants.{Node}
use Rattle.group_terms.specs.declared.paths.PathKey.{PathKey}
use Rattle.group_terms.specs.declared.values.NodeValue.{NodeValue}
use Rattle.group_terms.specs.declared.values.TrafficValue.{TrafficValue}
use Rattle.group_values.specs.Values.{HasValue, Made, batches_made, made_at, node_value, traffic_value, value_of}
use Rattle.group_model.specs.Fresh.{key_path, last_change, upwards}
use Rattle.group_model.specs.Laws.{HoldersStay, LastChangesStay}
use Rattle.group_model.specs.Places.{holders_at, place_in}
use Rattle.law_member_roots.specs.Roots.{HasTrafficOf, IsAtRoot}
use Rattle.member_store.specs.Stores.{Store, leaf_of}

-- ---- the batch of an epoch, with later ones

pub made_at-more : (list later : List Made) (epoch : ℕ) (made : Made) → made_at list epoch ≡ Some made → made_at (list ++ later) epoch ≡ Some made
made_at-more list later zero made is = absurd (none-some made is)
made_at-more [] later (suc epoch) made is = absurd (none-some made is)
made_at-more (first ∷ list) later (suc zero) made is = is
made_at-more (first ∷ list) later (suc (suc epoch)) made is = made_at-more list later (suc epoch) made is

traffic_by : (list later : List Made) (epoch : ℕ) (traffic : TrafficValue) (found : Option Made) → made_at list epoch ≡ found
    → option_map (λ (made : Made). made.values.traffic) found ≡ Some traffic → traffic_value (list ++ later) epoch ≡ Some traffic
traffic_by list later epoch traffic None found is = absurd (none-some traffic is)
traffic_by list later epoch traffic (Some made) found is =
    ap (option_map (λ (made : Made). made.values.traffic)) (made_at-more list later epoch made found) ∙ is

pub traffic-more : (list later : List Made) (epoch : ℕ) (store : Store) → HasTrafficOf list epoch store → HasTrafficOf (list ++ later) epoch store
traffic-more list later epoch store has = record {
  traffic_epoch = has.traffic_epoch;
  traffic = traffic_by list later epoch store.traffic _ refl has.traffic;
}

value_by : (list later : List Made) (v epoch : ℕ) (value : NodeValue) (found : Option Made) → made_at list epoch ≡ found
    → option_and_then (λ (made : Made). value_of made.values.nodes v) found ≡ Some value → node_value (list ++ later) v epoch ≡ Some value
value_by list later v epoch value None found is = absurd (none-some value is)
value_by list later v epoch value (Some made) found is =
    ap (option_and_then (λ (made : Made). value_of made.values.nodes v)) (made_at-more list later epoch made found) ∙ is

pub value-more : (list later : List Made) (key : PathKey) → HasValue list key → HasValue (list ++ later) key
value-more list later key has = value_by list later key.id key.made key.value _ refl has

pub values-more : (list later : List Made) (path : List PathKey) → All (HasValue list) path → All (HasValue (list ++ later)) path
values-more list later path all = All-weaker (HasValue list) (HasValue (list ++ later)) (value-more list later) path all

-- ---- the holders and the last changes of an epoch

module _ (depth epoch : ℕ) (batches other : List (List Change)) (m : Name)
    (holders : holders_at depth batches epoch ≡ holders_at depth other epoch)
    (last : (v : ℕ) → last_change depth batches epoch v ≡ last_change depth other epoch v) where
  pub same_path : key_path depth batches epoch m ≡ key_path depth other epoch m
  same_path = λ i.
      unwrap_or (option_map (λ leaf. map (λ v. Node v (unwrap_or (last v i) 0)) (upwards depth leaf)) (place_in depth (holders i) m)) []

module _ (holders_stay : HoldersStay) (changes_stay : LastChangesStay) (depth epoch : ℕ) (batches later : List (List Change)) (early : epoch ≤ length batches) where
  pub holders-more : holders_at depth batches epoch ≡ holders_at depth (batches ++ later) epoch
  holders-more =
      subst (λ front. holders_at depth front epoch ≡ holders_at depth (batches ++ later) epoch) (take-append_seam batches later)
      (holders_stay depth (length batches) epoch (batches ++ later) early)

  pub last_change-more : (v : ℕ) → last_change depth batches epoch v ≡ last_change depth (batches ++ later) epoch v
  last_change-more v =
      subst (λ front. last_change depth front epoch v ≡ last_change depth (batches ++ later) epoch v) (take-append_seam batches later)
      (changes_stay depth (length batches) epoch v (batches ++ later) early)

-- ---- a root

module _ (holders_stay : HoldersStay) (changes_stay : LastChangesStay) (depth epoch : ℕ) (rekey : List ℕ) (list later : List Made) (m : Name) (store : Store)
    (early : epoch ≤ length list) where
  abbrev all_batches : batches_made (list ++ later) ≡ batches_made list ++ batches_made later
  all_batches = map-append (λ (made : Made). made.changes) list later

  early_batches : epoch ≤ length (batches_made list)
  early_batches = subst (λ n. epoch ≤ n) (sym (length-map list (λ (made : Made). made.changes))) early

  pub root-more : IsAtRoot depth rekey list epoch m store → IsAtRoot depth rekey (list ++ later) epoch m store
  root-more is =
      let holders = holders-more holders_stay changes_stay depth epoch (batches_made list) (batches_made later) early_batches in
      let last = last_change-more holders_stay changes_stay depth epoch (batches_made list) (batches_made later) early_batches in
      record {
        leaf =
            subst (λ batches. place_in depth (holders_at depth batches epoch) m ≡ Some (leaf_of store.path)) (sym all_batches)
            (subst (λ now. place_in depth now m ≡ Some (leaf_of store.path)) holders is.leaf);
        names =
            is.names ∙ same_path depth epoch (batches_made list) (batches_made list ++ batches_made later) m holders last
            ∙ ap (λ batches. key_path depth batches epoch m) (sym all_batches);
        values = values-more list later store.path is.values;
        spi = is.spi;
      }
