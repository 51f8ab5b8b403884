-- The first epochs of a list are as they are without the later ones.
-- An epoch's encryptions depend on holders, those before them and last changes alone (`wraps_by`), so three equations prove that the first epochs stay.
use Rattle.std.proofs.Common.{◌≡◌, ℕ, ◌+◌, ◌-◌, ◌*◌, ◌^◌, ◌≤◌, cond, List, [], ◌∷◌, ◌++◌, Option, length, map, take, sym, refl, ◌∙◌, subst, arith, inl, inr}
use Rattle.std.specs.Prelude.{Contains}
use Rattle.std.specs.List.{filter, filter_map, flat_map}
use Rattle.std.specs.Option.{option_map, unwrap_or}
use Rattle.std.proofs.lemmas.List.{length-take}
use Rattle.std.proofs.lemmas.List.Elements.{Contains-append_left, Contains-append_right, Contains-append_cases}
use Rattle.group_terms.specs.Names.{Name}
use Rattle.group_terms.specs.Positions.{some_leaf_below}
use Rattle.group_terms.specs.declared.changes.Change.{Change}
use Rattle.group_terms.specs.declared.keys.KeyName.{KeyName}
use Rattle.group_terms.specs.declared.keys.KeyName.TheVariants.{Node, Traffic, Phase}
use Rattle.group_terms.specs.declared.keys.Wrap.{Wrap}
use Rattle.group_model.specs.Places.{Holders, is_member, place_in, holders_at}
use Rattle.group_model.specs.Fresh.{is_fresh, last_change, upwards}
use Rattle.group_model.specs.Stayed.{kept_leaves, somebody_stayed}
use Rattle.group_model.specs.Wraps.{falling, wraps_at}
use Rattle.group_model.specs.Derivations.{told_pairs}
use Rattle.group_model.specs.Laws.{Laws}
use Rattle.sym_closure.specs.Worlds.{epochs_of, keys_told, pairs_at, world, told_at, holdings}
use Rattle.sym_closure.proofs.ContainLemmas.{Contains-flat_map, Contains-from_flat_map, Contains-range, Contains-from_range}

-- what an epoch sends and tells depends on its holders, on those before it, and on the last changes alone
module _ (depth epoch : ℕ) (before after : Holders) (last : ℕ → Option ℕ) where
  abbrev node_by : ℕ → KeyName
  node_by v = Node v (unwrap_or (last v) 0)

  abbrev wraps_by : List Wrap
  wraps_by =
      cond (somebody_stayed before after)
      (flat_map (λ v. map (λ child. record { by = node_by child; gives = Node v epoch }) (filter (some_leaf_below depth (kept_leaves before after)) (2 * v ∷ (2 * v + 1) ∷ []))) (filter (is_fresh depth before after) (falling (2 ^ depth - 1)))
      ++ record { by = Node 1 epoch; gives = Traffic epoch } ∷ [])
      []

  abbrev keys_by : Name → List KeyName
  keys_by m = unwrap_or (option_map (λ leaf. map node_by (upwards depth leaf)) (place_in depth after m)) [] ++ Traffic epoch ∷ []

  abbrev pairs_by : List Wrap
  pairs_by = wraps_by ++ flat_map (λ m. told_pairs m (keys_by m)) (filter_map (λ holder. holder) after)

wraps_at-by : (depth : ℕ) (batches : List (List Change)) (epoch : ℕ) → wraps_at depth batches epoch ≡ wraps_by depth epoch (holders_at depth batches (epoch - 1)) (holders_at depth batches epoch) (last_change depth batches epoch)
unfolding wraps_at
wraps_at-by depth batches epoch = refl

module _ (laws : Laws) (depth n : ℕ) (batches : List (List Change)) (epoch : ℕ) (early : epoch ≤ n) where
  before_same : holders_at depth (take n batches) (epoch - 1) ≡ holders_at depth batches (epoch - 1)
  before_same = laws.holders_stay depth n (epoch - 1) batches (omega (arith, early))

  pub after_same : holders_at depth (take n batches) epoch ≡ holders_at depth batches epoch
  after_same = laws.holders_stay depth n epoch batches early

  last_same : last_change depth (take n batches) epoch ≡ last_change depth batches epoch
  last_same = λ j v. laws.last_changes_stay depth n epoch v batches early j

  -- its encryptions
  pub wraps_at-take : wraps_at depth (take n batches) epoch ≡ wraps_at depth batches epoch
  wraps_at-take =
      wraps_at-by depth (take n batches) epoch
      ∙ (λ j. wraps_by depth epoch (before_same j) (after_same j) (last_same j))
      ∙ sym (wraps_at-by depth batches epoch)

  -- what its members are told
  pub keys_told-take : (m : Name) → keys_told depth (take n batches) epoch m ≡ keys_told depth batches epoch m
  keys_told-take m = λ j. keys_by depth epoch (before_same j) (after_same j) (last_same j) m

  pub pairs_at-take : pairs_at depth (take n batches) epoch ≡ pairs_at depth batches epoch
  pairs_at-take = λ j. wraps_at-take j ++ flat_map (λ m. told_pairs m (keys_told-take m j)) (filter_map (λ holder. holder) (after_same j))

  pub told_at-take : (coalition : List Name) → told_at depth (take n batches) coalition epoch ≡ told_at depth batches coalition epoch
  told_at-take coalition = λ j. flat_map (λ m. keys_told-take m j) (filter (is_member (after_same j)) coalition)

module _ (laws : Laws) (depth n : ℕ) (batches : List (List Change)) where
  -- an epoch of the first ones is one of all
  within : (epoch : ℕ) → Contains (epochs_of (take n batches)) epoch → (epoch ≤ n) × Contains (epochs_of batches) epoch
  within epoch c =
      let bounds = Contains-from_range 1 (length (take n batches)) epoch c in
      (omega (arith, bounds.1, length-take n batches), Contains-range 1 (length batches) epoch bounds.0 (omega (arith, bounds.1, length-take n batches)))

  pub world-take : (pair : Wrap) → Contains (world depth (take n batches)) pair → Contains (world depth batches) pair
  world-take pair c =
      let at = Contains-from_flat_map (pairs_at depth (take n batches)) (epochs_of (take n batches)) pair c in
      let early = within at.0 at.1 in
      Contains-flat_map (pairs_at depth batches) (epochs_of batches) at.0 pair early.1
      (subst (λ pairs. Contains pairs pair) (pairs_at-take laws depth n batches at.0 early.0) at.2)

  pub holdings-take : (coalition : List Name) (name : KeyName) → Contains (holdings depth (take n batches) coalition) name → Contains (holdings depth batches coalition) name
  holdings-take coalition name c = elim (Contains-append_cases (map Phase coalition) (flat_map (told_at depth (take n batches) coalition) (epochs_of (take n batches))) name c) [
    | inl phase ↦ Contains-append_left (map Phase coalition) (flat_map (told_at depth batches coalition) (epochs_of batches)) name phase
    | inr told ↦ (
        let at = Contains-from_flat_map (told_at depth (take n batches) coalition) (epochs_of (take n batches)) name told in
        let early = within at.0 at.1 in
        Contains-append_right (map Phase coalition) (flat_map (told_at depth batches coalition) (epochs_of batches)) name
        (Contains-flat_map (told_at depth batches coalition) (epochs_of batches) at.0 name early.1
        (subst (λ names. Contains names name) (told_at-take laws depth n batches at.0 early.0 coalition) at.2))
        )
  ]
