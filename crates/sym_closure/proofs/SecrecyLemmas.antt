-- A coalition derives no key but those that it reaches.
-- `each_derived`: what holds of all keys that are held, and passes over each pair, holds of all that can be derived. The other direction is `CanDerive-held`
-- and `CanDerive-by`.
use Rattle.std.proofs.Common.{◌≡◌, ℕ, zero, suc, ◌+◌, ◌/◌, ◌^◌, ◌<◌, ◌≤◌, Bool, true, false, cond, eqb, List, [], ◌∷◌, ◌++◌, Option, Some, None, length, map, take, get_or, sym, refl, ap, ◌∙◌, subst, arith, inl, inr, add-one}
use Rattle.std.specs.Prelude.{Contains}
use Rattle.std.specs.List.{list_any, filter}
use Rattle.std.specs.Option.{option_map, unwrap_or}
use Rattle.std.proofs.lemmas.Bool.{or_left, eq-eqb, false≢true}
use Rattle.std.proofs.lemmas.Grind.{pow_more}
use Rattle.std.proofs.lemmas.List.Folds.{list_any_at}
use Rattle.std.proofs.lemmas.List.Elements.{All-contains, Contains-append_cases, Contains-push_cases}
use Rattle.std.proofs.lemmas.Option.{same_Some}
use Rattle.std.proofs.lemmas.Slice.Eq.{bytes_eq-Decides}
use Rattle.group_terms.specs.Names.{Name}
use Rattle.group_terms.specs.Positions.{is_below, some_leaf_below}
use Rattle.group_terms.specs.declared.changes.Change.{Change}
use Rattle.group_terms.specs.declared.keys.KeyName.{KeyName}
use Rattle.group_terms.specs.declared.keys.KeyName.TheVariants.{Node, Traffic, Phase}
use Rattle.group_terms.specs.declared.keys.Wrap.{Wrap}
use Rattle.group_model.specs.Places.{is_held_by, is_member, holders_at, place_in}
use Rattle.group_model.specs.Fresh.{changed_leaves, is_fresh, last_change, node_name, upwards}
use Rattle.group_model.specs.Stayed.{stayed_at}
use Rattle.group_model.specs.Wraps.{node_wraps, wraps_at}
use Rattle.group_model.specs.Derivations.{AreAtHand, CanDerive, told_pairs}
use Rattle.group_model.specs.Laws.{Laws}
use Rattle.law_key_ways.specs.Laws.{IsStepUp, Laws as Ways}
use Rattle.sym_closure.specs.Worlds.{epochs_of, members_at, keys_told, pairs_at, world, told_at, holdings}
use Rattle.sym_closure.specs.Secrecy.{HadLeafBelow, HasMember, IsWithinReach}
use Rattle.sym_closure.proofs.FirstLemmas.{no_item}
use Rattle.sym_closure.proofs.ContainLemmas.{Contains-cases, Contains-from_map, Contains-from_filter, Contains-from_flat_map}
use Rattle.sym_closure.proofs.ContainLemmas.{Contains-from_some, Contains-from_range, passes_in}
use Rattle.sym_closure.proofs.LeafLemmas.{last_fresh, same_below, has_key, upwards-below}

-- what holds of all that is held, and passes from a pair's one key to the other, holds of all that can be derived
module _ (have : List KeyName) (pairs : List Wrap) (P : KeyName → Type 0) (held : (name : KeyName) → Contains have name → P name) (passes : (pair : Wrap) → Contains pairs pair → P pair.by → P pair.gives) where
  at_hand : (earlier names : List KeyName) → ((name : KeyName) → Contains earlier name → P name) → AreAtHand have pairs earlier names → (name : KeyName) → Contains names name → P name
  at_hand earlier [] before h name c = absurd (no_item name c)
  at_hand earlier (first ∷ names) before h name c =
      let here : P first = elim h.0 [
        | inl have_it ↦ held first have_it
        | inr given ↦ subst P given.3 (passes given.0 given.1 (before given.0.by given.2))
      ] in
      elim (Contains-cases first name names c) [
        | inl is ↦ subst P is here
        | inr later ↦ at_hand (earlier ++ first ∷ []) names (λ one there. elim (Contains-push_cases earlier first one there) [
          | inl sooner ↦ before one sooner
          | inr is ↦ subst P is here
        ]) h.1 name later
      ]

  pub each_derived : (goal : KeyName) → CanDerive have pairs goal → P goal
  each_derived goal h = at_hand [] h.0 (λ name c. absurd (no_item name c)) h.1 goal h.2

module _ (laws : Laws) (ways : Ways) (depth : ℕ) (batches : List (List Change)) (coalition : List Name) where
  abbrev WithinReach : KeyName → Type 0
  WithinReach = IsWithinReach depth batches coalition

  -- what one of them is told is within reach
  path_in_reach : (m : Name) (epoch : ℕ) (name : KeyName) → Contains coalition m → 1 ≤ epoch → epoch ≤ length batches → (at : Option ℕ) → place_in depth (holders_at depth batches epoch) m ≡ at → Contains (unwrap_or (option_map (λ leaf. map (node_name depth batches epoch) (upwards depth leaf)) at) []) name → WithinReach name
  path_in_reach m epoch name ours begun within None at c = absurd (no_item name c)
  path_in_reach m epoch name ours begun within (Some leaf) at c =
      let found = Contains-from_map (node_name depth batches epoch) (upwards depth leaf) name c in
      let place = laws.places_held depth leaf (holders_at depth batches epoch) m at in
      let bounds = ways.leaves depth epoch leaf batches m at in
      let low : place.0 < 2 ^ depth = omega (arith, place.1, bounds.1, pow_more 2 depth) in
      let below : is_below depth found.0 (2 ^ depth + place.0) ≡ true = subst (λ x. is_below depth found.0 x ≡ true) place.1 (upwards-below depth leaf found.0 found.1) in
      subst WithinReach found.2 (record {
        m = m;
        ours = ours;
        epoch = epoch;
        begun = begun;
        within = within;
        leaf = place.0;
        low = low;
        held = place.2;
        below = below;
        key = has_key ways depth batches found.0 place.0 epoch m low below place.2;
      })

  told_in_reach : (m : Name) (epoch : ℕ) (name : KeyName) → Contains coalition m → Contains (epochs_of batches) epoch → is_member (holders_at depth batches epoch) m ≡ true → Contains (keys_told depth batches epoch m) name → WithinReach name
  told_in_reach m epoch name ours within member c =
      let bounds = Contains-from_range 1 (length batches) epoch within in
      elim (Contains-push_cases _ (Traffic epoch) name c) [
        | inl path ↦ path_in_reach m epoch name ours bounds.0 (omega (arith, bounds.1)) (place_in depth (holders_at depth batches epoch) m) refl path
        | inr traffic ↦ subst WithinReach traffic (record { m = m; ours = ours; within = omega (arith, bounds.1); member = member })
      ]

  -- all that they can hold is within reach
  held_in_reach : (name : KeyName) → Contains (holdings depth batches coalition) name → WithinReach name
  held_in_reach name c = elim (Contains-append_cases (map Phase coalition) _ name c) [
    | inl phase ↦ (let found = Contains-from_map Phase coalition name phase in subst WithinReach found.2 found.1)
    | inr told ↦ (
        let at = Contains-from_flat_map (told_at depth batches coalition) (epochs_of batches) name told in
        let to = Contains-from_flat_map (keys_told depth batches at.0) (filter (is_member (holders_at depth batches at.0)) coalition) name at.2 in
        let one = Contains-from_filter (is_member (holders_at depth batches at.0)) coalition to.0 to.1 in
        told_in_reach to.0 at.0 name one.0 at.1 one.1 to.2
        )
  ]

  -- a reply tells what is within its member's reach
  reply_in_reach : (epoch : ℕ) (m : Name) (pair : Wrap) → Contains (epochs_of batches) epoch → Contains (members_at depth batches epoch) m → Contains (told_pairs m (keys_told depth batches epoch m)) pair → WithinReach pair.by → WithinReach pair.gives
  reply_in_reach epoch m pair within member c by =
      let found = Contains-from_map (λ name. record { by = Phase m; gives = name }) (keys_told depth batches epoch m) pair c in
      let ours : Contains coalition m = subst (λ (pair : Wrap). WithinReach pair.by) (sym found.2) by in
      let there : is_member (holders_at depth batches epoch) m ≡ true = passes_in (is_held_by m) (holders_at depth batches epoch) (Some m) (Contains-from_some (holders_at depth batches epoch) m member) ((bytes_eq-Decides m m).1 refl) in
      subst (λ (pair : Wrap). WithinReach pair.gives) found.2 (told_in_reach m epoch found.0 ours within there found.1)

  -- the new key of a position under the key of a child
  child_in_reach : (epoch child : ℕ) → suc epoch ≤ length batches
      → is_fresh depth (holders_at depth batches epoch) (holders_at depth batches (suc epoch)) (child / 2) ≡ true → 0 < child / 2
      → HadLeafBelow depth batches coalition child (unwrap_or (last_change depth batches (suc epoch) child) 0)
      → HadLeafBelow depth batches coalition (child / 2) (suc epoch)
  child_in_reach epoch child within fresh some stood =
      let same = same_below ways depth batches child stood.leaf stood.low stood.below (suc epoch) stood.epoch (sym (ap (λ last. unwrap_or last 0) stood.key)) in
      record {
        m = stood.m;
        ours = stood.ours;
        epoch = suc epoch;
        begun = omega arith;
        within = within;
        leaf = stood.leaf;
        low = stood.low;
        held = ap (is_held_by stood.m) same ∙ stood.held;
        below = ways.parent_above depth child (2 ^ depth + stood.leaf) some (omega (arith, stood.low, pow_more 2 depth)) stood.below;
        key = last_fresh depth batches epoch (child / 2) fresh;
      }

  -- an encryption between two keys of the tree
  node_in_reach : (epoch : ℕ) (pair : Wrap) → suc epoch ≤ length batches → Contains (node_wraps depth batches (suc epoch)) pair → WithinReach pair.by → WithinReach pair.gives
  node_in_reach epoch pair within c by =
      let next = add-one epoch in
      let step = All-contains (IsStepUp depth batches epoch) (node_wraps depth batches (epoch + 1)) pair (ways.go_up depth epoch batches)
      (subst (λ at. Contains (node_wraps depth batches at) pair) (sym next) c) in
      subst WithinReach (sym (step.gives ∙ ap (Node (step.child / 2)) next))
      (child_in_reach epoch step.child within
      (subst (λ at. is_fresh depth (holders_at depth batches epoch) (holders_at depth batches at) (step.child / 2) ≡ true) next step.renewed)
      step.some (subst WithinReach (step.by ∙ ap (λ at. node_name depth batches at step.child) next) by))

  -- the traffic key under the key of the root
  root_in_reach : (epoch : ℕ) → suc epoch ≤ length batches → HadLeafBelow depth batches coalition 1 (suc epoch) → HasMember depth batches coalition (suc epoch)
  root_in_reach epoch within stood =
      let fresh : (at : ℕ) → is_fresh depth (holders_at depth batches at) (holders_at depth batches (suc at)) 1 ≡ true = λ at. or_left (eqb 1 1) (some_leaf_below depth (changed_leaves (holders_at depth batches at) (holders_at depth batches (suc at))) 1) (eq-eqb 1 1 refl) in
      let key : stood.epoch ≡ suc epoch = same_Some stood.epoch (suc epoch) (sym (own_epoch stood.epoch fresh stood.begun) ∙ stood.key) in
      record {
        m = stood.m;
        ours = stood.ours;
        within = within;
        member = list_any_at (is_held_by stood.m) (holders_at depth batches (suc epoch)) stood.leaf None (omega (arith, stood.low, laws.each_leaf depth (take (suc epoch) batches)))
            (subst (λ at. is_held_by stood.m (get_or (holders_at depth batches at) stood.leaf None) ≡ true) key stood.held);
      }
    where
      own_epoch : (at : ℕ) → ((at : ℕ) → is_fresh depth (holders_at depth batches at) (holders_at depth batches (suc at)) 1 ≡ true) → 1 ≤ at → last_change depth batches at 1 ≡ Some at
      own_epoch zero fresh begun = absurd (omega (arith, begun))
      own_epoch (suc at) fresh begun = last_fresh depth batches at 1 (fresh at)

  wraps_in_reach : (epoch : ℕ) (stayed : Bool) (pair : Wrap) → suc epoch ≤ length batches → Contains (cond stayed (node_wraps depth batches (suc epoch) ++ record { by = Node 1 (suc epoch); gives = Traffic (suc epoch) } ∷ []) []) pair → WithinReach pair.by → WithinReach pair.gives
  wraps_in_reach epoch false pair within c by = absurd (no_item pair c)
  wraps_in_reach epoch true pair within c by = elim (Contains-push_cases (node_wraps depth batches (suc epoch)) (record { by = Node 1 (suc epoch); gives = Traffic (suc epoch) }) pair c) [
    | inl node ↦ node_in_reach epoch pair within node by
    | inr root ↦ subst (λ (pair : Wrap). WithinReach pair.gives) root (root_in_reach epoch within (subst (λ (pair : Wrap). WithinReach pair.by) (sym root) by))
  ]

  wrap_in_reach : (epoch : ℕ) (pair : Wrap) → 1 ≤ epoch → epoch ≤ length batches → Contains (wraps_at depth batches epoch) pair → WithinReach pair.by → WithinReach pair.gives
  unfolding wraps_at
  wrap_in_reach zero pair begun within c by = absurd (omega (arith, begun))
  wrap_in_reach (suc epoch) pair begun within c by = wraps_in_reach epoch (stayed_at depth batches (suc epoch)) pair within c by

  pair_in_reach : (pair : Wrap) → Contains (world depth batches) pair → WithinReach pair.by → WithinReach pair.gives
  pair_in_reach pair c by =
      let at = Contains-from_flat_map (pairs_at depth batches) (epochs_of batches) pair c in
      let bounds = Contains-from_range 1 (length batches) at.0 at.1 in
      elim (Contains-append_cases (wraps_at depth batches at.0) _ pair at.2) [
        | inl wrap ↦ wrap_in_reach at.0 pair bounds.0 (omega (arith, bounds.1)) wrap by
        | inr told ↦ (
            let to = Contains-from_flat_map (λ m. told_pairs m (keys_told depth batches at.0 m)) (members_at depth batches at.0) pair told in
            reply_in_reach at.0 to.0 pair at.1 to.1 to.2 by
            )
      ]

  pub all_in_reach : (goal : KeyName) → CanDerive (holdings depth batches coalition) (world depth batches) goal → IsWithinReach depth batches coalition goal
  all_in_reach goal h = each_derived (holdings depth batches coalition) (world depth batches) WithinReach held_in_reach pair_in_reach goal h

pub no_others : (laws : Laws) (ways : Ways) (depth : ℕ) (batches : List (List Change)) (epoch : ℕ) (others : List Name)
    → list_any (is_member (holders_at depth batches epoch)) others ≡ false
    → CanDerive (holdings depth batches others) (world depth batches) (Traffic epoch) → ⊥
no_others laws ways depth batches epoch others none h =
    let was = all_in_reach laws ways depth batches others (Traffic epoch) h in
    false≢true (sym none ∙ passes_in (is_member (holders_at depth batches epoch)) others was.m was.ours was.member)

pub nobody_yet : (laws : Laws) (ways : Ways) (depth : ℕ) (batches : List (List Change)) (epoch : ℕ) (anybody : List Name) → length batches < epoch
    → CanDerive (holdings depth batches anybody) (world depth batches) (Traffic epoch) → ⊥
nobody_yet laws ways depth batches epoch anybody later h =
    let was = all_in_reach laws ways depth batches anybody (Traffic epoch) h in
    omega (arith, later, was.within)
