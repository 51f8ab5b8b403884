-- What a member derives: batch after batch the keys of its path, and with them the traffic key.
use Rattle.std.proofs.Common.{◌≡◌, ℕ, zero, suc, ◌-◌, ◌<◌, ◌≤◌, Bool, true, false, cond, ltb, leb, ◌&&◌, List, [], ◌∷◌, ◌++◌, Option, Some, None, length, map, sym, refl, ap, ◌∙◌, subst, arith, inl, inr, add-one}
use Rattle.std.specs.Prelude.{Contains}
use Rattle.std.specs.List.{filter}
use Rattle.std.specs.Option.{option_map, unwrap_or}
use Rattle.std.proofs.lemmas.Bool.{cases_Bool, cases_eq, and_from, lt-ltb, le-leb, false≢true}
use Rattle.std.proofs.lemmas.List.Elements.{Contains-append_left, Contains-push}
use Rattle.std.proofs.lemmas.Slice.Eq.{bytes_eq-Decides}
use Rattle.group_terms.specs.Names.{Name}
use Rattle.group_terms.specs.Positions.{halved}
use Rattle.group_terms.specs.declared.changes.Change.{Change}
use Rattle.group_terms.specs.declared.keys.KeyName.{KeyName}
use Rattle.group_terms.specs.declared.keys.KeyName.TheVariants.{Node, Traffic}
use Rattle.group_terms.specs.declared.keys.Wrap.{Wrap}
use Rattle.group_model.specs.Places.{is_held_by, is_member, holders_at, place_in, IsValid}
use Rattle.group_model.specs.Fresh.{is_fresh, node_name, upwards, key_path}
use Rattle.group_model.specs.Stayed.{is_kept, stayed_at}
use Rattle.group_model.specs.Wraps.{node_wraps, wraps_at}
use Rattle.group_model.specs.Derivations.{CanDerive}
use Rattle.law_key_ways.specs.Laws.{Laws as Ways}
use Rattle.sym_closure.specs.Worlds.{epochs_of, keys_told, wraps_since}
use Rattle.sym_closure.specs.Secrecy.{IsMemberThrough}
use Rattle.sym_closure.proofs.FirstLemmas.{Contains-first}
use Rattle.sym_closure.proofs.DerivationLemmas.{AreAtHand-then}
use Rattle.sym_closure.proofs.ContainLemmas.{Contains-map, Contains-filter, Contains-flat_map, Contains-range, passes_from, passes_in}
use Rattle.sym_closure.proofs.LeafLemmas.{last_fresh, last_stale, upwards-has}

pub CanDerive-held : (have : List KeyName) (pairs : List Wrap) (name : KeyName) → Contains have name → CanDerive have pairs name
CanDerive-held have pairs name c = (name ∷ [], (inl c, tt), Contains-first name [])

pub CanDerive-by : (have : List KeyName) (pairs : List Wrap) (pair : Wrap) → Contains pairs pair → CanDerive have pairs pair.by → CanDerive have pairs pair.gives
CanDerive-by have pairs pair c h = (
  h.0 ++ pair.gives ∷ [],
  AreAtHand-then have pairs [] h.0 (pair.gives ∷ []) h.1 (inr (pair, c, h.2, refl), tt),
  Contains-push h.0 pair.gives,
)

pub held_some : (m : Name) (holder : Option Name) → is_held_by m holder ≡ true → holder ≡ Some m
held_some m None h = absurd (false≢true h)
held_some m (Some name) h = ap Some (sym ((bytes_eq-Decides m name).0 h))

module _ (ways : Ways) (depth : ℕ) (batches : List (List Change)) (m : Name) where
  -- whether a batch gives a position a new key
  abbrev fresh : ℕ → ℕ → ℕ → Bool
  fresh at next v = is_fresh depth (holders_at depth batches at) (holders_at depth batches next) v

  -- the encryption of it under the key of the position below, on the way up from a leaf
  abbrev step_up : ℕ → ℕ → ℕ → Wrap
  step_up next leaf k = record { by = node_name depth batches next (halved k leaf); gives = Node (halved (suc k) leaf) next }

  -- the encryptions of an epoch over which m stayed
  module _ (at : ℕ) (was : is_member (holders_at depth batches at) m ≡ true) (is : is_member (holders_at depth batches (suc at)) m ≡ true) where
    stayed : stayed_at depth batches (suc at) ≡ true
    stayed =
        let before = holders_at depth batches (suc at - 1) in
        let found = passes_from (is_held_by m) (holders_at depth batches (suc at)) is in
        let member : is_member before m ≡ true = subst (λ k. is_member (holders_at depth batches k) m ≡ true) (omega arith) was in
        passes_in (is_kept before) (holders_at depth batches (suc at)) found.0 found.1 (ap (is_kept before) (held_some m found.0 found.2) ∙ member)

    wraps_at-is : wraps_at depth batches (suc at) ≡ node_wraps depth batches (suc at) ++ record { by = Node 1 (suc at); gives = Traffic (suc at) } ∷ []
    unfolding wraps_at
    wraps_at-is = ap (λ b. cond b (node_wraps depth batches (suc at) ++ record { by = Node 1 (suc at); gives = Traffic (suc at) } ∷ []) []) stayed

    root_wrap : Contains (wraps_at depth batches (suc at)) (record { by = Node 1 (suc at); gives = Traffic (suc at) })
    root_wrap =
        subst (λ wraps. Contains wraps (record { by = Node 1 (suc at); gives = Traffic (suc at) })) (sym wraps_at-is)
        (Contains-push (node_wraps depth batches (suc at)) (record { by = Node 1 (suc at); gives = Traffic (suc at) }))

    node_wrap : (wrap : Wrap) → Contains (node_wraps depth batches (suc at)) wrap → Contains (wraps_at depth batches (suc at)) wrap
    node_wrap wrap c =
        subst (λ wraps. Contains wraps wrap) (sym wraps_at-is)
        (Contains-append_left (node_wraps depth batches (suc at)) (record { by = Node 1 (suc at); gives = Traffic (suc at) } ∷ []) wrap c)

  module _ (from epoch : ℕ) (deep : 1 ≤ depth) (valid : IsValid depth batches) (within : epoch ≤ length batches)
      (through : IsMemberThrough depth batches from epoch m) (begun : from ≤ epoch) where
    abbrev have : List KeyName
    have = keys_told depth batches from m

    abbrev pairs : List Wrap
    pairs = wraps_since depth batches from epoch

    -- the encryptions of each epoch since are among them
    since : (at : ℕ) (wrap : Wrap) → from ≤ at → suc at ≤ epoch → Contains (wraps_at depth batches (suc at)) wrap → Contains pairs wrap
    since at wrap later earlier c =
        Contains-flat_map (wraps_at depth batches) (filter (λ made. ltb from made && leb made epoch) (epochs_of batches)) (suc at) wrap
        (Contains-filter (λ made. ltb from made && leb made epoch) (epochs_of batches) (suc at)
        (Contains-range 1 (length batches) (suc at) (omega arith) (omega (arith, earlier, within)))
        (and_from (ltb from (suc at)) (leb (suc at) epoch) (lt-ltb from (suc at) (omega (arith, later))) (le-leb (suc at) epoch earlier)))
        c

    module _ (leaf : ℕ) (place : place_in depth (holders_at depth batches from) m ≡ Some leaf) where
      abbrev IsPlaceAt : ℕ → Type 0
      IsPlaceAt at = place_in depth (holders_at depth batches at) m ≡ Some leaf

      -- the key so many steps up
      abbrev Derives : ℕ → ℕ → Type 0
      Derives at k = CanDerive have pairs (node_name depth batches at (halved k leaf))

      -- its leaf stays the same over a batch, with its key, and so over all of them
      stays : (at : ℕ) → from ≤ at → suc at ≤ epoch → IsPlaceAt at → IsPlaceAt (suc at) × (fresh at (suc at) leaf ≡ false)
      stays at later earlier there =
          subst (λ next. is_member (holders_at depth batches next) m ≡ true → IsPlaceAt next × (fresh at next leaf ≡ false)) (add-one at)
          (ways.leaf_kept depth at leaf batches m deep valid (omega (arith, earlier, within)) there)
          (through (suc at) (omega (arith, later)) earlier)

      place_at : (at : ℕ) → from ≤ at → at ≤ epoch → IsPlaceAt at
      place_at zero later earlier = (let first : from ≡ 0 = omega (arith, later) in subst IsPlaceAt first place)
      place_at (suc at) later earlier = elim (cases_eq from (suc at)) [
        | inl now ↦ subst IsPlaceAt now place
        | inr before ↦ (
            let sooner : from ≤ at = omega (arith, later, before) in
            (stays at sooner earlier (place_at at sooner (omega (arith, earlier)))).0
            )
      ]

      -- what it was told at first
      told_name : (k : ℕ) → k ≤ depth → Contains have (node_name depth batches from (halved k leaf))
      told_name k up =
          let name : ℕ → KeyName = node_name depth batches from in
          Contains-append_left (key_path depth batches from m) (Traffic from ∷ []) (name (halved k leaf))
          (subst (λ at. Contains (unwrap_or (option_map (λ leaf. map name (upwards depth leaf)) at) []) (name (halved k leaf))) (sym place)
          (Contains-map name (upwards depth leaf) (halved k leaf) (upwards-has depth k leaf up)))

      told : (k : ℕ) → k ≤ depth → Derives from k
      told k up = CanDerive-held have pairs (node_name depth batches from (halved k leaf)) (told_name k up)

      -- one batch more: where a position is fresh, its key comes under that of the child on the way
      module _ (at : ℕ) (later : from ≤ at) (earlier : suc at ≤ epoch) (path : (k : ℕ) → k ≤ depth → Derives at k) where
        there : IsPlaceAt at
        there = place_at at later (omega (arith, earlier))

        member_before : is_member (holders_at depth batches at) m ≡ true
        member_before = through at later (omega (arith, earlier))

        member_now : is_member (holders_at depth batches (suc at)) m ≡ true
        member_now = through (suc at) (omega (arith, later)) earlier

        stale : (k : ℕ) → k ≤ depth → fresh at (suc at) (halved k leaf) ≡ false → Derives (suc at) k
        stale k up h =
            subst (λ last. CanDerive have pairs (Node (halved k leaf) (unwrap_or last 0))) (sym (last_stale depth batches at (halved k leaf) h)) (path k up)

        renewed : (k : ℕ) → fresh at (suc at) (halved k leaf) ≡ true → CanDerive have pairs (Node (halved k leaf) (suc at)) → Derives (suc at) k
        renewed k h = subst (λ last. CanDerive have pairs (Node (halved k leaf) (unwrap_or last 0))) (sym (last_fresh depth batches at (halved k leaf) h))

        given : (k : ℕ) → k < depth → fresh at (suc at) (halved (suc k) leaf) ≡ true → Contains (node_wraps depth batches (suc at)) (step_up (suc at) leaf k)
        given k up =
            subst (λ next. is_member (holders_at depth batches next) m ≡ true → fresh at next (halved (suc k) leaf) ≡ true
            → Contains (node_wraps depth batches next) (step_up next leaf k)) (add-one at)
            (λ member. ways.way_given depth at leaf k batches m deep valid (omega (arith, earlier, within)) there member up)
            member_now

        pub path_more : (k : ℕ) → k ≤ depth → Derives (suc at) k
        path_more zero up = stale 0 up (stays at later earlier there).1
        path_more (suc k) up = elim (cases_Bool (fresh at (suc at) (halved (suc k) leaf))) [
          | inl is ↦ renewed (suc k) is
              (CanDerive-by have pairs (step_up (suc at) leaf k)
              (since at (step_up (suc at) leaf k) later earlier (node_wrap at member_before member_now (step_up (suc at) leaf k) (given k (omega (arith, up)) is)))
              (path_more k (omega (arith, up))))
          | inr same ↦ stale (suc k) up same
        ]

        -- and the traffic key comes under that of the root
        pub traffic_more : CanDerive have pairs (Traffic (suc at))
        traffic_more =
            let bounds = ways.leaves depth from leaf batches m place in
            let top : halved depth leaf ≡ 1 = ways.at_root depth leaf bounds.0 bounds.1 in
            CanDerive-by have pairs (record { by = Node 1 (suc at); gives = Traffic (suc at) })
            (since at _ later earlier (root_wrap at member_before member_now))
            (subst (λ last. CanDerive have pairs (Node 1 (unwrap_or last 0))) (last_fresh depth batches at 1 refl)
            (subst (λ v. CanDerive have pairs (node_name depth batches (suc at) v)) top (path_more depth (omega arith))))

      -- the keys of its path
      path_at : (at : ℕ) → from ≤ at → at ≤ epoch → (k : ℕ) → k ≤ depth → Derives at k
      path_at zero later earlier k up = (let first : from ≡ 0 = omega (arith, later) in subst (λ at. Derives at k) first (told k up))
      path_at (suc at) later earlier k up = elim (cases_eq from (suc at)) [
        | inl now ↦ subst (λ at. Derives at k) now (told k up)
        | inr before ↦ path_more at (omega (arith, later, before)) earlier (path_at at (omega (arith, later, before)) (omega (arith, earlier))) k up
      ]

      told_traffic : CanDerive have pairs (Traffic from)
      told_traffic = CanDerive-held have pairs (Traffic from) (Contains-push (key_path depth batches from m) (Traffic from))

      pub traffic_at : (at : ℕ) → from ≤ at → at ≤ epoch → CanDerive have pairs (Traffic at)
      traffic_at zero later earlier = (let first : from ≡ 0 = omega (arith, later) in subst (λ at. CanDerive have pairs (Traffic at)) first told_traffic)
      traffic_at (suc at) later earlier = elim (cases_eq from (suc at)) [
        | inl now ↦ subst (λ at. CanDerive have pairs (Traffic at)) now told_traffic
        | inr before ↦ traffic_more at (omega (arith, later, before)) earlier (path_at at (omega (arith, later, before)) (omega (arith, earlier)))
      ]

pub members_follow : (ways : Ways) (depth : ℕ) (batches : List (List Change)) → 1 ≤ depth → IsValid depth batches → (from epoch : ℕ) (m : Name)
    → from ≤ epoch → epoch ≤ length batches → IsMemberThrough depth batches from epoch m
    → CanDerive (keys_told depth batches from m) (wraps_since depth batches from epoch) (Traffic epoch)
members_follow ways depth batches deep valid from epoch m begun within through =
    let found = ways.has_place depth (holders_at depth batches from) m (through from (omega arith) begun) in
    traffic_at ways depth batches m from epoch deep valid within through begun found.0 found.1 epoch begun (omega arith)
