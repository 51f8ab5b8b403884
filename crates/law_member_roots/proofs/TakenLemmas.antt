-- What a member takes of the membership push of the next epoch, given the keys of its path at this one.
-- No lemma speaks of rounds: what is taken next has the property (`next_new`), none is left at the end (`none_left`), so each due key was taken (`way_taken`).
use Rattle.std.proofs.Common.{◌≡◌, ◌∙◌, add-one, ap, arith, cond, inl, inr, refl, subst, sym, ℕ, zero, suc, ◌+◌, ◌/◌, ◌≤◌, true, false, not, ◌&&◌, List, [], ◌∷◌, ◌++◌, length, map, None, Some, eqb}
use Rattle.std.specs.Prelude.{is_some}
use Rattle.std.specs.List.{All, find}
use Rattle.std.specs.Option.{unwrap_or}
use Rattle.std.proofs.lemmas.Bool.{and_cases, and_parts, cases_Bool, eqb-true, false≢true, not-false}
use Rattle.std.proofs.lemmas.List.{append-nil, append_assoc}
use Rattle.std.proofs.lemmas.List.Elements.{All-append, All-cons, All-nil, All-push, All-weaker}
use Rattle.group_terms.specs.Names.{Name}
use Rattle.group_terms.specs.Positions.{halved}
use Rattle.group_terms.specs.declared.changes.Change.{Change}
use Rattle.group_terms.specs.declared.paths.PathKey.{PathKey}
use Rattle.group_values.specs.Values.{HasValue, Made, batches_made}
use Rattle.group_model.specs.Fresh.{is_fresh, last_change, node_name, upwards}
use Rattle.group_model.specs.Places.{IsValid, holders_at, is_member, place_in}
use Rattle.group_model.specs.Wraps.{node_wraps}
use Rattle.kd_wire.specs.declared.updates.SealedKey.{SealedKey}
use Rattle.law_key_ways.specs.Laws.{IsKept, IsRenewed, IsStepUp, Laws}
use Rattle.member_store.specs.Stores.{has_position}
use Rattle.member_store.specs.Takings.{Takes, TakesAfter, TakesNext, can_take, is_called, sealer_of}
use Rattle.law_member_roots.proofs.FoundLemmas.{found_has, found_pair, found_passes, has_pair, none_passes, some_left, some_right}
use Rattle.law_member_roots.specs.Reads.{AreSealedWraps, IsSealedWrap}
use Rattle.law_member_roots.proofs.RootKeyLemmas.{id_of, made_of, name_of}
use Rattle.law_member_roots.proofs.WayLemmas.{IsOnWay, called_position, has_name, ids_have, made_so, position_called, way_has}

-- the epoch of the key that a position has at an epoch
abbrev pub made_at : ℕ → List (List Change) → ℕ → ℕ → ℕ
made_at depth batches epoch v = unwrap_or (last_change depth batches epoch v) 0

module _ (depth : ℕ) (batches : List (List Change)) where
  pub made_low : (epoch v : ℕ) → made_at depth batches epoch v ≤ epoch
  unfolding last_change
  made_low zero v = omega arith
  made_low (suc epoch) v =
      elim (is_fresh depth (holders_at depth batches epoch) (holders_at depth batches (suc epoch)) v)
      as (λ fresh. unwrap_or (cond fresh (Some (suc epoch)) (last_change depth batches epoch v)) 0 ≤ suc epoch) [
        | true ↦ omega arith
        | false ↦ omega (arith, made_low epoch v)
      ]

  renewed_suc : (epoch v : ℕ) → is_fresh depth (holders_at depth batches epoch) (holders_at depth batches (suc epoch)) v ≡ true
      → made_at depth batches (suc epoch) v ≡ suc epoch
  unfolding last_change
  renewed_suc epoch v fresh = ap (λ b. unwrap_or (cond b (Some (suc epoch)) (last_change depth batches epoch v)) 0) fresh

  kept_suc : (epoch v : ℕ) → is_fresh depth (holders_at depth batches epoch) (holders_at depth batches (suc epoch)) v ≡ false
      → made_at depth batches (suc epoch) v ≡ made_at depth batches epoch v
  unfolding last_change
  kept_suc epoch v stale = ap (λ b. unwrap_or (cond b (Some (suc epoch)) (last_change depth batches epoch v)) 0) stale

  -- a key that is renewed is of the new epoch, and any other one is as it was
  pub renewed_made : (epoch v : ℕ) → IsRenewed depth batches epoch v → made_at depth batches (epoch + 1) v ≡ epoch + 1
  renewed_made epoch v new =
      subst (λ next. is_fresh depth (holders_at depth batches epoch) (holders_at depth batches next) v ≡ true → made_at depth batches next v ≡ next)
      (sym (add-one epoch)) (renewed_suc epoch v) new

  pub kept_made : (epoch v : ℕ) → IsKept depth batches epoch v → made_at depth batches (epoch + 1) v ≡ made_at depth batches epoch v
  kept_made epoch v old =
      subst (λ next. is_fresh depth (holders_at depth batches epoch) (holders_at depth batches next) v ≡ false
      → made_at depth batches next v ≡ made_at depth batches epoch v) (sym (add-one epoch)) (kept_suc epoch v) old

-- a key of the new epoch
pub record IsNew (depth epoch : ℕ) (list : List Made) (key : PathKey) : Type 0 where
  pub renewed : IsRenewed depth (batches_made list) epoch key.id
  pub made : key.made ≡ epoch + 1
  pub value : HasValue list key

module _ (ways : Laws) (depth epoch leaf : ℕ) (list : List Made) (path : List PathKey) (given : List SealedKey) where
  abbrev batches : List (List Change)
  batches = batches_made list

  abbrev New : PathKey → Type 0
  New key = IsNew depth epoch list key

  -- what is known of the path and of the given keys
  pub record Known : Type 0 where
    pub names : map name_of path ≡ map (node_name depth batches epoch) (upwards depth leaf)
    pub values : All (HasValue list) path
    pub sealed : AreSealedWraps list (node_wraps depth batches (epoch + 1)) given

  module _ (known : Known) where
    -- what is known of the key that seals one which can be taken
    record IsSealer (first : SealedKey) (by : PathKey) : Type 0 where
      pub step : (wrap : _) × IsSealedWrap list wrap first × IsStepUp depth batches epoch wrap
      pub id : by.id ≡ first.by
      pub made : by.made ≡ first.by_made

    sealer : (taken : List PathKey) (first : SealedKey) (by : PathKey) → find (can_take path taken) given ≡ Some first
        → sealer_of path taken first ≡ Some by → IsSealer first by
    sealer taken first by is_first seals =
        let named = and_parts (eqb by.id first.by) (eqb by.made first.by_made)
        (found_passes (is_called first.by first.by_made) (taken ++ path) by seals) in
        record {
          step = found_pair (IsSealedWrap list) (IsStepUp depth batches epoch) (can_take path taken) (node_wraps depth batches (epoch + 1)) given first
              known.sealed (ways.go_up depth epoch batches) is_first;
          id = eqb-true by.id first.by named.0;
          made = eqb-true by.made first.by_made named.1;
        }

    -- what is taken next is new, if what was taken is
    next_new : (taken : List PathKey) (key : PathKey) → All New taken → TakesNext path taken given key → New key
    next_new taken key all next =
        let is = sealer taken next.first next.by next.is_first next.seals in
        let wrap = is.step.1 in
        let up = is.step.2 in
        let value : HasValue list next.by =
        found_has (is_called next.first.by next.first.by_made) (HasValue list) (taken ++ path) next.by
        (All-append (HasValue list) taken path (All-weaker New (HasValue list) (λ key is. is.value) taken all) known.values) next.seals in
        let id : key.id ≡ up.child / 2 = next.unsealed.id ∙ ap id_of (sym wrap.gives ∙ up.gives) in
        record {
          renewed = subst (IsRenewed depth batches epoch) (sym id) up.renewed;
          made = next.unsealed.made ∙ ap made_of (sym wrap.gives ∙ up.gives);
          value = wrap.opens next.by key is.id is.made value next.unsealed;
        }

    pub all_new : (keys taken : List PathKey) → All New taken → TakesAfter path given taken keys → All New keys
    all_new [] taken all after = All-nil New
    all_new (key ∷ keys) taken all after =
        let new = next_new taken key all after.0 in
        All-cons New key keys new (all_new keys (taken ++ key ∷ []) (All-push New taken key all new) after.1)

    -- at the end nothing is left that can be taken
    pub none_left : (keys taken : List PathKey) → TakesAfter path given taken keys → find (can_take path (taken ++ keys)) given ≡ None
    none_left [] taken after = subst (λ all. find (can_take path all) given ≡ None) (sym (append-nil taken)) after
    none_left (key ∷ keys) taken after =
        subst (λ all. find (can_take path all) given ≡ None) (append_assoc taken (key ∷ []) keys) (none_left keys (taken ++ key ∷ []) after.1)

    -- ---- a member that stays takes each new key of its way

    module _ (m : Name) (some : 1 ≤ depth) (valid : IsValid depth batches) (early : suc epoch ≤ length batches)
        (place : place_in depth (holders_at depth batches epoch) m ≡ Some leaf)
        (member : is_member (holders_at depth batches (epoch + 1)) m ≡ true) (taken : List PathKey) (news : All New taken)
        (none : find (can_take path taken) given ≡ None) where
      abbrev at : ℕ → ℕ
      at steps = halved steps leaf

      taken_made : All (λ (key : PathKey). key.made ≡ epoch + 1) taken
      taken_made = All-weaker New (λ (key : PathKey). key.made ≡ epoch + 1) (λ key is. is.made) taken news

      -- the key of a position of the way is at hand by the name that it has at the new epoch
      at_hand : (steps : ℕ) → steps ≤ depth → (IsRenewed depth batches epoch (at steps) → has_position taken (at steps) ≡ true)
          → is_some (find (is_called (at steps) (made_at depth batches (epoch + 1) (at steps))) (taken ++ path)) ≡ true
      at_hand steps up below = elim (cases_Bool (is_fresh depth (holders_at depth batches epoch) (holders_at depth batches (epoch + 1)) (at steps))) [
        | inl new ↦ some_left (is_called (at steps) (made_at depth batches (epoch + 1) (at steps))) taken path
            (subst (λ made. is_some (find (is_called (at steps) made) taken) ≡ true) (sym (renewed_made depth batches epoch (at steps) new))
            (position_called (at steps) (epoch + 1) taken taken_made (below new)))
        | inr old ↦ some_right (is_called (at steps) (made_at depth batches (epoch + 1) (at steps))) taken path
            (subst (λ made. is_some (find (is_called (at steps) made) path) ≡ true) (sym (kept_made depth batches epoch (at steps) old))
            (has_name (made_at depth batches epoch) depth leaf depth 0 steps path (omega arith) known.names (omega arith) up))
      ]

      on_path : (steps : ℕ) → steps ≤ depth → has_position path (at steps) ≡ true
      on_path steps up =
          called_position (at steps) (made_at depth batches epoch (at steps)) path
          (has_name (made_at depth batches epoch) depth leaf depth 0 steps path (omega arith) known.names (omega arith) up)

      -- a given key that cannot be taken, though its position is one of the path and the key that seals it is at hand, was taken
      was_taken : (first : SealedKey) → can_take path taken first ≡ false → has_position path first.gives.id ≡ true
          → is_some (sealer_of path taken first) ≡ true → has_position taken first.gives.id ≡ true
      was_taken first cannot there sealed = elim (and_cases (has_position path first.gives.id) (not (has_position taken first.gives.id) && is_some (sealer_of path taken first)) cannot) [
        | inl away ↦ absurd (false≢true (sym away ∙ there))
        | inr rest ↦ elim (and_cases (not (has_position taken first.gives.id)) (is_some (sealer_of path taken first)) rest) [
          | inl was ↦ not-false (has_position taken first.gives.id) was
          | inr unsealed ↦ absurd (false≢true (sym unsealed ∙ sealed))
        ]
      ]

      pub way_taken : (steps : ℕ) → steps ≤ depth → IsRenewed depth batches epoch (at steps) → has_position taken (at steps) ≡ true
      way_taken zero up new =
          absurd (false≢true (sym (ways.leaf_kept depth epoch leaf batches m some valid early place member).1 ∙ new))
      way_taken (suc steps) up new =
          let found = has_pair (IsSealedWrap list) (λ given. can_take path taken given ≡ false) (node_wraps depth batches (epoch + 1)) given _ known.sealed
          (none_passes (can_take path taken) given none) (ways.way_given depth epoch leaf steps batches m some valid early place member (omega (arith, up)) new) in
          let first = found.0 in
          let is = found.1 in
          let id : first.gives.id ≡ at (suc steps) = ap id_of (sym is.gives) in
          let sealed : is_some (sealer_of path taken first) ≡ true =
          (λ i. is_some (find (is_called (ap id_of (sym is.by) i) (ap made_of (sym is.by) i)) (taken ++ path)))
          ∙ at_hand steps (omega (arith, up)) (way_taken steps (omega (arith, up))) in
          subst (λ v. has_position taken v ≡ true) id
          (was_taken first found.2 (ap (has_position path) id ∙ on_path (suc steps) up) sealed)

    -- ---- a member that does not stay takes nothing

    module _ (m : Name) (place : place_in depth (holders_at depth batches epoch) m ≡ Some leaf)
        (gone : is_member (holders_at depth batches (epoch + 1)) m ≡ false) where
      nothing_next : (key : PathKey) → TakesNext path [] given key → ⊥
      nothing_next key next =
          let is = sealer [] next.first next.by next.is_first next.seals in
          let up = is.step.2 in
          let wrap = is.step.1 in
          let child : next.by.id ≡ up.child = is.id ∙ ap id_of (sym wrap.by ∙ up.by) in
          let made : next.by.made ≡ made_at depth batches (epoch + 1) up.child = is.made ∙ ap made_of (sym wrap.by ∙ up.by) in
          let old : next.by.made ≡ made_at depth batches epoch next.by.id =
          found_has (is_called next.first.by next.first.by_made) (λ (key : PathKey). key.made ≡ made_at depth batches epoch key.id) path next.by
          (made_so (made_at depth batches epoch) (upwards depth leaf) path known.names) next.seals in
          let way = found_has (is_called next.first.by next.first.by_made) (λ (key : PathKey). IsOnWay depth leaf key.id) path next.by
          (ids_have (made_at depth batches epoch) (IsOnWay depth leaf) (upwards depth leaf) path known.names
          (way_has depth leaf (IsOnWay depth leaf) (λ steps up. record { steps = steps; most = up; is = refl }) depth 0 (omega arith))) next.seals in
          let new : IsRenewed depth batches epoch up.child =
          subst (IsRenewed depth batches epoch) (way.is ∙ child) (ways.way_new depth epoch leaf way.steps batches m place gone way.most) in
          omega (arith, made, renewed_made depth batches epoch up.child new, old, made_low depth batches epoch next.by.id)

      pub nothing_taken : (keys : List PathKey) → Takes path given keys → keys ≡ []
      nothing_taken [] takes = refl
      nothing_taken (key ∷ keys) takes = absurd (nothing_next key takes.0)
