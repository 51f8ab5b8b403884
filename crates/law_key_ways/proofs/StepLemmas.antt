-- Each encryption of a batch goes one step up.
use Rattle.std.proofs.Common.{◌≡◌, ℕ, zero, suc, ◌+◌, ◌-◌, ◌*◌, ◌/◌, ◌^◌, ◌≤◌, Bool, true, List, [], ◌∷◌, map, sym, refl, ap, subst, arith}
use Rattle.std.specs.List.{All, filter, flat_map}
use Rattle.std.proofs.lemmas.List.Elements.{All-nil, All-cons, All-head, All-tail, All-append, All-map, All-filter, All-weaker, filter_passes}
use Rattle.group_terms.specs.Positions.{some_leaf_below}
use Rattle.group_terms.specs.declared.changes.Change.{Change}
use Rattle.group_terms.specs.declared.keys.KeyName.TheVariants.{Node}
use Rattle.group_terms.specs.declared.keys.Wrap.{Wrap}
use Rattle.group_model.specs.Fresh.{is_fresh, node_name}
use Rattle.group_model.specs.Places.{Holders, holders_at}
use Rattle.group_model.specs.Stayed.{kept_leaves}
use Rattle.group_model.specs.Wraps.{falling, node_wraps}
use Rattle.law_key_ways.specs.Laws.{IsRenewed, IsStepUp}

-- what a batch encrypts on the ways up, where these had the leaves before it
module _ (depth epoch : ℕ) (batches : List (List Change)) where
  abbrev pub wrap_by : ℕ → ℕ → Wrap
  wrap_by v child = record { by = node_name depth batches (epoch + 1) child; gives = Node v (epoch + 1) }

  abbrev pub wraps_by : Holders → ℕ → List Wrap
  wraps_by earlier v = map (wrap_by v) (filter (some_leaf_below depth (kept_leaves earlier (holders_at depth batches (epoch + 1)))) (2 * v ∷ (2 * v + 1) ∷ []))

  abbrev pub wraps_below : Holders → ℕ → List Wrap
  wraps_below earlier n = flat_map (wraps_by earlier) (filter (is_fresh depth earlier (holders_at depth batches (epoch + 1))) (falling n))

All-flat_map : {X Y : Type 0} (f : X → List Y) (P : Y → Type 0) (Q : X → Type 0) → ((x : X) → Q x → All P (f x)) → (xs : List X) → All Q xs
    → All P (flat_map f xs)
All-flat_map f P Q each [] h = All-nil P
All-flat_map f P Q each (x ∷ xs) h =
    All-append P (f x) (flat_map f xs) (each x (All-head Q x xs h)) (All-flat_map f P Q each xs (All-tail Q x xs h))

All-falling : (n : ℕ) → All (λ v. (1 ≤ v) × (v ≤ n)) (falling n)
All-falling zero = All-nil (λ v. (1 ≤ v) × (v ≤ 0))
All-falling (suc n) =
    All-cons (λ v. (1 ≤ v) × (v ≤ suc n)) (suc n) (falling n) (omega arith, omega arith)
    (All-weaker (λ v. (1 ≤ v) × (v ≤ n)) (λ v. (1 ≤ v) × (v ≤ suc n)) (λ v h. (h.0, omega (arith, h.1))) (falling n) (All-falling n))

module _ (depth epoch : ℕ) (batches : List (List Change)) where
  abbrev before : Holders
  before = holders_at depth batches epoch

  abbrev fresh : ℕ → Bool
  fresh = is_fresh depth before (holders_at depth batches (epoch + 1))

  pub node_wraps-is : node_wraps depth batches (epoch + 1) ≡ wraps_below depth epoch batches before (2 ^ depth - 1)
  node_wraps-is =
      let same : epoch + 1 - 1 ≡ epoch = omega arith in
      ap (λ at. wraps_below depth epoch batches (holders_at depth batches at) (2 ^ depth - 1)) same

  step_up : (v child : ℕ) → IsRenewed depth batches epoch v → 1 ≤ v → v ≤ 2 ^ depth - 1 → child / 2 ≡ v
      → IsStepUp depth batches epoch (wrap_by depth epoch batches v child)
  step_up v child renewed some inner up = record {
    child = child;
    some = omega (arith, up, some);
    inner = omega (arith, up, some, inner);
    renewed = subst (IsRenewed depth batches epoch) (sym up) renewed;
    by = refl;
    gives = ap (λ v. Node v (epoch + 1)) (sym up);
  }

  steps_up : (v : ℕ) → ((1 ≤ v) × (v ≤ 2 ^ depth - 1)) × (fresh v ≡ true) → All (IsStepUp depth batches epoch) (wraps_by depth epoch batches before v)
  steps_up v h =
      let IsStep : ℕ → Type 0 = λ child. IsStepUp depth batches epoch (wrap_by depth epoch batches v child) in
      let kept = some_leaf_below depth (kept_leaves before (holders_at depth batches (epoch + 1))) in
      let children = 2 * v ∷ (2 * v + 1) ∷ [] in
      All-map (IsStepUp depth batches epoch) (wrap_by depth epoch batches v) (filter kept children)
      (All-filter kept IsStep children
      (All-cons IsStep (2 * v) ((2 * v + 1) ∷ []) (step_up v (2 * v) h.1 h.0.0 h.0.1 (omega arith))
      (All-cons IsStep (2 * v + 1) [] (step_up v (2 * v + 1) h.1 h.0.0 h.0.1 (omega arith)) (All-nil IsStep))))

  pub all_go_up : All (IsStepUp depth batches epoch) (node_wraps depth batches (epoch + 1))
  all_go_up =
      let all = falling (2 ^ depth - 1) in
      subst (All (IsStepUp depth batches epoch)) (sym node_wraps-is)
      (All-flat_map (wraps_by depth epoch batches before) (IsStepUp depth batches epoch) (λ v. ((1 ≤ v) × (v ≤ 2 ^ depth - 1)) × (fresh v ≡ true)) steps_up
      (filter fresh all)
      (λ k d low. (All-filter fresh (λ v. (1 ≤ v) × (v ≤ 2 ^ depth - 1)) all (All-falling (2 ^ depth - 1)) k d low, filter_passes fresh all k d low)))
