-- What a batch encrypts between positions has keys in use: their last values are those of their last changes.
use Rattle.std.proofs.Common.{◌≡◌, ◌⊎◌, ℕ, zero, suc, ◌+◌, ◌-◌, ◌*◌, ◌^◌, ◌<◌, ◌≤◌, Bool, true, false, cond, ◌&&◌, ◌||◌, List, [], ◌∷◌, None, Some, length, map, refl, sym, ap, subst, ◌∙◌, arith, inl, inr}
use Rattle.std.specs.Prelude.{is_some}
use Rattle.std.specs.List.{All, enumerate_from, filter, flat_map, list_any}
use Rattle.std.specs.Option.{unwrap_or}
use Rattle.std.proofs.lemmas.Bool.{cases_Bool, false≢true, or_cases, or_left, or_right}
use Rattle.std.proofs.lemmas.Grind.{pow_more}
use Rattle.std.proofs.lemmas.List.{length-map, take_all}
use Rattle.std.proofs.lemmas.List.Elements.{All-append, All-cons, All-nil}
use Rattle.group_terms.specs.Positions.{is_below, some_leaf_below}
use Rattle.group_terms.specs.declared.changes.Change.{Change}
use Rattle.group_terms.specs.declared.keys.KeyName.TheVariants.{Node}
use Rattle.group_terms.specs.declared.keys.Wrap.{Wrap}
use Rattle.group_values.specs.Values.{Made, batches_made}
use Rattle.group_model.specs.Drawn.{is_held_below}
use Rattle.group_model.specs.Fresh.{is_fresh, last_change, node_name}
use Rattle.group_model.specs.Laws.{EachLeafHasItsPlace}
use Rattle.group_model.specs.Places.{Holders, holders_at, holders_of}
use Rattle.group_model.specs.Stayed.{is_kept, kept_leaves}
use Rattle.group_model.specs.Wraps.{falling, node_wraps, wraps_of}
use Rattle.group_keys.specs.Drawn.{AreDrawn, IsInUse, IsLastDrawn}

-- laws of the crates below
abbrev pub MarksAreThoseOfChildren : Type 0
MarksAreThoseOfChildren =
    (depth : ℕ) (leaves : List Bool) (v : ℕ) → length leaves ≡ 2 ^ depth → 0 < v → v < 2 ^ depth
    → some_leaf_below depth leaves v ≡ (some_leaf_below depth leaves (2 * v) || some_leaf_below depth leaves (2 * v + 1))

abbrev pub LastValuesAreDrawn : Type 0
LastValuesAreDrawn =
    (depth : ℕ) (list : List Made) (v : ℕ) → AreDrawn depth list → 0 < v → v < 2 ^ (depth + 1) → IsInUse depth list v → IsLastDrawn depth list v

-- an encryption between two positions, each with the key that it has after these batches and with its value
pub record IsKnown (depth : ℕ) (list : List Made) (wrap : Wrap) : Type 0 where
  pub by_at : ℕ
  pub by : wrap.by ≡ node_name depth (batches_made list) (length list) by_at
  pub by_last : IsLastDrawn depth list by_at
  pub gives_at : ℕ
  pub gives : wrap.gives ≡ node_name depth (batches_made list) (length list) gives_at
  pub gives_last : IsLastDrawn depth list gives_at

abbrev below_any : ℕ → ℕ → List Bool → ℕ → Bool
below_any depth first passes v = list_any (λ leaf. leaf.1 && is_below depth v leaf.0) (enumerate_from first passes)

-- below a position where somebody stayed a member has a leaf
kept_held : (depth first v : ℕ) (before after : Holders) → below_any depth first (kept_leaves before after) v ≡ true → below_any depth first (map is_some after) v ≡ true
kept_held depth first v before [] some = some
kept_held depth first v before (None ∷ after) some = kept_held depth (first + 1) v before after some
kept_held depth first v before (Some m ∷ after) some =
    let below : Bool = is_below depth v first in
    let later : Bool = below_any depth (first + 1) (map is_some after) v in
    elim (or_cases (is_kept before (Some m) && below) (below_any depth (first + 1) (kept_leaves before after) v) some) [
      | inl here ↦ or_left below later (second (is_kept before (Some m)) below here)
      | inr more ↦ or_right below later (kept_held depth (first + 1) v before after more)
    ]
  where
    second : (a b : Bool) → (a && b) ≡ true → b ≡ true
    second true b h = h
    second false b h = absurd (false≢true h)

-- the encryptions of two children, as far as they pass
all_two : (P : Wrap → Type 0) (p : ℕ → Bool) (f : ℕ → Wrap) (a b : ℕ) → (p a ≡ true → P (f a)) → (p b ≡ true → P (f b)) → All P (map f (filter p (a ∷ b ∷ [])))
all_two P p f a b first second =
    let one : (v : ℕ) → (p v ≡ true → P (f v)) → (rest : List ℕ) → All P (map f rest) → All P (map f (cond (p v) (v ∷ rest) rest)) =
    λ v h rest others. elim (cases_Bool (p v)) [
      | inl passes ↦ subst (λ b. All P (map f (cond b (v ∷ rest) rest))) (sym passes) (All-cons P (f v) (map f rest) (h passes) others)
      | inr fails ↦ subst (λ b. All P (map f (cond b (v ∷ rest) rest))) (sym fails) others
    ] in
    one a first (cond (p b) (b ∷ []) []) (one b second [] (All-nil P))

-- those of all positions from a number down, as far as they pass
all_falling : (P : Wrap → Type 0) (p : ℕ → Bool) (f : ℕ → List Wrap) (n : ℕ) → ((v : ℕ) → 0 < v → v ≤ n → p v ≡ true → All P (f v)) → All P (flat_map f (filter p (falling n)))
all_falling P p f zero each = All-nil P
all_falling P p f (suc n) each =
    let rest : List ℕ = filter p (falling n) in
    let later : All P (flat_map f rest) = all_falling P p f n (λ v some low passes. each v some (omega (arith, low)) passes) in
    elim (cases_Bool (p (suc n))) [
      | inl passes ↦ subst (λ b. All P (flat_map f (cond b (suc n ∷ rest) rest))) (sym passes)
          (All-append P (f (suc n)) (flat_map f rest) (each (suc n) (omega arith) (omega arith) passes) later)
      | inr fails ↦ subst (λ b. All P (flat_map f (cond b (suc n ∷ rest) rest))) (sym fails) later
    ]

-- a fresh position has a key of this epoch
pub fresh_name : (depth : ℕ) (batches : List (List Change)) (epoch v : ℕ) → 0 < epoch
    → is_fresh depth (holders_at depth batches (epoch - 1)) (holders_at depth batches epoch) v ≡ true → last_change depth batches epoch v ≡ Some epoch
unfolding last_change
fresh_name depth batches zero v some fresh = absurd (omega (arith, some))
fresh_name depth batches (suc n) v some fresh =
    let one : suc n - 1 ≡ n = omega arith in
    ap (λ b. cond b (Some (suc n)) (last_change depth batches n v))
    (sym (ap (λ k. is_fresh depth (holders_at depth batches k) (holders_at depth batches (suc n)) v) one) ∙ fresh)

module _ (marks : MarksAreThoseOfChildren) (lasts : LastValuesAreDrawn) (each : EachLeafHasItsPlace)
    (depth : ℕ) (list : List Made) (drawn : AreDrawn depth list) (some : 0 < length list) where
  abbrev batches : List (List Change)
  batches = batches_made list

  abbrev epoch : ℕ
  epoch = length list

  abbrev before : Holders
  before = holders_at depth batches (epoch - 1)

  abbrev now : Holders
  now = holders_at depth batches epoch

  abbrev kept_below : ℕ → Bool
  kept_below v = some_leaf_below depth (kept_leaves before now) v

  now_is : now ≡ holders_of depth batches
  now_is = ap (holders_of depth) (take_all epoch batches (omega (arith, length-map list (λ (made : Made). made.changes))))

  last_of : (v : ℕ) → 0 < v → v < 2 ^ (depth + 1) → kept_below v ≡ true → IsLastDrawn depth list v
  last_of v positive low kept =
      let held : is_held_below depth now v ≡ true = kept_held depth (2 ^ depth) v before now kept in
      lasts depth list v drawn positive low (inr (ap (λ holders. is_held_below depth holders v) (sym now_is) ∙ held))

  -- a key of a fresh position under that of a child below which somebody stayed
  child_known : (v child : ℕ) → 0 < v → v < 2 ^ depth → (child ≡ 2 * v) ⊎ (child ≡ 2 * v + 1) → is_fresh depth before now v ≡ true → kept_below child ≡ true
      → IsKnown depth list (record { by = node_name depth batches epoch child; gives = Node v epoch })
  child_known v child positive inner is_child fresh kept =
      let long : length (kept_leaves before now) ≡ 2 ^ depth = length-map now (is_kept before) ∙ ap length now_is ∙ each depth batches in
      let either : (kept_below (2 * v) || kept_below (2 * v + 1)) ≡ true = elim is_child [
        | inl left ↦ or_left (kept_below (2 * v)) (kept_below (2 * v + 1)) (ap kept_below (sym left) ∙ kept)
        | inr right ↦ or_right (kept_below (2 * v)) (kept_below (2 * v + 1)) (ap kept_below (sym right) ∙ kept)
      ] in
      let below : child < 2 ^ (depth + 1) = grind (arith, is_child, inner, pow_more 2 depth) in
      let above : v < 2 ^ (depth + 1) = omega (arith, inner, pow_more 2 depth) in
      record {
        by_at = child;
        by = refl;
        by_last = last_of child (grind (arith, is_child, positive)) below kept;
        gives_at = v;
        gives = ap (λ made. Node v (unwrap_or made 0)) (sym (fresh_name depth batches epoch v some fresh));
        gives_last = last_of v positive above (marks depth (kept_leaves before now) v long positive inner ∙ either);
      }

  pub all_known : All (IsKnown depth list) (node_wraps depth batches epoch)
  all_known =
      all_falling (IsKnown depth list) (is_fresh depth before now) (wraps_of depth batches epoch) (2 ^ depth - 1) (λ v positive low fresh.
      let inner : v < 2 ^ depth = omega (arith, positive, low) in
      all_two (IsKnown depth list) kept_below (λ child. record { by = node_name depth batches epoch child; gives = Node v epoch }) (2 * v) (2 * v + 1)
      (child_known v (2 * v) positive inner (inl refl) fresh)
      (child_known v (2 * v + 1) positive inner (inr refl) fresh))
