-- What a batch encrypts is what the list says of its epoch.
-- `wraps_up` puts the first position's part last, since the loop counts down.
use Rattle.std.proofs.Common.{◌≡◌, ℕ, zero, suc, ◌+◌, ◌-◌, ◌*◌, ◌^◌, ◌<◌, ◌≤◌, Bool, true, false, cond, List, [], ◌∷◌, ◌++◌, None, length, get_or, refl, sym, ap, ◌∙◌, subst, arith, inl, inr, append_assoc}
use Rattle.std.proofs.lemmas.Bool.{cases_Bool, lt-ltb, le-ltb}
use Rattle.std.proofs.lemmas.Grind.{pow_more}
use Rattle.std.proofs.lemmas.List.{append-nil, length-append}
use Rattle.std.specs.Prelude.{nat_lt}
use Rattle.std.specs.List.{flat_map, filter, range_with_len}
use Rattle.std.specs.Option.{unwrap_or}
use Rattle.group_terms.specs.Positions.{some_leaf_below}
use Rattle.group_terms.specs.declared.changes.Change.{Change}
use Rattle.group_terms.specs.declared.keys.KeyName.TheVariants.{Node, Traffic}
use Rattle.group_terms.specs.declared.keys.Wrap.{Wrap}
use Rattle.key_tree.specs.declared.marks.Marked.{Marked}
use Rattle.group_model.specs.Fresh.{changed_leaves, is_fresh, node_name}
use Rattle.group_model.specs.Places.{Holders, holders_at}
use Rattle.key_tree.specs.Present.{Present, StandsFor}
use Rattle.group_model.specs.LastChanges.{changes_at}
use Rattle.key_tree.specs.Private.Draws.{is_renewed, renewed_from}
use Rattle.rekey_plan.specs.Private.Plans.{new_wrap, child_wrap, inner_wraps, wraps_up}
use Rattle.tree_leaves.specs.Unchanged.{unchanged_holders}
use Rattle.group_model.specs.Stayed.{kept_leaves, stayed_at}
use Rattle.key_tree.specs.Marks.{IsMarkedFor, fresh_at, holders_then, ids_renewed, installed, is_stayed_below}
use Rattle.group_model.specs.Wraps.{falling, node_wraps, wraps_at, wraps_of}
use Rattle.key_tree.proofs.DrawLemmas.{pow_some}
use Rattle.group_model.proofs.EpochLemmas.{get_or-changes_at, holders_at-all, holders_at-append}
use Rattle.group_model.proofs.WrapLemmas.{flat_map-filter, kept-unchanged_at, map-filter_two}

filter_one : (p : ℕ → Bool) (v : ℕ) (rest : List ℕ) → filter p (v ∷ rest) ≡ cond (p v) (v ∷ []) [] ++ filter p rest
filter_one p v rest = elim (p v) as (λ b. cond b (v ∷ filter p rest) (filter p rest) ≡ cond b (v ∷ []) [] ++ filter p rest) [
  | true ↦ refl
  | false ↦ refl
]

-- those from a position on, so many and then so many more
renewed_apart : (depth : ℕ) (leaves : List Bool) (a b first : ℕ) → renewed_from depth leaves first (a + b) ≡ renewed_from depth leaves first a ++ renewed_from depth leaves (first + a) b
renewed_apart depth leaves zero b first =
    let none : zero + b ≡ b = omega arith in
    let same : first ≡ first + zero = omega arith in
    ap (renewed_from depth leaves first) none ∙ ap (λ n. renewed_from depth leaves n b) same
renewed_apart depth leaves (suc a) b first =
    let one : suc a + b ≡ suc (a + b) = omega arith in
    let later : first + 1 + a ≡ first + suc a = omega arith in
    let front : List ℕ = cond (is_renewed depth leaves first) (first ∷ []) [] in
    ap (renewed_from depth leaves first) one
    ∙ filter_one (is_renewed depth leaves) first (range_with_len (first + 1) (a + b))
    ∙ ap (λ rest. front ++ rest) (renewed_apart depth leaves a b (first + 1))
    ∙ sym (append_assoc front (renewed_from depth leaves (first + 1) a) (renewed_from depth leaves (first + 1 + a) b))
    ∙ ap (λ ids. ids ++ renewed_from depth leaves (first + 1 + a) b) (sym (filter_one (is_renewed depth leaves) first (range_with_len (first + 1) a)))
    ∙ ap (λ n. renewed_from depth leaves first (suc a) ++ renewed_from depth leaves n b) later

-- where no position of a list above m gives anything, those up to m give all
falling_more : (p : ℕ → Bool) (f : ℕ → List Wrap) (m more : ℕ) → ((v : ℕ) → m < v → f v ≡ []) → flat_map f (filter p (falling (more + m))) ≡ flat_map f (filter p (falling m))
falling_more p f m zero none = let here : zero + m ≡ m = omega arith in ap (λ n. flat_map f (filter p (falling n))) here
falling_more p f m (suc more) none =
    let next : suc more + m ≡ suc (more + m) = omega arith in
    let v : ℕ = suc (more + m) in
    let rest : List ℕ = filter p (falling (more + m)) in
    let later : flat_map f rest ≡ flat_map f (filter p (falling m)) = falling_more p f m more none in
    ap (λ n. flat_map f (filter p (falling n))) next ∙ elim (cases_Bool (p v)) [
      | inl passes ↦ ap (λ b. flat_map f (cond b (v ∷ rest) rest)) passes ∙ ap (λ ws. ws ++ flat_map f rest) (none v (omega arith)) ∙ later
      | inr fails ↦ ap (λ b. flat_map f (cond b (v ∷ rest) rest)) fails ∙ later
    ]

module _ (tree : Present) (marked : Marked) where
  wraps_up-append : (xs ys : List ℕ) → wraps_up tree marked (xs ++ ys) ≡ wraps_up tree marked ys ++ wraps_up tree marked xs
  wraps_up-append [] ys = sym (append-nil (wraps_up tree marked ys))
  wraps_up-append (x ∷ xs) ys =
      ap (λ ws. ws ++ inner_wraps tree marked x) (wraps_up-append xs ys) ∙ append_assoc (wraps_up tree marked ys) (wraps_up tree marked xs) (inner_wraps tree marked x)

  -- of the renewed positions, from the highest one down
  wraps_up-falling : (depth : ℕ) (leaves : List Bool) (n : ℕ)
      → wraps_up tree marked (renewed_from depth leaves 1 n) ≡ flat_map (inner_wraps tree marked) (filter (is_renewed depth leaves) (falling n))
  wraps_up-falling depth leaves zero = refl
  wraps_up-falling depth leaves (suc n) =
      let p : ℕ → Bool = is_renewed depth leaves in
      let v : ℕ = suc n in
      let front : List ℕ = renewed_from depth leaves 1 n in
      let rest : List ℕ = filter p (falling n) in
      let one : v ≡ n + 1 = omega arith in
      let last : 1 + n ≡ v = omega arith in
      let split : renewed_from depth leaves 1 v ≡ front ++ cond (p v) (v ∷ []) [] =
      ap (renewed_from depth leaves 1) one ∙ renewed_apart depth leaves n 1 1 ∙ ap (λ m. front ++ cond (p m) (m ∷ []) []) last in
      let later : wraps_up tree marked front ≡ flat_map (inner_wraps tree marked) rest = wraps_up-falling depth leaves n in
      ap (wraps_up tree marked) split ∙ wraps_up-append front (cond (p v) (v ∷ []) []) ∙ elim (cases_Bool (p v)) [
        | inl new ↦ ap (λ b. wraps_up tree marked (cond b (v ∷ []) []) ++ wraps_up tree marked front) new ∙ ap (λ ws. inner_wraps tree marked v ++ ws) later
            ∙ sym (ap (λ b. flat_map (inner_wraps tree marked) (cond b (v ∷ rest) rest)) new)
        | inr old ↦ ap (λ b. wraps_up tree marked (cond b (v ∷ []) []) ++ wraps_up tree marked front) old ∙ later
            ∙ sym (ap (λ b. flat_map (inner_wraps tree marked) (cond b (v ∷ rest) rest)) old)
      ]

  no_inner : (v : ℕ) → 2 ^ tree.depth - 1 < v → inner_wraps tree marked v ≡ []
  no_inner v leaf =
      ap (λ b. cond b (child_wrap tree marked v (2 * v) ++ child_wrap tree marked v (2 * v + 1)) []) (le-ltb v (2 ^ tree.depth) (omega (arith, leaf, pow_some tree.depth)))

-- no more than two encryptions for each position
length-inner_wraps : (tree : Present) (marked : Marked) (v : ℕ) → length (inner_wraps tree marked v) ≤ 2
length-inner_wraps tree marked v = elim (nat_lt v (2 ^ tree.depth)) as (λ b. length (cond b (child_wrap tree marked v (2 * v) ++ child_wrap tree marked v (2 * v + 1)) []) ≤ 2) [
  | true ↦ omega (arith, length-append (child_wrap tree marked v (2 * v)) (child_wrap tree marked v (2 * v + 1)), one (2 * v), one (2 * v + 1))
  | false ↦ omega arith
]
  where
    one : (child : ℕ) → length (child_wrap tree marked v child) ≤ 1
    one child = elim (is_stayed_below tree.depth tree.holders (holders_then tree marked) child) as (λ b. length (cond b (new_wrap tree marked v child ∷ []) []) ≤ 1) [
      | true ↦ omega arith
      | false ↦ omega arith
    ]

length-wraps_up : (tree : Present) (marked : Marked) (vs : List ℕ) → length (wraps_up tree marked vs) ≤ 2 * length vs
length-wraps_up tree marked [] = omega arith
length-wraps_up tree marked (v ∷ vs) =
    omega (arith, length-append (wraps_up tree marked vs) (inner_wraps tree marked v), length-wraps_up tree marked vs, length-inner_wraps tree marked v)

pub wraps_few : (tree : Present) (marked : Marked) (vs : List ℕ) (stayed : Bool) (last : Wrap)
    → length (cond stayed (wraps_up tree marked vs ++ last ∷ []) []) ≤ 2 * length vs + 1
wraps_few tree marked vs true last = omega (arith, length-append (wraps_up tree marked vs) (last ∷ []), length-wraps_up tree marked vs)
wraps_few tree marked vs false last = omega arith

-- of the last batch of a list
module _ (tree : Present) (marked : Marked) (list : List (List Change))
    (kept : unchanged_holders tree.holders (holders_then tree marked) ≡ kept_leaves (holders_at tree.depth list (marked.epoch - 1)) (holders_at tree.depth list marked.epoch))
    (changes : (installed tree marked).changes ≡ changes_at tree.depth list marked.epoch)
    (stayed : marked.stayed ≡ stayed_at tree.depth list marked.epoch)
    (fresh : ids_renewed marked.renewed ≡ fresh_at tree.depth list marked.epoch) where
  abbrev before : Holders
  before = holders_at tree.depth list (marked.epoch - 1)

  abbrev now : Holders
  now = holders_at tree.depth list marked.epoch

  abbrev named : ℕ → ℕ → Wrap
  named v child = record { by = node_name tree.depth list marked.epoch child; gives = Node v marked.epoch }

  child_is : (v child : ℕ) → child < 2 ^ (tree.depth + 1) → child_wrap tree marked v child ≡ cond (some_leaf_below tree.depth (kept_leaves before now) child) (named v child ∷ []) []
  child_is v child low =
      ap (λ leaves. cond (some_leaf_below tree.depth leaves child) (new_wrap tree marked v child ∷ []) []) kept
      ∙ ap (λ made. cond (some_leaf_below tree.depth (kept_leaves before now) child) (record { by = Node child (unwrap_or made 0); gives = Node v marked.epoch } ∷ []) [])
      (ap (λ made. get_or made child None) changes ∙ get_or-changes_at tree.depth list marked.epoch child low)

  inner_is : (v : ℕ) → v < 2 ^ tree.depth → inner_wraps tree marked v ≡ wraps_of tree.depth list marked.epoch v
  inner_is v inner =
      let first = child_is v (2 * v) (omega (arith, inner, pow_more 2 tree.depth)) in
      let second = child_is v (2 * v + 1) (omega (arith, inner, pow_more 2 tree.depth)) in
      ap (λ b. cond b (child_wrap tree marked v (2 * v) ++ child_wrap tree marked v (2 * v + 1)) []) (lt-ltb v (2 ^ tree.depth) inner)
      ∙ (λ i. first i ++ second i)
      ∙ sym (map-filter_two (some_leaf_below tree.depth (kept_leaves before now)) (named v) (2 * v) (2 * v + 1))

  abbrev where_fresh : ℕ → List Wrap
  where_fresh v = cond (is_fresh tree.depth before now v) (inner_wraps tree marked v) []

  fresh_is : (v : ℕ) → 0 < v → v ≤ 2 ^ tree.depth - 1 → cond (is_fresh tree.depth before now v) (wraps_of tree.depth list marked.epoch v) [] ≡ where_fresh v
  fresh_is v some low =
      let inner = inner_is v (omega (arith, some, low)) in
      sym (λ i. cond (is_fresh tree.depth before now v) (inner i) [])

  node_wraps-up : wraps_up tree marked (ids_renewed marked.renewed) ≡ node_wraps tree.depth list marked.epoch
  node_wraps-up =
      let half : ℕ = 2 ^ tree.depth in
      let p : ℕ → Bool = is_fresh tree.depth before now in
      let count : 2 ^ (tree.depth + 1) - 1 ≡ half + (half - 1) = omega (arith, pow_more 2 tree.depth, pow_some tree.depth) in
      ap (wraps_up tree marked) fresh ∙ wraps_up-falling tree marked tree.depth (changed_leaves before now) (2 ^ (tree.depth + 1) - 1)
      ∙ ap (λ n. flat_map (inner_wraps tree marked) (filter p (falling n))) count
      ∙ falling_more p (inner_wraps tree marked) (half - 1) half (no_inner tree marked)
      ∙ flat_map-filter p (inner_wraps tree marked) where_fresh (half - 1) (λ v some low. refl)
      ∙ sym (flat_map-filter p (wraps_of tree.depth list marked.epoch) where_fresh (half - 1) fresh_is)

  abbrev last : List Wrap
  last = record { by = Node 1 marked.epoch; gives = Traffic marked.epoch } ∷ []

  wraps_at-up : cond marked.stayed (wraps_up tree marked (ids_renewed marked.renewed) ++ last) [] ≡ wraps_at tree.depth list marked.epoch
  unfolding wraps_at
  wraps_at-up = λ i. cond (stayed i) (node_wraps-up i ++ last) []

-- whatever list the tree stands for
pub wraps_at-marked : (tree : Present) (marked : Marked) (batch : List Change) (limit : ℕ) (batches : List (List Change))
    → IsMarkedFor tree batch limit marked → StandsFor tree batches
    → cond marked.stayed (wraps_up tree marked (ids_renewed marked.renewed) ++ record { by = Node 1 marked.epoch; gives = Traffic marked.epoch } ∷ []) []
    ≡ wraps_at tree.depth (batches ++ batch ∷ []) marked.epoch
wraps_at-marked tree marked batch limit batches h stands =
    let list : List (List Change) = batches ++ batch ∷ [] in
    let after = h.next batches stands in
    let epoch : suc tree.epoch ≡ marked.epoch = omega (arith, h.ready.epoch) in
    let length_is : marked.epoch ≡ length list = after.1.epoch in
    let before_is : tree.holders ≡ holders_at tree.depth list (marked.epoch - 1) =
    stands.holders ∙ sym (holders_at-all tree.depth batches (marked.epoch - 1) (omega (arith, stands.epoch, h.ready.epoch)))
    ∙ sym (holders_at-append tree.depth batches batch (marked.epoch - 1) (omega (arith, stands.epoch, h.ready.epoch))) in
    let after_is : holders_then tree marked ≡ holders_at tree.depth list marked.epoch =
    after.1.holders ∙ sym (holders_at-all tree.depth list marked.epoch (omega (arith, length_is))) in
    let unchanged : unchanged_holders (holders_at tree.depth list (marked.epoch - 1)) (holders_at tree.depth list marked.epoch)
    ≡ kept_leaves (holders_at tree.depth list (marked.epoch - 1)) (holders_at tree.depth list marked.epoch) =
    subst (λ n. unchanged_holders (holders_at tree.depth list (n - 1)) (holders_at tree.depth list n) ≡ kept_leaves (holders_at tree.depth list (n - 1)) (holders_at tree.depth list n)) epoch
    (kept-unchanged_at tree.depth list tree.epoch after.1.valid (omega (arith, epoch, length_is))) in
    wraps_at-up tree marked list ((λ i. unchanged_holders (before_is i) (after_is i)) ∙ unchanged) (after.1.changes ∙ ap (changes_at tree.depth list) (sym length_is))
    (h.stayed batches stands) (h.fresh batches stands)
