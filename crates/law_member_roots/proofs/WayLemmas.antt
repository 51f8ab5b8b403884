-- The keys of a path by the positions on the way from a leaf up to the root.
use Rattle.std.proofs.Common.{◌≡◌, ◌∙◌, ap, arith, inl, inr, refl, subst, sym, ℕ, zero, suc, ◌+◌, ◌/◌, ◌≤◌, true, List, [], ◌∷◌, map, eqb}
use Rattle.std.specs.Prelude.{is_some}
use Rattle.std.specs.List.{All, find}
use Rattle.std.proofs.lemmas.Bool.{and_from, and_parts, cases_Bool, cases_eq, eq-eqb, false≢true, or_cases, or_left, or_right}
use Rattle.std.proofs.lemmas.List.Elements.{All-cons, All-head, All-nil, All-tail}
use Rattle.group_terms.specs.Positions.{halved}
use Rattle.group_terms.specs.declared.keys.KeyName.{KeyName}
use Rattle.group_terms.specs.declared.keys.KeyName.TheVariants.{Node}
use Rattle.group_terms.specs.declared.paths.PathKey.{PathKey}
use Rattle.group_model.specs.Fresh.{upwards}
use Rattle.member_store.specs.Stores.{has_position}
use Rattle.member_store.specs.Takings.{is_called}
use Rattle.law_member_roots.proofs.FoundLemmas.{after_first, some_first, some_later}
use Rattle.law_member_roots.proofs.ReplyLemmas.{head_or, is_empty, rest_of}
use Rattle.law_member_roots.proofs.RootKeyLemmas.{id_of, made_of, name_of}

pub halved_half : (k x : ℕ) → halved k x / 2 ≡ halved (suc k) x
halved_half zero x = refl
halved_half (suc k) x = halved_half k (x / 2)

-- keys of some names, and those that are found by them
module _ (made : ℕ → ℕ) where
  abbrev pub name : ℕ → KeyName
  name v = Node v (made v)

  module _ (v : ℕ) (ids : List ℕ) (key : PathKey) (path : List PathKey) (names : map name_of (key ∷ path) ≡ map name (v ∷ ids)) where
    pub first_id : key.id ≡ v
    first_id = ap (λ names. id_of (head_or (Node 0 0) names)) names

    pub first_made : key.made ≡ made v
    first_made = ap (λ names. made_of (head_or (Node 0 0) names)) names

    pub first_name : name_of key ≡ name v
    first_name = ap (head_or (Node 0 0)) names

    pub later_names : map name_of path ≡ map name ids
    later_names = ap rest_of names

  none_more : (key : PathKey) (path : List PathKey) → map name_of (key ∷ path) ≡ [] → ⊥
  none_more key path names = false≢true (ap is_empty names)

  -- each has the epoch of its position
  pub made_so : (ids : List ℕ) (path : List PathKey) → map name_of path ≡ map name ids → All (λ (key : PathKey). key.made ≡ made key.id) path
  made_so ids [] names = All-nil (λ (key : PathKey). key.made ≡ made key.id)
  made_so [] (key ∷ path) names = absurd (none_more key path names)
  made_so (v ∷ ids) (key ∷ path) names =
      All-cons (λ (key : PathKey). key.made ≡ made key.id) key path (first_made v ids key path names ∙ ap made (sym (first_id v ids key path names)))
      (made_so ids path (later_names v ids key path names))

  -- what holds of all positions holds of those of the keys
  pub ids_have : (P : ℕ → Type 0) (ids : List ℕ) (path : List PathKey) → map name_of path ≡ map name ids → All P ids
      → All (λ (key : PathKey). P key.id) path
  ids_have P ids [] names all = All-nil (λ (key : PathKey). P key.id)
  ids_have P [] (key ∷ path) names all = absurd (none_more key path names)
  ids_have P (v ∷ ids) (key ∷ path) names all =
      All-cons (λ (key : PathKey). P key.id) key path (subst P (sym (first_id v ids key path names)) (All-head P v ids all))
      (ids_have P ids path (later_names v ids key path names) (All-tail P v ids all))

  module _ (depth leaf : ℕ) where
    -- the first key is that of its position
    at_here : (ids : List ℕ) (k at : ℕ) (key : PathKey) (path : List PathKey) → k ≡ at → map name_of (key ∷ path) ≡ map name (halved k leaf ∷ ids)
        → is_some (find (is_called (halved at leaf) (made (halved at leaf))) (key ∷ path)) ≡ true
    at_here ids k at key path here names = some_first (is_called (halved at leaf) (made (halved at leaf))) key path
        (and_from (eqb key.id (halved at leaf)) (eqb key.made (made (halved at leaf)))
        (eq-eqb key.id (halved at leaf) (first_id (halved k leaf) ids key path names ∙ ap (λ k. halved k leaf) here))
        (eq-eqb key.made (made (halved at leaf)) (first_made (halved k leaf) ids key path names ∙ ap (λ k. made (halved k leaf)) here)))

    -- among the keys from a position up to the root is that of each position above it, by its name
    pub has_name : (steps k at : ℕ) (path : List PathKey) → steps + k ≡ depth → map name_of path ≡ map name (upwards steps (halved k leaf)) → k ≤ at
        → at ≤ depth → is_some (find (is_called (halved at leaf) (made (halved at leaf))) path) ≡ true
    has_name zero k at [] sum names from to = absurd (false≢true (sym (ap is_empty names)))
    has_name (suc steps) k at [] sum names from to = absurd (false≢true (sym (ap is_empty names)))
    has_name zero k at (key ∷ path) sum names from to = at_here [] k at key path (omega (arith, sum, from, to)) names
    has_name (suc steps) k at (key ∷ path) sum names from to = elim (cases_eq k at) [
      | inl here ↦ at_here (upwards steps (halved k leaf / 2)) k at key path here names
      | inr other ↦ some_later (is_called (halved at leaf) (made (halved at leaf))) key path
          (has_name steps (suc k) at path (omega (arith, sum))
          (subst (λ v. map name_of path ≡ map name (upwards steps v)) (halved_half k leaf)
          (later_names (halved k leaf) (upwards steps (halved k leaf / 2)) key path names))
          (omega (arith, from, other)) to)
    ]

-- ---- the way

module _ (depth leaf : ℕ) where
  pub record IsOnWay (v : ℕ) : Type 0 where
    pub steps : ℕ
    pub most : steps ≤ depth
    pub is : halved steps leaf ≡ v

  -- what holds so many steps up, for each number of them, holds of the positions on the way
  pub way_has : (P : ℕ → Type 0) → ((at : ℕ) → at ≤ depth → P (halved at leaf)) → (steps k : ℕ) → steps + k ≡ depth → All P (upwards steps (halved k leaf))
  way_has P each zero k sum = All-cons P (halved k leaf) [] (each k (omega (arith, sum))) (All-nil P)
  way_has P each (suc steps) k sum =
      All-cons P (halved k leaf) (upwards steps (halved k leaf / 2)) (each k (omega (arith, sum)))
      (subst (λ v. All P (upwards steps v)) (sym (halved_half k leaf)) (way_has P each steps (suc k) (omega (arith, sum))))

-- ---- keys and their positions

-- the key of a name is that of its position
pub called_position : (v made : ℕ) (keys : List PathKey) → is_some (find (is_called v made) keys) ≡ true → has_position keys v ≡ true
called_position v made [] is = absurd (false≢true is)
called_position v made (key ∷ keys) is = elim (cases_Bool (is_called v made key)) [
  | inl here ↦ or_left (eqb key.id v) (has_position keys v) (and_parts (eqb key.id v) (eqb key.made made) here).0
  | inr other ↦ or_right (eqb key.id v) (has_position keys v)
      (called_position v made keys (ap is_some (sym (after_first (is_called v made) key keys other)) ∙ is))
]

-- a key of a position has the name that all keys there have
pub position_called : (v made : ℕ) (keys : List PathKey) → All (λ (key : PathKey). key.made ≡ made) keys → has_position keys v ≡ true
    → is_some (find (is_called v made) keys) ≡ true
position_called v made [] all is = absurd (false≢true is)
position_called v made (key ∷ keys) all is = elim (or_cases (eqb key.id v) (has_position keys v) is) [
  | inl here ↦ some_first (is_called v made) key keys
      (and_from (eqb key.id v) (eqb key.made made) here (eq-eqb key.made made (All-head (λ (key : PathKey). key.made ≡ made) key keys all)))
  | inr later ↦ some_later (is_called v made) key keys
      (position_called v made keys (All-tail (λ (key : PathKey). key.made ≡ made) key keys all) later)
]
