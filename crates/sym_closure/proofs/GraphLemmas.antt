-- The pairs of a graph, and what they are after keys or pairs were added.
use Rattle.std.proofs.Common.{◌≡◌, ℕ, zero, suc, ◌<◌, ◌≤◌, List, [], ◌∷◌, ◌++◌, Option, Some, None, map, length, get_or, set, sym, refl, ap}
use Rattle.std.proofs.Common.{◌∙◌, subst, inl, inr, arith}
use Rattle.std.specs.Prelude.{Contains, ◌⊎◌, MatchOption, IfSome}
use Rattle.std.specs.List.{range_with_len}
use Rattle.std.proofs.lemmas.Bool.{cases_lt, cases_eq}
use Rattle.std.proofs.lemmas.List.{get_or_past, get_or_push, get_or_default, get_or_append_left, get_or-set_same, get_or-set_other}
use Rattle.std.proofs.lemmas.List.{length_push, length-set}
use Rattle.std.proofs.lemmas.List.Elements.{Contains-append_left, Contains-push, Contains-push_cases, Contains-get_or}
use Rattle.group_terms.specs.declared.keys.KeyName.{KeyName}
use Rattle.group_terms.specs.declared.keys.KeyName.TheVariants.{Traffic}
use Rattle.group_terms.specs.declared.keys.Wrap.{Wrap}
use Rattle.sym_closure.specs.Firsts.{HasSame, AreAmong}
use Rattle.sym_closure.specs.Private.Graphs.{Graph, IsGraph, IsNumberOf, AddsKeys, key_at, given_by, pair_at, pairs_of}
use Rattle.sym_closure.proofs.ContainLemmas.{Contains-map, Contains-from_map, Contains-flat_map, Contains-from_flat_map, Contains-range}
use Rattle.sym_closure.proofs.FirstLemmas.{no_item}

module _ (graph : Graph) where
  given_under : ℕ → List Wrap
  given_under by = map (pair_at graph.keys by) (given_by graph by)

  used : (by gives : ℕ) → Contains (given_by graph by) gives → by < length graph.given
  used by gives c = elim (cases_lt by (length graph.given)) [
    | inl low ↦ low
    | inr high ↦ absurd (no_item gives (subst (λ given. Contains given gives) (get_or_past graph.given by [] high) c))
  ]

  pub Contains-pairs_of : (by gives : ℕ) → Contains (given_by graph by) gives → Contains (pairs_of graph) (pair_at graph.keys by gives)
  unfolding given_under
  Contains-pairs_of by gives c =
      Contains-flat_map given_under (range_with_len 0 (length graph.given)) by (pair_at graph.keys by gives)
      (Contains-range 0 (length graph.given) by (omega arith) (omega (arith, used by gives c)))
      (Contains-map (pair_at graph.keys by) (given_by graph by) gives c)

  pub Contains-from_pairs_of : (pair : Wrap) → Contains (pairs_of graph) pair
      → (by gives : ℕ) × Contains (given_by graph by) gives × (pair_at graph.keys by gives ≡ pair)
  unfolding given_under
  Contains-from_pairs_of pair c =
      let under = Contains-from_flat_map given_under (range_with_len 0 (length graph.given)) pair c in
      let inner = Contains-from_map (pair_at graph.keys under.0) (given_by graph under.0) pair under.2 in
      (under.0, inner.0, inner.1, inner.2)

-- the numbers of a graph that are in use are those of keys
module _ (graph : Graph) (is : IsGraph graph) (by gives : ℕ) (c : Contains (given_by graph by) gives) where
  pub by_below : by < length graph.keys
  by_below = omega (arith, used graph by gives c, is.sized)

-- what gives what at numbers is so for the pairs
AreAmong-pairs : (old new : Graph) → ((by gives : ℕ) → Contains (given_by old by) gives
    → Contains (given_by new by) gives × (pair_at new.keys by gives ≡ pair_at old.keys by gives)) → AreAmong (pairs_of old) (pairs_of new)
AreAmong-pairs old new each pair c =
    let found = Contains-from_pairs_of old pair c in
    let there = each found.0 found.1 found.2 in
    subst (Contains (pairs_of new)) (there.1 ∙ found.3) (Contains-pairs_of new found.0 found.1 there.0)

-- a number more whose list is the default
get_or-push_default : {X : Type 0} (xs : List X) (d : X) (n : ℕ) → get_or (xs ++ d ∷ []) n d ≡ get_or xs n d
get_or-push_default [] d zero = refl
get_or-push_default [] d (suc n) = refl
get_or-push_default (x ∷ xs) d zero = refl
get_or-push_default (x ∷ xs) d (suc n) = get_or-push_default xs d n

-- a key more, that gives none
abbrev pub with_key : Graph → KeyName → Graph
with_key graph key = record { keys = graph.keys ++ key ∷ []; given = graph.given ++ [] ∷ [] }

module _ (graph : Graph) (is : IsGraph graph) (key : KeyName) where
  key_before : (number : ℕ) → number < length graph.keys → key_at (graph.keys ++ key ∷ []) number ≡ key_at graph.keys number
  key_before number low = get_or_append_left graph.keys (key ∷ []) (Traffic 0) number low

  pub key_last : key_at (graph.keys ++ key ∷ []) (length graph.given) ≡ key
  key_last = get_or_push graph.keys key (Traffic 0) (length graph.given) (sym is.sized)

  key_new : (number : ℕ) → length graph.keys ≤ number → number < length (graph.keys ++ key ∷ []) → number ≡ length graph.given
  key_new number high low = omega (arith, high, low, length_push graph.keys key, is.sized)

  same_given : (by : ℕ) → given_by (with_key graph key) by ≡ given_by graph by
  same_given by = get_or-push_default graph.given [] by

  same_pair : (by gives : ℕ) → Contains (given_by graph by) gives → pair_at (graph.keys ++ key ∷ []) by gives ≡ pair_at graph.keys by gives
  same_pair by gives c = λ i. record {
    by = key_before by (by_below graph is by gives c) i;
    gives =
        key_before gives (is.within by gives c) i;
  }

  pub AddsKeys-with_key : AddsKeys graph (with_key graph key)
  AddsKeys-with_key = record {
    keys = (key ∷ [], refl);
    pairs = (
      AreAmong-pairs graph (with_key graph key) (λ by gives c.
          (subst (λ given. Contains given gives) (sym (same_given by)) c, same_pair by gives c)),
      AreAmong-pairs (with_key graph key) graph (λ by gives c.
          let before = subst (λ given. Contains given gives) (same_given by) c in
          (before, sym (same_pair by gives before))),
    );
  }

  pub IsGraph-with_key : (Contains graph.keys key → ⊥) → IsGraph (with_key graph key)
  IsGraph-with_key new = record {
    once = λ one other low_one low_other same. elim (cases_lt one (length graph.keys)) [
      | inl first ↦ elim (cases_lt other (length graph.keys)) [
        | inl second ↦ is.once one other first second (sym (key_before one first) ∙ same ∙ key_before other second)
        | inr last ↦ absurd (new (subst (Contains graph.keys)
            (sym (key_before one first) ∙ same ∙ ap (key_at (graph.keys ++ key ∷ [])) (key_new other last low_other) ∙ key_last)
            (Contains-get_or graph.keys one (Traffic 0) first)))
      ]
      | inr last ↦ elim (cases_lt other (length graph.keys)) [
        | inl second ↦ absurd (new (subst (Contains graph.keys)
            (sym (key_before other second) ∙ sym same ∙ ap (key_at (graph.keys ++ key ∷ [])) (key_new one last low_one) ∙ key_last)
            (Contains-get_or graph.keys other (Traffic 0) second)))
        | inr both ↦ key_new one last low_one ∙ sym (key_new other both low_other)
      ]
    ];
    sized = omega (arith, length_push graph.keys key, length_push {X = List ℕ} graph.given [], is.sized);
    within = λ by gives c. omega (
      arith,
      length_push graph.keys key,
      is.within by gives (subst (λ given. Contains given gives) (same_given by) c),
    );
  }

-- one key gives another
abbrev pub with_pair : Graph → ℕ → ℕ → Graph
with_pair graph by gives = record { keys = graph.keys; given = set graph.given by (given_by graph by ++ gives ∷ []) }

module _ (graph : Graph) (is : IsGraph graph) (by gives : ℕ) (low_by : by < length graph.keys) (low_gives : gives < length graph.keys) where
  given_here : given_by (with_pair graph by gives) by ≡ given_by graph by ++ gives ∷ []
  given_here = get_or-set_same graph.given by (given_by graph by ++ gives ∷ []) [] (omega (arith, low_by, is.sized))

  given_elsewhere : (other : ℕ) → (other ≡ by → ⊥) → given_by (with_pair graph by gives) other ≡ given_by graph other
  given_elsewhere other apart = get_or-set_other graph.given by other (given_by graph by ++ gives ∷ []) [] apart

  -- what is given then was given before, or is what is new
  given_cases : (one another : ℕ) → Contains (given_by (with_pair graph by gives) one) another
      → Contains (given_by graph one) another ⊎ ((one ≡ by) × (another ≡ gives))
  given_cases one another c = elim (cases_eq one by) [
    | inl same ↦ elim (Contains-push_cases (given_by graph by) gives another
        (subst (λ given. Contains given another) (ap (given_by (with_pair graph by gives)) same ∙ given_here) c)) [
          | inl before ↦ inl (subst (λ at. Contains (given_by graph at) another) (sym same) before)
          | inr new ↦ inr (same, sym new)
        ]
    | inr apart ↦ inl (subst (λ given. Contains given another) (given_elsewhere one apart) c)
  ]

  given_still : (one another : ℕ) → Contains (given_by graph one) another → Contains (given_by (with_pair graph by gives) one) another
  given_still one another c = elim (cases_eq one by) [
    | inl same ↦ subst (λ given. Contains given another) (sym (ap (given_by (with_pair graph by gives)) same ∙ given_here))
        (Contains-append_left (given_by graph by) (gives ∷ []) another (subst (λ at. Contains (given_by graph at) another) same c))
    | inr apart ↦ subst (λ given. Contains given another) (sym (given_elsewhere one apart)) c
  ]

  pub IsGraph-with_pair : IsGraph (with_pair graph by gives)
  IsGraph-with_pair = record {
    once = is.once;
    sized = length-set graph.given by (given_by graph by ++ gives ∷ []) ∙ is.sized;
    within = λ one another c. elim (given_cases one another c) [
      | inl before ↦ is.within one another before
      | inr new ↦ omega (arith, new.1, low_gives)
    ];
  }

  pub HasSame-with_pair : HasSame (pairs_of graph ++ pair_at graph.keys by gives ∷ []) (pairs_of (with_pair graph by gives))
  HasSame-with_pair = (
    λ pair c. elim (Contains-push_cases (pairs_of graph) (pair_at graph.keys by gives) pair c) [
      | inl before ↦ AreAmong-pairs graph (with_pair graph by gives) (λ one another k. (given_still one another k, refl)) pair before
      | inr new ↦ subst (Contains (pairs_of (with_pair graph by gives))) new
          (Contains-pairs_of (with_pair graph by gives) by gives
          (subst (λ given. Contains given gives) (sym given_here) (Contains-push (given_by graph by) gives)))
    ],
    λ pair c.
        let found = Contains-from_pairs_of (with_pair graph by gives) pair c in
        elim (given_cases found.0 found.1 found.2) [
          | inl before ↦ Contains-append_left (pairs_of graph) (pair_at graph.keys by gives ∷ []) pair
              (subst (Contains (pairs_of graph)) found.3 (Contains-pairs_of graph found.0 found.1 before))
          | inr new ↦ subst (Contains (pairs_of graph ++ pair_at graph.keys by gives ∷ []))
              (sym (λ i. pair_at graph.keys (new.0 i) (new.1 i)) ∙ found.3) (Contains-push (pairs_of graph) (pair_at graph.keys by gives))
        ],
  )

-- the number of a key is its only one
pub only_number : (graph : Graph) → IsGraph graph → (key : KeyName) (place : Option ℕ)
    → MatchOption place (Contains graph.keys key → ⊥) (λ number. (number < length graph.keys) × (get_or graph.keys number key ≡ key))
    → IfSome place (λ number. (other : ℕ) → IsNumberOf graph key other → other ≡ number)
only_number graph is key None h = tt
only_number graph is key (Some number) h = λ other that.
    is.once other number that.0 h.0 (that.1 ∙ sym h.1 ∙ get_or_default graph.keys number key (Traffic 0) h.0)
