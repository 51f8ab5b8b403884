-- What a search finds among things whose numbers rise, and among values whose positions rise.
use Rattle.std.proofs.Common.{◌≡◌, ◌≢◌, ℕ, zero, suc, ◌<◌, ◌≤◌, cond, List, [], ◌∷◌, ◌++◌, Option, None, Some, length, map, get_or, refl, sym, ap, ◌∙◌, arith, inl, inr}
use Rattle.std.proofs.Common.{Result, Ok, Err, IfOk, IfErr}
use Rattle.std.specs.List.{All, HoldsAt, fold}
use Rattle.std.specs.List.Sorted.{IsBinarySearchResult, IsNonDecreasingBy}
use Rattle.std.specs.Ordering.{nat_cmp, ordering_index}
use Rattle.std.proofs.lemmas.Bool.{cases_eq, cases_lt, eq-eqb, ne_eqb}
use Rattle.std.proofs.lemmas.Bool.Decides.{nat_tests}
use Rattle.std.proofs.lemmas.Cmp.{ranked}
use Rattle.std.proofs.lemmas.List.{get_or-map, length-map}
use Rattle.group_terms.specs.declared.changes.Change.{Change}
use Rattle.group_terms.specs.declared.values.BatchValues.{BatchValues}
use Rattle.group_terms.specs.declared.values.Drawn.{Drawn}
use Rattle.group_terms.specs.declared.values.NodeValue.{NodeValue}
use Rattle.group_values.specs.Values.{Made, Rises, after_draw, ids_of, last_value, value_of}
use Rattle.group_values.proofs.KeepingLemmas.{last_value-more}

-- of things that have numbers which rise
module _ {X : Type 0} (number : X → ℕ) where
  -- a later one has a greater number
  pub rises_at : (xs : List X) (i j : ℕ) (d : X) → Rises (map number xs) → i < j → j < length xs → number (get_or xs i d) < number (get_or xs j d)
  rises_at [] i j d rises before low = absurd (omega arith)
  rises_at (x ∷ xs) i zero d rises before low = absurd (omega arith)
  rises_at (x ∷ xs) zero (suc j) d rises before low =
      omega (arith, get_or-map number xs j d 0 (omega arith), rises.0 j 0 (omega (arith, length-map xs number)))
  rises_at (x ∷ xs) (suc i) (suc j) d rises before low = rises_at xs i j d rises.1 (omega arith) (omega arith)

  -- so the comparisons with a number rise, as a search asks
  comparisons_rise : (xs : List X) (v : ℕ) → Rises (map number xs) → IsNonDecreasingBy (λ x. ordering_index (nat_cmp (number x) v)) xs
  comparisons_rise xs v rises i j d le low =
      let up : number (get_or xs i d) ≤ number (get_or xs j d) = grind (arith, rises_at xs i j d rises, λ (same : i ≡ j). ap (λ k. number (get_or xs k d)) same) in
      grind (arith, nat_tests)

  -- where a place was found, its number is the one looked for
  pub search_found : (xs : List X) (v : ℕ) (r : Result ℕ ℕ) → IsBinarySearchResult (λ x. nat_cmp (number x) v) xs r
      → IfOk r (HoldsAt (λ x. number x ≡ v) xs)
  search_found xs v (Ok place) found = λ d. ranked _ v _ (sym (found d))
  search_found xs v (Err place) parted = tt

  -- where no place was found, no number is the one looked for
  pub search_absent : (xs : List X) (v : ℕ) (r : Result ℕ ℕ) → IsBinarySearchResult (λ x. nat_cmp (number x) v) xs r → Rises (map number xs)
      → IfErr r (λ place. All (λ x. number x ≢ v) xs)
  search_absent xs v (Ok place) found rises = tt
  search_absent xs v (Err place) parted rises = λ k d low same.
      let halves = parted (comparisons_rise xs v rises) in
      elim (cases_lt k place) [
        | inl below ↦ absurd (omega (arith, same, ranked _ v _ (sym (halves.0 k d (omega arith) below))))
        | inr above ↦ absurd (omega (arith, same, ranked _ v _ (sym (halves.1 k d above low))))
      ]

-- values for other positions leave what was there
pub drawn_absent : (nodes : List Drawn) (v : ℕ) (now : Option NodeValue) → All (λ (node : Drawn). node.id ≢ v) nodes → fold (after_draw v) now nodes ≡ now
drawn_absent [] v now others = refl
drawn_absent (node ∷ nodes) v now others =
    let one : after_draw v now node ≡ now = ap (λ b. cond b (Some node.value) now) (ne_eqb node.id v (others 0 node (omega arith))) in
    ap (λ old. fold (after_draw v) old nodes) one ∙ drawn_absent nodes v now (λ k d low. others (suc k) d (omega arith))

-- where a position is the one looked for, its value is the one
pub drawn_found : (nodes : List Drawn) (v place : ℕ) (now : Option NodeValue) (d : Drawn) → place < length nodes → (get_or nodes place d).id ≡ v → Rises (ids_of nodes)
    → fold (after_draw v) now nodes ≡ Some (get_or nodes place d).value
drawn_found [] v place now d low is rises = absurd (omega arith)
drawn_found (node ∷ nodes) v zero now d low is rises =
    let one : after_draw v now node ≡ Some node.value = ap (λ b. cond b (Some node.value) now) (eq-eqb node.id v is) in
    ap (λ old. fold (after_draw v) old nodes) one
    ∙ drawn_absent nodes v (Some node.value) (λ k e within same. omega (arith, is, same, rises_at (λ (node : Drawn). node.id) (node ∷ nodes) 0 (suc k) e rises (omega arith) (omega arith)))
drawn_found (node ∷ nodes) v (suc place) now d low is rises = drawn_found nodes v place (after_draw v now node) d (omega arith) is rises.1

-- the first of two values that is there
abbrev pub or_before : Option NodeValue → Option NodeValue → Option NodeValue
or_before now None = now
or_before now (Some value) = Some value

or_before-some : (now drawn : Option NodeValue) (value : NodeValue) → or_before (Some value) drawn ≡ or_before now (or_before (Some value) drawn)
or_before-some now None value = refl
or_before-some now (Some drawn) value = refl

-- what was there before counts where nothing was drawn
pub drawn_over : (nodes : List Drawn) (v : ℕ) (now : Option NodeValue) → fold (after_draw v) now nodes ≡ or_before now (value_of nodes v)
drawn_over [] v now = refl
drawn_over (node ∷ nodes) v now =
    elim (cases_eq node.id v) [
      | inl here ↦
          let to = λ (old : Option NodeValue). ap (λ b. cond b (Some node.value) old) (eq-eqb node.id v here) in
          ap (λ old. fold (after_draw v) old nodes) (to now) ∙ drawn_over nodes v (Some node.value) ∙ or_before-some now (value_of nodes v) node.value
          ∙ ap (or_before now) (sym (drawn_over nodes v (Some node.value)) ∙ ap (λ old. fold (after_draw v) old nodes) (sym (to None)))
      | inr other ↦
          let to = λ (old : Option NodeValue). ap (λ b. cond b (Some node.value) old) (ne_eqb node.id v other) in
          ap (λ old. fold (after_draw v) old nodes) (to now) ∙ drawn_over nodes v now
          ∙ ap (or_before now) (ap (λ old. fold (after_draw v) old nodes) (sym (to None)))
    ]

pub last_value-over : (list : List Made) (changes : List Change) (values : BatchValues) (v : ℕ)
    → last_value (list ++ record { changes = changes; values = values } ∷ []) v ≡ or_before (last_value list v) (value_of values.nodes v)
last_value-over list changes values v =
    last_value-more list (record { changes = changes; values = values }) v ∙ drawn_over values.nodes v (last_value list v)

pub some_same : (a b : NodeValue) → Some a ≡ Some b → a ≡ b
some_same a b same = ap (or_value a) same
  where
    or_value : NodeValue → Option NodeValue → NodeValue
    or_value a None = a
    or_value a (Some value) = value
