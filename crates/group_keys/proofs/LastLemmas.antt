-- The value that a position was given last is that of its last change.
use Rattle.std.proofs.Common.{◌≡◌, ℕ, zero, suc, ◌+◌, ◌-◌, ◌^◌, ◌<◌, ◌≤◌, Bool, true, false, cond, not, eqb, ◌||◌, ◌&&◌, List, [], ◌∷◌, ◌++◌, Option, None, Some, length, take, map, replicate, refl, sym, ap, subst, ◌∙◌, arith, inl, inr, append_assoc, length-append}
use Rattle.std.specs.Prelude.{slice_get, option_and_then, is_some}
use Rattle.std.specs.List.{enumerate_from, filter, fold, list_any, range_with_len}
use Rattle.std.specs.Option.{unwrap_or}
use Rattle.std.proofs.lemmas.Bool.{cases_Bool, cases_eq, eq-eqb, false≢true, ne_eqb, or_cases, or_left, or_parts, or_right}
use Rattle.std.proofs.lemmas.Grind.{flat_map-append, fold-append}
use Rattle.std.proofs.lemmas.List.{append-nil, length-map, map-append, take_all}
use Rattle.group_terms.specs.Names.{Name}
use Rattle.group_terms.specs.Positions.{is_below, some_leaf_below}
use Rattle.group_terms.specs.declared.changes.Change.{Change}
use Rattle.group_terms.specs.declared.values.Drawn.{Drawn}
use Rattle.group_terms.specs.declared.values.NodeValue.{NodeValue}
use Rattle.group_values.specs.Values.{Made, after_draw, all_drawn, batches_made, ids_of, last_value, node_value, value_of}
use Rattle.group_model.specs.Drawn.{drawn_at, is_drawn, is_held_below}
use Rattle.group_model.specs.Fresh.{changed_leaves, is_fresh, is_same_holder, last_change}
use Rattle.group_model.specs.Laws.{EachLeafHasItsPlace, LastChangesStay}
use Rattle.group_model.specs.Places.{Holders, holders_at, holders_of}
use Rattle.group_keys.specs.Drawn.{AreDrawnFrom, IsInUse, IsLastDrawn}

abbrev there : ℕ → List ℕ → Bool
there v ids = list_any (λ id. eqb id v) ids

-- of a range that begins later nothing is there
past_range : (p : ℕ → Bool) (first n v : ℕ) → v < first → there v (filter p (range_with_len first n)) ≡ false
past_range p first zero v less = refl
past_range p first (suc n) v less =
    let later : there v (filter p (range_with_len (first + 1) n)) ≡ false = past_range p (first + 1) n v (omega (arith, less)) in
    let other : eqb first v ≡ false = ne_eqb first v (λ e. absurd (omega (arith, e, less))) in
    elim (p first) as (λ b. there v (cond b (first ∷ filter p (range_with_len (first + 1) n)) (filter p (range_with_len (first + 1) n))) ≡ false) [
      | true ↦ (λ i. other i || later i)
      | false ↦ later
    ]

-- a number of a range is there if it passes
in_range : (p : ℕ → Bool) (first n v : ℕ) → first ≤ v → v < first + n → there v (filter p (range_with_len first n)) ≡ p v
in_range p first zero v from to = absurd (omega (arith, from, to))
in_range p first (suc n) v from to =
    let rest : List ℕ = filter p (range_with_len (first + 1) n) in
    elim (cases_eq first v) [
      | inl here ↦
          let gone : there v rest ≡ false = past_range p (first + 1) n v (omega (arith, here)) in
          elim (cases_Bool (p first)) [
            | inl passes ↦ ap (λ b. there v (cond b (first ∷ rest) rest)) passes ∙ or_left (eqb first v) (there v rest) (eq-eqb first v here) ∙ sym (ap p (sym here) ∙ passes)
            | inr fails ↦ ap (λ b. there v (cond b (first ∷ rest) rest)) fails ∙ gone ∙ sym (ap p (sym here) ∙ fails)
          ]
      | inr other ↦
          let later : there v rest ≡ p v = in_range p (first + 1) n v (omega (arith, from, other)) (omega (arith, to)) in
          elim (cases_Bool (p first)) [
            | inl passes ↦ ap (λ b. there v (cond b (first ∷ rest) rest)) passes ∙ ap (λ b. b || there v rest) (ne_eqb first v other) ∙ later
            | inr fails ↦ ap (λ b. there v (cond b (first ∷ rest) rest)) fails ∙ later
          ]
    ]

-- what is not among the values of a batch stays, and what is gets one of them
not_drawn : (nodes : List Drawn) (v : ℕ) (now : Option NodeValue) → there v (ids_of nodes) ≡ false → fold (after_draw v) now nodes ≡ now
not_drawn [] v now none = refl
not_drawn (node ∷ nodes) v now none =
    let parts = or_parts (eqb node.id v) (there v (ids_of nodes)) none in
    not_drawn nodes v (after_draw v now node) parts.1 ∙ ap (λ b. cond b (Some node.value) now) parts.0

is_drawn_there : (nodes : List Drawn) (v : ℕ) → there v (ids_of nodes) ≡ true
    → (value : NodeValue) × ((now : Option NodeValue) → fold (after_draw v) now nodes ≡ Some value)
is_drawn_there [] v some = absurd (false≢true some)
is_drawn_there (node ∷ nodes) v some = elim (cases_Bool (there v (ids_of nodes))) [
  | inl later ↦ (let found = is_drawn_there nodes v later in (found.0, λ now. found.1 (after_draw v now node)))
  | inr none ↦ elim (or_cases (eqb node.id v) (there v (ids_of nodes)) some) [
    | inl here ↦ (node.value, λ now. not_drawn nodes v (after_draw v now node) none ∙ ap (λ b. cond b (Some node.value) now) here)
    | inr later ↦ absurd (false≢true (sym none ∙ later))
  ]
]

abbrev pub below_any : ℕ → ℕ → List Bool → ℕ → Bool
below_any depth first passes v = list_any (λ leaf. leaf.1 && is_below depth v leaf.0) (enumerate_from first passes)

held_by_same : (before after : Option Name) → is_some after ≡ true → is_same_holder before after ≡ true → is_some before ≡ true
held_by_same before None some same = absurd (false≢true some)
held_by_same None (Some m) some same = absurd (false≢true same)
held_by_same (Some n) (Some m) some same = refl

-- where no leaf below a position changes, and a member has one of them after that, a member had one before
held_stays : (depth first v : ℕ) (before after : Holders) → length before ≡ length after → below_any depth first (changed_leaves before after) v ≡ false
    → below_any depth first (map is_some after) v ≡ true → below_any depth first (map is_some before) v ≡ true
held_stays depth first v [] [] long none some = some
held_stays depth first v [] (a ∷ after) long none some = absurd (omega (arith, long))
held_stays depth first v (b ∷ before) [] long none some = absurd (false≢true some)
held_stays depth first v (b ∷ before) (a ∷ after) long none some =
    let below : Bool = is_below depth v first in
    let parts = or_parts (not (is_same_holder b a) && below) (below_any depth (first + 1) (changed_leaves before after) v) none in
    elim (or_cases (is_some a && below) (below_any depth (first + 1) (map is_some after) v) some) [
      | inr later ↦ or_right (is_some b && below) (below_any depth (first + 1) (map is_some before) v)
          (held_stays depth (first + 1) v before after (omega (arith, long)) parts.1 later)
      | inl here ↦
          let both = both_pass (is_some a) below here in
          let same : is_same_holder b a ≡ true = unchanged (is_same_holder b a) below parts.0 both.1 in
          or_left (is_some b && below) (below_any depth (first + 1) (map is_some before) v) ((λ i. held_by_same b a both.0 same i && both.1 i))
    ]
  where
    both_pass : (a b : Bool) → (a && b) ≡ true → (a ≡ true) × (b ≡ true)
    both_pass true true h = (refl, refl)
    both_pass true false h = absurd (false≢true h)
    both_pass false b h = absurd (false≢true h)

    unchanged : (same below : Bool) → (not same && below) ≡ false → below ≡ true → same ≡ true
    unchanged true below none here = refl
    unchanged false true none here = absurd (false≢true (sym none))
    unchanged false false none here = here

abbrev nobody : ℕ → Holders
nobody n = replicate n None

nobody_below : (depth first n v : ℕ) → below_any depth first (map is_some (nobody n)) v ≡ false
nobody_below depth first zero v = refl
nobody_below depth first (suc n) v = nobody_below depth (first + 1) n v

last_value-more : (list : List Made) (made : Made) (v : ℕ) → last_value (list ++ made ∷ []) v ≡ fold (after_draw v) (last_value list v) made.values.nodes
last_value-more list made v =
    let all : all_drawn (list ++ made ∷ []) ≡ all_drawn list ++ made.values.nodes =
    flat_map-append (λ (made : Made). made.values.nodes) list (made ∷ []) ∙ ap (λ nodes. all_drawn list ++ nodes) (append-nil made.values.nodes) in
    ap (fold (after_draw v) None) all ∙ fold-append (after_draw v) None (all_drawn list) made.values.nodes

pub slice_get-end : (list : List Made) (made : Made) → slice_get (list ++ made ∷ []) (length list) ≡ Some made
slice_get-end [] made = refl
slice_get-end (first ∷ list) made = slice_get-end list made

slice_get-more : (list more : List Made) (k : ℕ) (made : Made) → slice_get list k ≡ Some made → slice_get (list ++ more) k ≡ Some made
slice_get-more [] more k made is = absurd (cc is)
slice_get-more (first ∷ list) more zero made is = is
slice_get-more (first ∷ list) more (suc k) made is = slice_get-more list more k made is

pub node_value-more : (list more : List Made) (v epoch : ℕ) (value : NodeValue) → node_value list v epoch ≡ Some value → node_value (list ++ more) v epoch ≡ Some value
node_value-more list more v zero value is = absurd (cc is)
node_value-more list more v (suc k) value is = at (slice_get list k) refl is
  where
    at : (made : Option Made) → slice_get list k ≡ made → option_and_then (λ (made : Made). value_of made.values.nodes v) made ≡ Some value
        → node_value (list ++ more) v (suc k) ≡ Some value
    at None found is = absurd (cc is)
    at (Some made) found is = ap (option_and_then (λ (made : Made). value_of made.values.nodes v)) (slice_get-more list more k made found) ∙ is

take_front : (front rest : List (List Change)) → take (length front) (front ++ rest) ≡ front
take_front [] rest = refl
take_front (first ∷ front) rest = ap (λ batches. first ∷ batches) (take_front front rest)

abbrev AllLast : ℕ → List Made → Type 0
AllLast depth list = (v : ℕ) → 0 < v → v < 2 ^ (depth + 1) → IsInUse depth list v → IsLastDrawn depth list v

pub none_in_use : (depth : ℕ) → AllLast depth []
none_in_use depth v some low (inl root) = absurd (omega (arith, root.1))
none_in_use depth v some low (inr held) = absurd (false≢true (sym (nobody_below depth (2 ^ depth) (2 ^ depth) v) ∙ held))

module _ (each : EachLeafHasItsPlace) (stay : LastChangesStay) (depth : ℕ) where
  one_more : (done : List Made) (made : Made) → AllLast depth done
      → ids_of made.values.nodes ≡ drawn_at depth (batches_made done ++ made.changes ∷ []) (length (batches_made done) + 1)
      → AllLast depth (done ++ made ∷ [])
  unfolding last_change
  one_more done made last drawn v some low used =
      let list : List Made = done ++ made ∷ [] in
      let before : List (List Change) = batches_made done in
      let after : List (List Change) = before ++ made.changes ∷ [] in
      let n : ℕ = length before in
      let count : n ≡ length done = length-map done (λ (made : Made). made.changes) in
      let longer : batches_made list ≡ after = map-append (λ (made : Made). made.changes) done (made ∷ []) in
      let epoch : length list ≡ suc n = omega (arith, count, length-append done (made ∷ [])) in
      let front : take n after ≡ before = take_front before (made.changes ∷ []) in
      let was : Holders = holders_of depth before in
      let now : Holders = holders_of depth after in
      let was_is : holders_at depth after n ≡ was = ap (holders_of depth) front in
      let now_is : holders_at depth after (suc n) ≡ now = ap (holders_of depth) (take_all (suc n) after (omega (arith, length-append before (made.changes ∷ [])))) in
      let fresh : Bool = is_fresh depth was now v in
      let one : n + 1 - 1 ≡ n = omega arith in
      let next : n + 1 ≡ suc n = omega arith in
      let ids : List ℕ = ids_of made.values.nodes in
      let ids_are : ids ≡ filter (is_drawn depth was now) (range_with_len 1 (2 ^ (depth + 1) - 1)) =
      drawn ∙ (λ i. filter (is_drawn depth ((ap (holders_at depth after) one ∙ was_is) i) ((ap (holders_at depth after) next ∙ now_is) i)) (range_with_len 1 (2 ^ (depth + 1) - 1))) in
      let is_there : there v ids ≡ is_drawn depth was now v =
      ap (there v) ids_are ∙ in_range (is_drawn depth was now) 1 (2 ^ (depth + 1) - 1) v (omega (arith, some)) (omega (arith, low)) in
      let kept : last_change depth after n v ≡ last_change depth before n v =
      sym (stay depth n n v after (omega arith)) ∙ ap (λ batches. last_change depth batches n v) front in
      let last_is : last_change depth (batches_made list) (length list) v ≡ cond fresh (Some (suc n)) (last_change depth before n v) =
      (λ i. last_change depth (longer i) (epoch i) v)
      ∙ (λ i. cond (is_fresh depth (was_is i) (now_is i) v) (Some (suc n)) (kept i)) in
      elim (cases_Bool fresh) [
        | inl new ↦
            let in_use : (eqb v 1 || is_held_below depth now v) ≡ true = elim used [
              | inl root ↦ or_left (eqb v 1) (is_held_below depth now v) (eq-eqb v 1 root.0)
              | inr held ↦ or_right (eqb v 1) (is_held_below depth now v) (ap (λ batches. is_held_below depth (holders_of depth batches) v) (sym longer) ∙ held)
            ] in
            let found = is_drawn_there made.values.nodes v (is_there ∙ (λ i. new i && in_use i)) in
            record {
              value = found.0;
              last = last_value-more done made v ∙ found.1 (last_value done v);
              drawn = ap (λ made. node_value list v (unwrap_or made 0)) (last_is ∙ ap (λ b. cond b (Some (suc n)) (last_change depth before n v)) new)
                  ∙ ap (λ k. node_value list v (suc k)) count
                  ∙ ap (option_and_then (λ (made : Made). value_of made.values.nodes v)) (slice_get-end done made) ∙ found.1 None;
            }
        | inr old ↦
            let parts = or_parts (eqb v 1) (some_leaf_below depth (changed_leaves was now) v) old in
            let held : is_held_below depth now v ≡ true = elim used [
              | inl root ↦ absurd (false≢true (sym parts.0 ∙ eq-eqb v 1 root.0))
              | inr held ↦ ap (λ batches. is_held_below depth (holders_of depth batches) v) (sym longer) ∙ held
            ] in
            let stood : is_held_below depth was v ≡ true = held_stays depth (2 ^ depth) v was now (each depth before ∙ sym (each depth after)) parts.1 held in
            let ih : IsLastDrawn depth done v = last v some low (inr stood) in
            let none : there v ids ≡ false = is_there ∙ ap (λ b. b && (eqb v 1 || is_held_below depth now v)) old in
            record {
              value = ih.value;
              last = last_value-more done made v ∙ not_drawn made.values.nodes v (last_value done v) none ∙ ih.last;
              drawn = ap (λ made. node_value list v (unwrap_or made 0)) (last_is ∙ ap (λ b. cond b (Some (suc n)) (last_change depth before n v)) old ∙ ap (λ k. last_change depth before k v) count)
                  ∙ node_value-more done (made ∷ []) v (unwrap_or (last_change depth before (length done) v) 0) ih.value ih.drawn;
            }
      ]

  pub all_last : (list done : List Made) → AllLast depth done → AreDrawnFrom depth (batches_made done) list → AllLast depth (done ++ list)
  all_last [] done last drawn = subst (AllLast depth) (sym (append-nil done)) last
  all_last (made ∷ list) done last drawn =
      let longer : batches_made done ++ made.changes ∷ [] ≡ batches_made (done ++ made ∷ []) = sym (map-append (λ (made : Made). made.changes) done (made ∷ [])) in
      subst (AllLast depth) (append_assoc done (made ∷ []) list)
      (all_last list (done ++ made ∷ []) (one_more done made last drawn.0) (subst (λ before. AreDrawnFrom depth before list) longer drawn.1))
