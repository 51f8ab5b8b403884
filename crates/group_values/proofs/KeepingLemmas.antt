-- Values that take each other's place.
use Rattle.std.proofs.Common.{◌≡◌, ℕ, suc, ◌<◌, cond, List, [], ◌∷◌, ◌++◌, Option, None, Some, length, take, drop, get_or, set, refl, sym, ap, ◌∙◌, arith, inl, inr, length-append}
use Rattle.std.specs.Prelude.{slice_get}
use Rattle.std.specs.List.{fold}
use Rattle.std.specs.Option.{option_map}
use Rattle.std.proofs.lemmas.Bool.{cases_eq, eq-eqb, ne_eqb}
use Rattle.std.proofs.lemmas.Grind.{flat_map-append, fold-append}
use Rattle.std.proofs.lemmas.List.{append-nil, drop_all, take_all, length-set, get_or-set_same, get_or-set_other}
use Rattle.std.proofs.lemmas.Option.{slice_get-get_or}
use Rattle.group_terms.specs.declared.changes.Change.{Change}
use Rattle.group_terms.specs.declared.values.BatchValues.{BatchValues}
use Rattle.group_terms.specs.declared.values.Drawn.{Drawn}
use Rattle.group_terms.specs.declared.values.NodeValue.{NodeValue}
use Rattle.group_values.specs.Values.{Kept, KeepsLast, Made, after_draw, all_drawn, last_value, traffic_value}

abbrev pub taken : List NodeValue → List Drawn → List NodeValue
taken kept nodes = fold (λ now (node : Drawn). set now node.id node.value) kept nodes

pub length-taken : (kept : List NodeValue) (nodes : List Drawn) → length (taken kept nodes) ≡ length kept
length-taken kept [] = refl
length-taken kept (node ∷ nodes) = length-taken (set kept node.id node.value) nodes ∙ length-set kept node.id node.value

-- what is known of a position after its value was taken in, or another's
taken_one : (kept : List NodeValue) (node : Drawn) (v : ℕ) (now : Option NodeValue) → v < length kept
    → ((value : NodeValue) → now ≡ Some value → slice_get kept v ≡ Some value)
    → (value : NodeValue) → after_draw v now node ≡ Some value → slice_get (set kept node.id node.value) v ≡ Some value
taken_one kept node v now low h value is =
    let long : v < length (set kept node.id node.value) = omega (arith, low, length-set kept node.id node.value) in
    slice_get-get_or (set kept node.id node.value) v value long ∙ elim (cases_eq node.id v) [
      | inl here ↦ ap Some (ap (λ k. get_or (set kept k node.value) v value) here ∙ get_or-set_same kept v node.value value low)
          ∙ sym (ap (λ b. cond b (Some node.value) now) (eq-eqb node.id v here)) ∙ is
      | inr other ↦
          let held : slice_get kept v ≡ Some value = h value (sym (ap (λ b. cond b (Some node.value) now) (ne_eqb node.id v other)) ∙ is) in
          ap Some (get_or-set_other kept node.id v node.value value (λ e. other (sym e))) ∙ sym (slice_get-get_or kept v value low) ∙ held
    ]

pub taken_all : (nodes : List Drawn) (kept : List NodeValue) (v : ℕ) (now : Option NodeValue) → v < length kept
    → ((value : NodeValue) → now ≡ Some value → slice_get kept v ≡ Some value)
    → (value : NodeValue) → fold (after_draw v) now nodes ≡ Some value → slice_get (taken kept nodes) v ≡ Some value
taken_all [] kept v now low h value is = h value is
taken_all (node ∷ nodes) kept v now low h value is =
    taken_all nodes (set kept node.id node.value) v (after_draw v now node) (omega (arith, low, length-set kept node.id node.value))
    (taken_one kept node v now low h) value is

pub last_value-more : (list : List Made) (made : Made) (v : ℕ) → last_value (list ++ made ∷ []) v ≡ fold (after_draw v) (last_value list v) made.values.nodes
last_value-more list made v =
    let all : all_drawn (list ++ made ∷ []) ≡ all_drawn list ++ made.values.nodes =
    flat_map-append (λ (made : Made). made.values.nodes) list (made ∷ []) ∙ ap (λ nodes. all_drawn list ++ nodes) (append-nil made.values.nodes) in
    ap (fold (after_draw v) None) all ∙ fold-append (after_draw v) None (all_drawn list) made.values.nodes

slice_get-end : (list : List Made) (made : Made) → slice_get (list ++ made ∷ []) (length list) ≡ Some made
slice_get-end [] made = refl
slice_get-end (first ∷ list) made = slice_get-end list made

traffic_value-more : (list : List Made) (made : Made) → traffic_value (list ++ made ∷ []) (length (list ++ made ∷ [])) ≡ Some made.values.traffic
traffic_value-more list made =
    let long : length (list ++ made ∷ []) ≡ suc (length list) = omega (arith, length-append list (made ∷ [])) in
    ap (traffic_value (list ++ made ∷ [])) long ∙ ap (option_map (λ (made : Made). made.values.traffic)) (slice_get-end list made)

pub KeepsLast-more : (old : Kept) (nodes : List NodeValue) (list : List Made) (changes : List Change) (values : BatchValues)
    → nodes ≡ taken old.nodes values.nodes → KeepsLast old list
    → KeepsLast (record { nodes = nodes; traffic = Some values.traffic }) (list ++ record { changes = changes; values = values } ∷ [])
KeepsLast-more old nodes list changes values is h =
    let made : Made = record { changes = changes; values = values } in
    let long : length nodes ≡ length old.nodes = ap length is ∙ length-taken old.nodes values.nodes in
    record {
      nodes = λ v low value last. ap (λ kept. slice_get kept v) is
          ∙ taken_all values.nodes old.nodes v (last_value list v) (omega (arith, low, long)) (h.nodes v (omega (arith, low, long))) value (sym (last_value-more list made v) ∙ last);
      traffic = sym (traffic_value-more list made);
    }

-- a list of which all was written over
pub written_over : (old new : List NodeValue) → length new ≡ length old → take (length old) (new ++ drop (length new) old) ≡ new
written_over old new same =
    let nothing : drop (length new) old ≡ [] = drop_all (length new) old (omega (arith, same)) in
    ap (λ rest. take (length old) (new ++ rest)) nothing ∙ ap (take (length old)) (append-nil new) ∙ take_all (length old) new (omega (arith, same))
