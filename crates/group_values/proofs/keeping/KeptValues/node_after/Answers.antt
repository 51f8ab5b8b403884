use Rattle.std.proofs.Common.{◌≡◌, Some, None, subst, sym, ap, ◌∙◌}
use Rattle.group_values.specs.Values.{Rises, ids_of, last_value, value_of}
use Rattle.group_values.proofs.SearchLemmas.{last_value-over, or_before, some_same}
use Rattle.group_values.proofs.keeping.KeptValues.node_after.Goals as goal

pub returns-in-Some : goal.returns-in-Some
returns-in-Some c list changes value keeps rises last =
    let nodes = c.args.values.now.nodes in
    let found : Some c.in-Some.value ≡ value_of nodes c.args.id =
    sym c.in-Some.is ∙ c.drawn_for.ensures (subst (λ drawn. Rises (ids_of drawn)) (sym c.as_slice.ensures) rises) ∙ ap (λ drawn. value_of drawn c.args.id) c.as_slice.ensures in
    some_same c.in-Some.value value (ap (or_before (last_value list c.args.id)) found ∙ sym (last_value-over list changes c.args.values.now c.args.id) ∙ last)

pub returns-in-None : goal.returns-in-None
returns-in-None c list changes value keeps rises last =
    let nodes = c.args.values.now.nodes in
    let none : None ≡ value_of nodes c.args.id =
    sym c.in-None.is ∙ c.drawn_for.ensures (subst (λ drawn. Rises (ids_of drawn)) (sym c.as_slice.ensures) rises) ∙ ap (λ drawn. value_of drawn c.args.id) c.as_slice.ensures in
    let before : last_value list c.args.id ≡ Some value =
    ap (or_before (last_value list c.args.id)) none ∙ sym (last_value-over list changes c.args.values.now c.args.id) ∙ last in
    some_same c.node.result value (sym c.node.ensures ∙ keeps.nodes c.args.id c.requires value before)
