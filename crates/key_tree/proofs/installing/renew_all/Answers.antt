use Rattle.std.proofs.Common.{◌≡◌, ◌<◌, ℕ, ◌∙◌, length, get_or, ap, sym, arith}
use Rattle.std.proofs.lemmas.List.{drop_all, get_or-map, length-map}
use Rattle.key_tree.specs.declared.marks.Renewed.{Renewed}
use Rattle.key_tree.specs.Marks.{ids_renewed}
use Rattle.key_tree.proofs.DrawLemmas.{noted, noted-renewed}
use Rattle.key_tree.proofs.installing.renew_all.Goals as goal

pub bounds-made-from : goal.bounds-made-from
bounds-made-from c =
    let at = c.loop-position in
    let v : ℕ = c.position-item.result.id in
    let all = c.args.positions.now in
    let here : get_or (ids_renewed all) at.position-index v ≡ v =
    get_or-map (λ (found : Renewed). found.id) all at.position-index c.position-item.result v c.loop-position-test.true
    ∙ ap (λ (found : Renewed). found.id) (sym c.position-item.is) in
    let low : get_or (ids_renewed all) at.position-index v < length c.args.made.now =
    c.requires at.position-index v (omega (arith, c.loop-position-test.true, length-map all (λ (found : Renewed). found.id))) in
    omega (arith, here, low, c.from.ensures, c.number.ensures.value, at.auto.made)

pub returns-clause-made : goal.returns-clause-made
returns-clause-made c depth leaves long is =
    let at = c.loop-position in
    ap (λ left. noted c.args.epoch at.made (ids_renewed left)) (sym (drop_all at.position-index c.args.positions.now c.loop-position-test.false)) ∙ at.invariant.0
    ∙ ap (noted c.args.epoch c.args.made.now) is ∙ noted-renewed c.args.epoch depth leaves c.args.made.now long (c.a_mark_is_that_of_a_child.ensures.none depth leaves)
