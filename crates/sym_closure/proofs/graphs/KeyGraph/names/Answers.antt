use Rattle.std.proofs.Common.{◌≡◌, ◌<◌, ◌∷◌, [], ◌++◌, length, take, get_or, sym, ap, ◌∙◌, subst}
use Rattle.std.proofs.lemmas.List.{map_more, take_all, get_or_read}
use Rattle.group_terms.specs.declared.keys.KeyName.TheVariants.{Traffic}
use Rattle.sym_closure.specs.Private.Graphs.{Graph, key_at, keys_at}
use Rattle.sym_closure.proofs.graphs.KeyGraph.names.Goals as goal

pub loop-number-preserved : goal.loop-number-preserved
loop-number-preserved c =
    let keys = c.as_slice-keys.result.now in
    let numbers = c.args.numbers.now in
    let place = c.loop-number.number-index in
    let number = get_or numbers place 0 in
    let P : Graph → Type 0 = λ graph. number < length graph.keys in
    let low : number < length keys = subst (λ all. number < length all) (sym c.as_slice-keys.ensures)
    (subst P (sym c.self.view_is) (c.requires place 0 c.loop-number-test.true)) in
    let name : c.index-keys-number.result ≡ key_at keys number =
    get_or_read keys number c.index-keys-number.result low c.index-keys-number.is (Traffic 0) in
    c.in_ok-push.ensures.ok
    ∙ ap (λ front. front ++ c.index-keys-number.result ∷ []) c.loop-number.invariant
    ∙ ap (λ one. keys_at keys (take place numbers) ++ one ∷ []) name
    ∙ sym (map_more (key_at keys) numbers place 0 c.loop-number-test.true)

pub returns : goal.returns
returns c =
    let P : Graph → Type 0 = λ graph. c.loop-number.names ≡ keys_at graph.keys c.args.numbers.now in
    subst P c.self.view_is
    (subst (λ keys. c.loop-number.names ≡ keys_at keys c.args.numbers.now) c.as_slice-keys.ensures
    (c.loop-number.invariant ∙ ap (keys_at c.as_slice-keys.result.now)
    (take_all c.loop-number.number-index c.args.numbers.now c.loop-number-test.false)))
