use Rattle.std.proofs.Common.{◌≡◌, ◌∷◌, [], ◌++◌, ap, ◌∙◌, subst}
use Rattle.std.proofs.lemmas.List.{get_or_append_left}
use Rattle.std.proofs.lemmas.Result.{on_ok_weaker}
use Rattle.group_terms.specs.declared.keys.KeyName.TheVariants.{Traffic}
use Rattle.group_terms.specs.declared.keys.Wrap.{Wrap}
use Rattle.sym_closure.specs.Firsts.{HasSame}
use Rattle.sym_closure.specs.Private.Graphs.{key_at, pair_at, pairs_of}
use Rattle.sym_closure.proofs.FirstLemmas.{HasSame-trans, HasSame-append}
use Rattle.sym_closure.proofs.graphs.KeyGraph.add.Goals as goal

pub returns : goal.returns
returns c =
    let old = c.args.self.now in
    let first = c.add_key.new.self in
    let second = c.add_key-2.new.self in
    let new = c.give.new.self in
    let pair = c.args.pair.now in
    let by = c.in_ok-by.by in
    let gives = c.in_ok-gives.gives in
    let more = c.in_ok-gives.ensures.grown.keys in
    let by_key : key_at second.keys by ≡ pair.by = ap (λ keys. key_at keys by) more.1
    ∙ get_or_append_left first.keys more.0 (Traffic 0) by c.in_ok-by.ensures.number.0 ∙ c.in_ok-by.ensures.number.1 in
    let same_pair : pair_at second.keys by gives ≡ pair = λ i. record { by = by_key i; gives = c.in_ok-gives.ensures.number.1 i } in
    let before : HasSame (pairs_of old ++ pair ∷ []) (pairs_of second ++ pair ∷ []) =
    HasSame-append (pairs_of old) (pairs_of second) (pair ∷ [])
    (HasSame-trans (pairs_of old) (pairs_of first) (pairs_of second) c.in_ok-by.ensures.grown.pairs c.in_ok-gives.ensures.grown.pairs)
    in
    let P : Wrap → Type 0 = λ one. HasSame (pairs_of second ++ one ∷ []) (pairs_of new) in
    on_ok_weaker c.give.result (λ given. HasSame-trans (pairs_of old ++ pair ∷ []) (pairs_of second ++ pair ∷ []) (pairs_of new) before
    (subst P same_pair given)) c.give.ensures
