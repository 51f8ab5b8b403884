use Rattle.std.proofs.Common.{◌≡◌, ◌<◌, ◌≤◌, ◌++◌, map, length, get_or, sym, ap, ◌∙◌, subst, arith}
use Rattle.std.proofs.lemmas.List.{append-nil, length-map, get_or-map, take_all}
use Rattle.sym_closure.specs.Firsts.{HasSame}
use Rattle.sym_closure.specs.Private.Graphs.{pairs_of, turned}
use Rattle.sym_closure.proofs.FirstLemmas.{HasSame-itself, HasSame-next}
use Rattle.sym_closure.proofs.sent.add_turned.Goals as goal

pub loop-pair-init : goal.loop-pair-init
loop-pair-init c = subst (λ all. HasSame all (pairs_of c.args.graph.now)) (sym (append-nil (pairs_of c.args.graph.now)))
    (HasSame-itself (pairs_of c.args.graph.now))

pub loop-pair-preserved : goal.loop-pair-preserved
loop-pair-preserved c =
    let pairs = c.args.pairs.now in
    let place = c.loop-pair.pair-index in
    let pair = c.pair-item.result in
    let low : place < length (map turned pairs) = omega (arith, c.loop-pair-test.true, length-map pairs turned) in
    let at : turned pair ≡ get_or (map turned pairs) place (turned pair) = ap turned c.pair-item.is
    ∙ sym (get_or-map turned pairs place pair (turned pair) c.loop-pair-test.true) in
    HasSame-next (pairs_of c.args.graph.now) (pairs_of c.loop-pair.graph) (pairs_of c.add.new.self) (map turned pairs) place (turned pair)
    low at c.loop-pair.invariant c.in_ok-add.ensures

pub returns : goal.returns
returns c =
    let pairs = map turned c.args.pairs.now in
    let end : length pairs ≤ c.loop-pair.pair-index = omega (arith, c.loop-pair-test.false, length-map c.args.pairs.now turned) in
    subst (λ all. HasSame (pairs_of c.args.graph.now ++ all) (pairs_of c.loop-pair.graph)) (take_all c.loop-pair.pair-index pairs end)
    c.loop-pair.invariant
