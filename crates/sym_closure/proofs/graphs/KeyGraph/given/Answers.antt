use Rattle.std.proofs.Common.{◌<◌, [], length, sym, ◌∙◌, subst, arith}
use Rattle.std.specs.Prelude.{All, Contains}
use Rattle.std.proofs.lemmas.List.{get_or_read}
use Rattle.std.proofs.lemmas.List.Elements.{All-weaker, All-contains_itself}
use Rattle.sym_closure.specs.Private.Graphs.{Graph, given_by}
use Rattle.sym_closure.proofs.graphs.KeyGraph.given.Goals as goal

pub returns-clause-below : goal.returns-clause-below
returns-clause-below c =
    let graph : Graph = record { keys = c.self.inside.keys; given = c.self.inside.given.items } in
    let number = c.args.number in
    let low : number < length graph.given = (let Q : Graph
    → Type 0 = λ graph. number < length graph.keys in let within : number < length graph.keys =
    subst Q (sym c.self.view_is) c.requires in omega (arith, within, c.self.invariant.sized)) in
    let P : Graph → Type 0 = λ graph. All (λ gives. gives < length graph.keys) c.as_slice.result.now in
    let all : All (λ gives. gives < length graph.keys) (given_by graph number) =
    All-weaker (Contains (given_by graph number)) (λ gives. gives < length graph.keys)
    (λ gives there. c.self.invariant.within number gives there) (given_by graph number) (All-contains_itself (given_by graph number)) in
    subst P c.self.view_is
    (subst (All (λ gives. gives < length graph.keys)) (sym
    (c.as_slice.ensures ∙ get_or_read graph.given number c.index.result.now low c.index.ensures [])) all)
