use Rattle.std.proofs.Common.{◌≡◌, ◌<◌, ◌∷◌, [], ◌++◌, List, ℕ, length, set, sym, ap, ◌∙◌, subst, arith}
use Rattle.std.specs.Prelude.{slice_index_or}
use Rattle.std.proofs.lemmas.List.{get_or_read, set-get_or}
use Rattle.sym_closure.specs.Firsts.{HasSame}
use Rattle.sym_closure.specs.Private.Graphs.{Graph, IsGraph, given_by, pair_at, pairs_of}
use Rattle.sym_closure.proofs.GraphLemmas.{IsGraph-with_pair, HasSame-with_pair}
use Rattle.sym_closure.proofs.graphs.KeyGraph.give.Goals as goal

-- the numbers that the key gave before
row : (graph : Graph) (is : IsGraph graph) (by : ℕ) (given : List ℕ) → by < length graph.keys → given ≡ slice_index_or graph.given by given
    → given ≡ given_by graph by
row graph is by given low read = get_or_read graph.given by given (omega (arith, low, is.sized)) read []

pub invariant_of-self : goal.invariant_of-self
invariant_of-self c =
    let graph : Graph = record { keys = c.self.inside.keys; given = c.self.inside.given.items } in
    let by = c.args.by in
    let P : Graph → Type 0 = λ graph. by < length graph.keys in
    let before = row graph c.self.invariant by c.index_mut.result.now (subst P (sym c.self.view_is) c.requires.by) c.index_mut.ensures.value
    in
    let same : set graph.given by c.push.new.self ≡ graph.given = ap (set graph.given by) (c.in_err-push.ensures.err ∙ before)
    ∙ set-get_or graph.given by [] in
    let Q : List (List ℕ) → Type 0 = λ given. IsGraph (record { keys = graph.keys; given = given }) in
    subst Q (sym same) c.self.invariant

pub invariant_of-self-2 : goal.invariant_of-self-2
invariant_of-self-2 c =
    let graph : Graph = record { keys = c.self.inside.keys; given = c.self.inside.given.items } in
    let by = c.args.by in
    let gives = c.args.gives in
    let low_by : by < length graph.keys = (let P : Graph → Type 0 = λ graph. by < length graph.keys in
    subst P (sym c.self.view_is) c.requires.by) in
    let low_gives : gives < length graph.keys = (let P : Graph
    → Type 0 = λ graph. gives < length graph.keys in subst P (sym c.self.view_is) c.requires.gives) in
    let before = row graph c.self.invariant by c.index_mut.result.now low_by c.index_mut.ensures.value in
    let Q : List ℕ → Type 0 = λ given. IsGraph (record { keys = graph.keys; given = set graph.given by given }) in
    subst Q (sym (c.in_ok-push.ensures.ok ∙ ap (λ given. given ++ gives ∷ []) before))
    (IsGraph-with_pair graph c.self.invariant by gives low_by low_gives)

pub returns : goal.returns
returns c =
    let graph : Graph = record { keys = c.self.inside.keys; given = c.self.inside.given.items } in
    let by = c.args.by in
    let gives = c.args.gives in
    let low_by : by < length graph.keys = (let P : Graph → Type 0 = λ graph. by < length graph.keys in
    subst P (sym c.self.view_is) c.requires.by) in
    let low_gives : gives < length graph.keys = (let P : Graph
    → Type 0 = λ graph. gives < length graph.keys in subst P (sym c.self.view_is) c.requires.gives) in
    let before = row graph c.self.invariant by c.index_mut.result.now low_by c.index_mut.ensures.value in
    let P : Graph → Type 0 = λ old. HasSame (pairs_of old ++ pair_at old.keys by gives ∷ [])
    (pairs_of (record { keys = graph.keys; given = set graph.given by c.push.new.self })) in
    let Q : List ℕ → Type 0 = λ given. HasSame (pairs_of graph ++ pair_at graph.keys by gives ∷ [])
    (pairs_of (record { keys = graph.keys; given = set graph.given by given })) in
    subst P c.self.view_is
    (subst Q (sym (c.in_ok-push.ensures.ok ∙ ap (λ given. given ++ gives ∷ []) before))
    (HasSame-with_pair graph c.self.invariant by gives low_by low_gives))
