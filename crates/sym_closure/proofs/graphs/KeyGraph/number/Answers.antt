use Rattle.std.proofs.Common.{◌≡◌, ℕ, subst}
use Rattle.std.specs.Prelude.{IfSome}
use Rattle.sym_closure.specs.Private.Graphs.{Graph, IsNumberOf}
use Rattle.sym_closure.proofs.GraphLemmas.{only_number}
use Rattle.sym_closure.proofs.graphs.KeyGraph.number.Goals as goal

pub returns-clause-only : goal.returns-clause-only
returns-clause-only c =
    let graph : Graph = record { keys = c.self.inside.keys; given = c.self.inside.given.items } in
    let key = c.args.key.now in
    let P : Graph → Type 0 = λ graph. IfSome c.place.result (λ number. (other : ℕ) → IsNumberOf graph key other → other ≡ number) in
    subst P c.self.view_is (only_number graph c.self.invariant key c.place.result c.place.ensures)
